use Rattle.std.proofs.Common.{◌≡◌, ◌∙◌, ℕ, ap, arith}
use Rattle.std.proofs.lemmas.Option.{same_Some}
use Rattle.qd_catalog.specs.Versions.{Versions, version_at, n_of}
use Rattle.qd_catalog.proofs.catalog.Catalog.may_add.Goals as goal

pub returns-then-newest-n : goal.returns-then-newest-n
returns-then-newest-n c = record {
  may = (
    λ room. record {
      newer = λ k e. (let same = same_Some c.in-Some.newest k (c.in-Some.ensures.n ∙ ap (λ (row : ℕ). n_of (version_at c.args.self.now row)) (ap (λ (v : Versions). v.current) c.self.view_is) ∙ e) in omega arith);
      room = c.has_room.ensures.room room;
      unretired = c.has_room.ensures.unretired room;
      small = c.has_room.ensures.small room;
    },
    λ may. c.has_room.ensures.enough may.room may.unretired may.small,
  );
}
