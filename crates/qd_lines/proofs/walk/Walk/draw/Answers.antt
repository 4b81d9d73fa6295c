use Rattle.qd_lines.specs.Codes.{moment_at}
use Rattle.std.proofs.Common.{◌≡◌, ◌∙◌, ℕ, sym, ap, subst, arith}
use Rattle.qd_ilp.specs.Transaction.{HasCode, moment_of, micros_of, stamp_column}
use Rattle.qd_lines.proofs.WalkLemmas.{columns_drawn, count_drawn, alone_drawn, only_one}
use Rattle.qd_lines.proofs.walk.Walk.draw.Goals as goal

pub draw-requires-clause-named : goal.draw-requires-clause-named
draw-requires-clause-named g c =
    let work = c.requires.walks.0 in
    let h = c.requires.walks.1 in
    c.place_of-place.ensures.named work.schemas (c.seek.ensures.all work.schemas h.covers) h.schemas

pub tell-requires : goal.tell-requires
tell-requires g c =
    let work = c.requires.walks.0 in
    let h = c.requires.walks.1 in
    record {
      usable = c.place_of-place.ensures.usable work.schemas (c.seek.ensures.all work.schemas h.covers) h.schemas;
      draws = c.in_ok-draw.ensures.draws;
      keeps = (c.args.self.now.cells, c.in_default.ensures.keeps);
      stamp = only_one c.args.self.now.stamp c.get-stamp.result.now stamp_column h.stamp c.get-stamp.ensures.item;
    }

pub returns-clause-ok : goal.returns-clause-ok
returns-clause-ok g c work h =
    let row = c.args.row.now in
    let now = c.args.now in
    let place = c.place_of-place.ensures.place work.schemas row (c.seek.ensures.all work.schemas h.covers) h.schemas (sym c.table-2.ensures.table) in
    let moment : moment_at c.moment_of-moment.result ≡ moment_of now row.moment = c.moment_of-moment.ensures.moment ∙ ap (moment_of now) c.stamp.ensures.stamp in
    let code = c.in_default.ensures.code work.schemas now place moment in
    let keeps = c.in_default.ensures.keeps in
    let draws = c.in_ok-draw.ensures.draws in
    let p = c.place_of-place.result in
    let draft = c.draw.new.self in
    let n = c.args.self.now.cells in (
      λ k has. code.none k (subst (λ (m : ℕ). HasCode work.schemas m now row k) (sym h.cells) has),
      record {
        fresh_is = place.fresh;
        added = columns_drawn work.schemas row p draft n place draws keeps;
        count = count_drawn work.schemas row p draft n place draws keeps;
        few = keeps.few;
        room = λ is. let lt = keeps.room is in let same = place.tables in omega arith;
        fits = let f = keeps.fits in let same = h.cells in omega arith;
        alone = alone_drawn work.schemas row p draft n place draws keeps;
      },
    )

pub returns-clause-taken : goal.returns-clause-taken
returns-clause-taken g c work h taken =
    let row = c.args.row.now in
    let now = c.args.now in
    let place = c.place_of-place.ensures.place work.schemas row (c.seek.ensures.all work.schemas h.covers) h.schemas (sym c.table-2.ensures.table) in
    let moment : moment_at c.moment_of-moment.result ≡ moment_of now row.moment = c.moment_of-moment.ensures.moment ∙ ap (moment_of now) c.stamp.ensures.stamp in
    c.in_ok-tell.ensures.told work.schemas now place (c.micros_of.ensures.micros ∙ ap micros_of moment) work.ops taken
