use Rattle.std.proofs.Common.{sym, ap, ◌∙◌}
use Rattle.std.specs.Option.{option_or}
use Rattle.qd_base.specs.Schemas.{schema_of}
use Rattle.qd_lines.proofs.OverlayLemmas.{found-base, found-own, not-found}
use Rattle.qd_lines.proofs.overlay.Overlay.spot.Goals as goal

pub returns-in-Some : goal.returns-in-Some
returns-in-Some c = record { schema = found-own c.args.self.now.own c.args.name.now c.in-Some.i (schema_of c.args.self.now.base.now c.args.name.now) c.in-Some.ensures.position }

pub returns-in-Some-find : goal.returns-in-Some-find
returns-in-Some-find c = record { schema = found-base c.args.self.now.own c.args.self.now.base.now c.args.name.now c.in-Some-find.i c.in-None.ensures.position c.in-Some-find.ensures.position }

pub returns-in-None-find : goal.returns-in-None-find
returns-in-None-find c =
    record {
      schema =
          sym (not-found c.args.self.now.base.now c.args.name.now (sym c.in-None-find.ensures.position))
          ∙ ap (λ p. option_or p (schema_of c.args.self.now.base.now c.args.name.now)) (sym (not-found c.args.self.now.own c.args.name.now (sym c.in-None.ensures.position)));
    }
