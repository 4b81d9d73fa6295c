use Rattle.std.proofs.Common.{List, map, subst}
use Rattle.std.specs.List.{fold}
use Rattle.std.proofs.lemmas.List.{take_all}
use Rattle.qd_base.specs.declared.op.Op.TheVariants as op
use Rattle.qd_base.specs.declared.schema.Col.{Col}
use Rattle.qd_base.specs.Schemas.{schemas_step}
use Rattle.qd_lines.specs.Overlays.{Covers}
use Rattle.qd_lines.proofs.walk.widen.Goals as goal

pub returns : goal.returns
returns c =
    record {
      overlay = λ all covers.
          subst (λ (cols : List Col). Covers c.loop-col.overlay (fold schemas_step all (map (op.AddColumn c.args.table.now) cols))) (take_all c.loop-col.col-index c.args.added.now c.loop-col-test.false)
          (c.loop-col.invariant all covers);
    }
