use Rattle.std.proofs.Common.{List, map, take}
use Rattle.std.specs.List.{fold}
use Rattle.qd_base.specs.declared.op.Op.TheVariants as op
use Rattle.qd_base.specs.declared.schema.Schema.{Schema}
use Rattle.qd_base.specs.Schemas.{schemas_step}
use Rattle.qd_lines.specs.Overlays.{Covers}
use Rattle.qd_lines.proofs.walk.widen.Given as goal

-- the columns so far are added
abbrev pub invariant-loop-col : goal.invariant-loop-col
invariant-loop-col l = (all : List Schema) → Covers l.fn.overlay all → Covers l.overlay (fold schemas_step all (map (op.AddColumn l.table) (take l.col-index l.added)))
