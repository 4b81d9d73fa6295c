use Rattle.std.proofs.Common.{List, map, take}
use Rattle.std.specs.List.{fold}
use Rattle.qd_base.specs.declared.op.Op.{Op}
use Rattle.qd_base.specs.declared.op.Op.TheVariants as op
use Rattle.qd_ilp.specs.Transaction.{joined}
use Rattle.qd_lines.proofs.walk.open.Given as goal

-- the columns so far are taken
abbrev pub invariant-loop-col : goal.invariant-loop-col
invariant-loop-col g l =
    (ops : List Op) → g.T.OpSink.taken l.fn.sink ops → g.T.OpSink.taken l.sink (fold joined ops (map (op.AddColumn l.place.name.now) (take l.col-index l.added)))
