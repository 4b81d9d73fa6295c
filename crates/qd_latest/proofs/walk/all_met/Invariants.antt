use Rattle.std.proofs.Common.{◌-◌, length}
use Rattle.qd_latest.specs.Walks.{AreMet}
use Rattle.qd_latest.proofs.walk.all_met.Given as goal

abbrev pub invariant-loop-mark : goal.invariant-loop-mark
invariant-loop-mark g l = AreMet l.rows.blocks l.col (g.D.Dictionary.texts l.met) l.mark.block l.mark.id

abbrev pub decreases-loop-mark : goal.decreases-loop-mark
decreases-loop-mark g l = length l.rows.blocks - l.mark.block
