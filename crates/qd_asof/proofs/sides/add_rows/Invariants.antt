use Rattle.qd_asof.proofs.SideLemmas.{AreBeside}
use Rattle.qd_asof.proofs.sides.add_rows.Given as goal

-- the left rows so far stand beside their right rows
abbrev pub invariant-loop-i : goal.invariant-loop-i
invariant-loop-i g l = AreBeside l.left l.right l.choices l.set l.i
