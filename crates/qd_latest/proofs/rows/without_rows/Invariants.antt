use Rattle.std.proofs.Common.{◌≡◌, [], take}
use Rattle.qd_latest.proofs.rows.without_rows.Given as goal

abbrev pub invariant-loop-b : goal.invariant-loop-b
invariant-loop-b g l = l.empty ≡ record { left = l.rows.left; right = l.rows.right; blocks = take l.b l.rows.blocks; places = [] }
