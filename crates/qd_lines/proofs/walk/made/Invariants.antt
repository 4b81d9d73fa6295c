use Rattle.std.proofs.Common.{◌≡◌, take}
use Rattle.qd_lines.proofs.walk.made.Given as goal

-- the columns so far are copied
abbrev pub invariant-loop-col : goal.invariant-loop-col
invariant-loop-col l = l.cols ≡ take l.col-index l.added
