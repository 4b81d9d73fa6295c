use Rattle.std.proofs.Common.{◌≡◌, take}
use Rattle.qd_column_files.proofs.growing.BlockTail.copy.Given as goal

-- the tails so far are copied
abbrev pub invariant-loop-tail : goal.invariant-loop-tail
invariant-loop-tail l = l.columns.items ≡ take l.tail-index l.tail-items
