use Rattle.std.proofs.Common.{◌≡◌, ◌++◌, slice_range}
use Rattle.qd_merge.specs.Outdated.{outdated}
use Rattle.qd_merge.proofs.dedup.push_compared.Given as goal

-- the flags of the rows from a place on are left
abbrev pub invariant-loop-place : goal.invariant-loop-place
invariant-loop-place l = l.gone.items ++ outdated l.keys (slice_range l.block.rows l.place l.to) ≡ l.fn.gone.items ++ outdated l.keys (slice_range l.block.rows l.fn.from l.to)
