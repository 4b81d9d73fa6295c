use Rattle.std.proofs.Common.{◌≡◌, ◌-◌, ◌++◌, drop, length}
use Rattle.qd_merge.specs.Outdated.{outdated}
use Rattle.qd_merge.proofs.dedup.outdated.Given as goal

-- the flags of the rows from a place on are left
abbrev pub invariant-loop-place : goal.invariant-loop-place
invariant-loop-place l = l.gone.items ++ outdated l.keys (drop l.place l.block.rows) ≡ outdated l.keys l.block.rows

abbrev pub decreases-loop-place : goal.decreases-loop-place
decreases-loop-place l = length l.block.rows - l.place
