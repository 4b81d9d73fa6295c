use Rattle.std.proofs.Common.{◌≡◌, ◌≤◌, ◌-◌, ◌++◌, length, map, slice_range}
use Rattle.qd_time.specs.Units.{unit_of}
use Rattle.qd_merge.specs.Acts.{before, between, partitions}
use Rattle.qd_merge.specs.Shares.{new_share}
use Rattle.qd_merge.proofs.shares.push_new_shares.Given as goal

-- the partitions from a place on are left
abbrev pub invariant-loop-place : goal.invariant-loop-place
invariant-loop-place l = l.list.items ++ map (new_share (unit_of l.unit) l.times) (partitions (unit_of l.unit) (slice_range l.times l.place l.last)) ≡ l.fn.list.items ++ map (new_share (unit_of l.unit) l.times) (partitions (unit_of l.unit) (between l.fn.from l.fn.to l.times))

abbrev pub decreases-loop-place : goal.decreases-loop-place
decreases-loop-place l = length l.times - l.place
