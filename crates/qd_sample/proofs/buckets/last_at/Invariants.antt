use Rattle.std.proofs.Common.{◌-◌, ◌≤◌, length, slice_index}
use Rattle.qd_sample.proofs.buckets.last_at.Given as goal

-- the start before the next one is reached
abbrev pub invariant-loop-next : goal.invariant-loop-next
invariant-loop-next l = (1 ≤ l.next) × (l.next ≤ length l.starts) × (slice_index l.starts (l.next - 1) ≤ l.time)
