use Rattle.std.proofs.Common.{◌≤◌, ◌<◌, ℕ, get_or}
use Rattle.qd_merge.proofs.order.first_from.Given as goal

-- each time so far is earlier
abbrev pub invariant-loop-place : goal.invariant-loop-place
invariant-loop-place l = (k : ℕ) → l.fn.from ≤ k → k < l.place → get_or l.times k 0 < l.fn.time
