use Rattle.std.proofs.Common.{ℕ, ◌<◌, ◌≤◌, get_or}
use Rattle.qd_group.proofs.pairs.bound_of.Given as goal

-- the numbers so far
abbrev pub invariant-loop-number : goal.invariant-loop-number
invariant-loop-number l = (k d : ℕ) → k < l.number-index → get_or l.numbers k d ≤ l.greatest
