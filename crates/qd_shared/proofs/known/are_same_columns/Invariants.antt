use Rattle.std.proofs.Common.{◌≡◌, ◌<◌, ℕ, slice_get}
use Rattle.qd_shared.proofs.known.are_same_columns.Given as goal

-- the first ones are the same
abbrev pub invariant-loop-i : goal.invariant-loop-i
invariant-loop-i l = (j : ℕ) → j < l.i → slice_get l.one j ≡ slice_get l.other j
