use Rattle.std.proofs.Common.{ℕ, ◌<◌, pos, get_or, FitsSigned}
use Rattle.std.specs.Int.{w64}
use Rattle.qd_column_format.proofs.words.are_longs.Given as goal

-- the numbers so far are of 64 bits
abbrev pub invariant-loop-i : goal.invariant-loop-i
invariant-loop-i l = (k : ℕ) → k < l.i → FitsSigned w64 (get_or l.numbers k (pos 0))
