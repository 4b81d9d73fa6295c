use Rattle.std.proofs.Common.{◌≡◌, ℕ, ◌-◌, ◌<◌, map, take, get_or}
use Rattle.std.specs.List.Sorted.{IsNonDecreasing}
use Rattle.qd_column.specs.Cells.{time_cell}
use Rattle.qd_column_format.specs.Unsorted.{IsUnsortedAt}
use Rattle.qd_column_format.proofs.block.first_unsorted.Given as goal

-- the times so far are in order
abbrev pub invariant-loop-i : goal.invariant-loop-i
invariant-loop-i l = record {
  sorted : (k : ℕ) → k < l.i → IsUnsortedAt (map time_cell l.times) k → ⊥;
  rises : IsNonDecreasing (take l.i l.times);
  first : l.i ≡ 0 → l.last ≡ 0;
  last : 0 < l.i → l.last ≡ get_or l.times (l.i - 1) 0;
}
