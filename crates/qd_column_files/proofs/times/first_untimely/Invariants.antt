use Rattle.std.proofs.Common.{ℕ, ◌<◌, map}
use Rattle.qd_column.specs.Cells.{time_cell}
use Rattle.qd_column_files.specs.Columns.{IsUntimelyAt}
use Rattle.qd_column_files.proofs.times.first_untimely.Given as goal

-- none of the rows so far
abbrev pub invariant-loop-i : goal.invariant-loop-i
invariant-loop-i l = (k : ℕ) → k < l.i → IsUntimelyAt l.is_designated (map time_cell l.times) k → ⊥
