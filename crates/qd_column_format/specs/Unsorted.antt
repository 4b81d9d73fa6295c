-- Columns that are no block: the first row that is out of order of time.
use Rattle.std.specs.Prelude.{◌≡◌, ℕ, ◌-◌, ◌<◌, List, ◌⊎◌, length, slice_index_or}
use Rattle.qd_base.specs.declared.cell.Cell.{Cell}
use Rattle.qd_base.specs.declared.cell.Cell.TheVariants as cell
use Rattle.qd_base.specs.declared.schema.ColType.TheVariants as kind
use Rattle.qd_base.specs.Rows.{time_in}
use Rattle.qd_column.specs.Cells.{CellsOf, no_cells}

-- the cells of the designated timestamp
abbrev pub times_in : ℕ → List CellsOf → List Cell
times_in time_col columns = (slice_index_or columns time_col (no_cells kind.Time)).cells

-- the time of a row is NULL, or less than the one before
abbrev pub IsUnsortedAt : List Cell → ℕ → Type 0
IsUnsortedAt times i = (slice_index_or times i cell.Null ≡ cell.Null) ⊎ ((0 < i) × (time_in (slice_index_or times i cell.Null) < time_in (slice_index_or times (i - 1) cell.Null)))

-- no row's is
abbrev pub AreSorted : List Cell → Type 0
AreSorted times = (i : ℕ) → i < length times → IsUnsortedAt times i → ⊥

-- the first row whose time is
pub record IsFirstUnsorted (times : List Cell) (row : ℕ) : Type 0 where
  pub there : row < length times
  pub unsorted : IsUnsortedAt times row
  pub before : (i : ℕ) → i < row → IsUnsortedAt times i → ⊥
