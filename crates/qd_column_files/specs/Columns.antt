-- What a part asks of each of its columns.
use Rattle.std.specs.Prelude.{◌≡◌, ◌⊎◌, ℕ, ◌-◌, ◌<◌, Bool, true, false, nat_eq, List, length, slice_index_or}
use Rattle.qd_base.specs.declared.cell.Cell.{Cell}
use Rattle.qd_base.specs.declared.cell.Cell.TheVariants as cell
use Rattle.qd_base.specs.declared.limits.TheConstants.{MAX_TIME}
use Rattle.qd_base.specs.declared.part.Part.{Part}
use Rattle.qd_base.specs.declared.schema.ColType.{ColType}
use Rattle.qd_base.specs.declared.schema.ColType.TheVariants as kind
use Rattle.qd_base.specs.declared.schema.Schema.{Schema}
use Rattle.qd_base.specs.Rows.{time_in}
use Rattle.qd_block.specs.Blocks.{kinds_in}
use Rattle.qd_column.specs.Cells.{CellsOf}
use Rattle.qd_column_format.specs.Unsorted.{IsUnsortedAt}

-- the kind of a column of a table
abbrev pub kind_of : Schema → ℕ → ColType
kind_of s col = slice_index_or (kinds_in s.cols) col kind.Time

-- whether a column is the designated timestamp
abbrev pub is_designated : Schema → ℕ → Bool
is_designated s col = nat_eq col s.time_col

-- the time of a row, which is 0 where it has none
abbrev pub time_at : List Cell → ℕ → ℕ
time_at cells row = time_in (slice_index_or cells row cell.Null)

-- A time breaks the rules of its column: it is past the greatest timestamp; or it is a designated one, and NULL or
-- less than the one before.
abbrev pub IsUntimelyAt : Bool → List Cell → ℕ → Type 0
IsUntimelyAt false cells row = MAX_TIME < time_at cells row
IsUntimelyAt true cells row = (MAX_TIME < time_at cells row) ⊎ IsUnsortedAt cells row

-- none does
abbrev pub AreTimely : Bool → List Cell → Type 0
AreTimely designated cells = (row : ℕ) → row < length cells → IsUntimelyAt designated cells row → ⊥

-- the designated times of a part run from its first to its last
abbrev pub HasEnds : Bool → Part → List Cell → Type 0
HasEnds false p cells = Unit {0}
HasEnds true p cells = (time_at cells 0 ≡ p.lo) × (time_at cells (p.rows - 1) ≡ p.hi)

-- A column of a part of a table, by its number.
pub record IsColumnOf (s : Schema) (p : Part) (col : ℕ) (column : CellsOf) : Type 0 where
  pub kind : column.kind ≡ kind_of s col
  pub rows : length column.cells ≡ p.rows
  pub timely : AreTimely (is_designated s col) column.cells
  pub ends : HasEnds (is_designated s col) p column.cells
