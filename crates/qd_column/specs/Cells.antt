-- Columns as contracts see them, and the cells that numbers stand for. QuestDB documentation: data types.
use Rattle.std.specs.Prelude.{◌≡◌, ℕ, ℤ, Bool, List, [], ◌∷◌, ◌++◌, ◌==◌, Option, Some, None, if◌then◌else◌, fold, map, slice_index_or}
use Rattle.std.specs.Ordering.{int_eq}
use Rattle.qd_base.specs.declared.cell.Cell.{Cell}
use Rattle.qd_base.specs.declared.cell.Cell.TheVariants as cell
use Rattle.qd_base.specs.declared.limits.TheConstants.{NULL_LONG, NULL_TIME}
use Rattle.qd_base.specs.declared.schema.ColType.{ColType}

-- a column: the kind of its cells, and a cell for each row
pub record CellsOf : Type 0 where
  pub kind : ColType
  pub cells : List Cell

-- a column without rows
abbrev pub no_cells : ColType → CellsOf
no_cells kind = record { kind = kind; cells = [] }

-- a column with one cell more
abbrev pub with_cell : CellsOf → Cell → CellsOf
with_cell column x = record column { cells = column.cells ++ x ∷ [] }

-- the cell of a row; a row that the column lacks holds NULL
abbrev pub cell_of_row : CellsOf → ℕ → Cell
cell_of_row column i = slice_index_or column.cells i cell.Null

-- the cells at some places, in the order of the places
abbrev pub cells_at : CellsOf → List ℕ → CellsOf
cells_at column places = record { kind = column.kind; cells = map (cell_of_row column) places }

-- the cell that a number of a LONG column stands for
abbrev pub long_cell : ℤ → Cell
long_cell x = if int_eq x NULL_LONG then cell.Null else cell.Long x

-- the cell that a number of a TIMESTAMP column stands for
abbrev pub time_cell : ℕ → Cell
time_cell t = if t == NULL_TIME then cell.Null else cell.Time t

-- the cell of a value that may be none
abbrev pub long_or_null : Option ℤ → Cell
long_or_null None = cell.Null
long_or_null (Some x) = cell.Long x

abbrev pub time_or_null : Option ℕ → Cell
time_or_null None = cell.Null
time_or_null (Some t) = cell.Time t

abbrev pub text_or_null : Option (List ℕ) → Cell
text_or_null None = cell.Null
text_or_null (Some t) = cell.Text t
