-- What rows add to the files of a column.
use Rattle.std.specs.Prelude.{◌≡◌, ℕ, List, ◌++◌, length, take}
use Rattle.qd_base.specs.declared.cell.Cell.{Cell}
use Rattle.qd_base.specs.declared.schema.ColType.{ColType}
use Rattle.qd_column.specs.Cells.{CellsOf}
use Rattle.qd_column_format.specs.declared.encode.ColumnBytes.{ColumnBytes}
use Rattle.qd_column_format.specs.Spelling.{main_of, aux_of, SpellsColumn}

abbrev pub column_of : ColType → List Cell → CellsOf
column_of kind cells = record { kind = kind; cells = cells }

-- the bytes of a column spell it
abbrev pub SpellsItself : CellsOf → Type 0
SpellsItself column = SpellsColumn (main_of column) (aux_of column) column

-- the first rows of a column
abbrev pub first_rows : ℕ → CellsOf → CellsOf
first_rows n column = record column { cells = take n column.cells }

-- Behind the bytes of the first rows they are the bytes of all rows, and the places are where those end.
pub record IsAdded (from : ℕ) (column : CellsOf) (bytes : ColumnBytes) : Type 0 where
  pub main : main_of (first_rows from column) ++ bytes.main ≡ main_of column
  pub main_at : bytes.main_at ≡ length (main_of (first_rows from column))
  pub aux : aux_of (first_rows from column) ++ bytes.aux ≡ aux_of column
  pub aux_at : bytes.aux_at ≡ length (aux_of (first_rows from column))
