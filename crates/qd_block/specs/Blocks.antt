-- Rows that are kept by columns.
use Rattle.std.specs.Prelude.{◌≡◌, ◌≢◌, ℕ, ◌+◌, ◌<◌, ◌≤◌, List, [], ◌∷◌, ◌++◌, Some, length, map, fold, take, All, slice_get, slice_index_or, slice_range}
use Rattle.std.specs.List.{range_with_len, AllByRecursion, AllZip}
use Rattle.qd_base.specs.declared.cell.Cell.{Cell}
use Rattle.qd_base.specs.declared.cell.Cell.TheVariants as cell
use Rattle.qd_base.specs.declared.limits.TheConstants.{MAX_COLUMNS}
use Rattle.qd_base.specs.declared.schema.ColType.{ColType}
use Rattle.qd_base.specs.declared.schema.ColType.TheVariants as kind
use Rattle.qd_base.specs.declared.schema.Col.{Col}
use Rattle.qd_base.specs.Rows.{Row, cell_at, put}
use Rattle.qd_base.specs.Laws.{IsInOrder}
use Rattle.qd_base.specs.Lawful.{Takes}
use Rattle.qd_column.specs.Cells.{CellsOf, cell_of_row}

-- the row of a number: its cell in each column
abbrev pub row_at : List CellsOf → ℕ → Row
row_at columns i = map (λ c. cell_of_row c i) columns

-- the first n rows
abbrev pub rows_of : ℕ → List CellsOf → List Row
rows_of n columns = map (row_at columns) (range_with_len 0 n)

abbrev pub kinds_of : List CellsOf → List ColType
kinds_of columns = map (λ c. c.kind) columns

-- the kinds of declared columns
abbrev pub kinds_in : List Col → List ColType
kinds_in cols = map (λ c. c.kind) cols

-- a row with a designated timestamp
abbrev pub IsTimed : ℕ → Row → Type 0
IsTimed time_col row = cell_at row time_col ≢ cell.Null

-- what a block is: rows in order of their designated timestamp, and the kinds of its columns
pub record Block : Type 0 where
  pub kinds : List ColType
  pub time_col : ℕ
  pub rows : List Row

-- one column of a block
abbrev pub column_in : Block → ℕ → CellsOf
column_in block col = record { kind = slice_index_or block.kinds col kind.Time; cells = map (λ r. cell_at r col) block.rows }

-- columns of one length, with rows in order of time
pub record IsBlock (n time_col : ℕ) (columns : List CellsOf) : Type 0 where
  pub sizes : All (λ c. length c.cells ≡ n) columns
  pub few : length columns ≤ MAX_COLUMNS
  pub designated : slice_get (kinds_of columns) time_col ≡ Some kind.Time
  pub order : IsInOrder time_col (rows_of n columns)
  pub timed : AllByRecursion (IsTimed time_col) (rows_of n columns)

-- a block in the making: the rows so far, in the order in which they came, and the cells of one that isn't whole yet
pub record Building : Type 0 where
  pub kinds : List ColType
  pub time_col : ℕ
  pub rows : List Row
  pub open_row : Row

-- a builder with one cell more
abbrev pub with_open : Building → Cell → Building
with_open b x = record b { open_row = b.open_row ++ x ∷ [] }

-- one cell for each column, that the column takes
abbrev pub FitsKinds : List ColType → Row → Type 0
FitsKinds kinds row = AllZip Takes kinds row

-- a builder whose open row is a front of a row, and not the whole of it
abbrev pub HasFront : Building → Row → Building → Type 0
HasFront old row new = (n : ℕ) × (n < length row) × (new ≡ record old { open_row = take n row })

-- what the columns of a builder stand for
abbrev pub building_of : ℕ → ℕ → ℕ → List CellsOf → Building
building_of n filled time_col columns = record { kinds = kinds_of columns; time_col = time_col; rows = rows_of n columns; open_row = take filled (row_at columns n) }

-- what the columns of a block stand for
abbrev pub block_of : ℕ → ℕ → List CellsOf → Block
block_of n time_col columns = record { kinds = kinds_of columns; time_col = time_col; rows = rows_of n columns }

-- columns of n cells, the first of which have one more
pub record IsBuilding (n filled time_col : ℕ) (columns : List CellsOf) : Type 0 where
  pub begun : (k : ℕ) (d : CellsOf) → k < filled → length (slice_index_or columns k d).cells ≡ n + 1
  pub others : (k : ℕ) (d : CellsOf) → filled ≤ k → k < length columns → length (slice_index_or columns k d).cells ≡ n
  pub within : filled ≤ length columns
  pub few : length columns ≤ MAX_COLUMNS
  pub designated : slice_get (kinds_of columns) time_col ≡ Some kind.Time
  pub timed : AllByRecursion (IsTimed time_col) (rows_of n columns)
  pub open_timed : time_col < filled → IsTimed time_col (row_at columns n)

-- rows put into an empty table, one after another: in order of time, those of one time in the order in which they came
abbrev pub in_time_order : ℕ → List Row → List Row
in_time_order time_col rows = fold (put time_col []) [] rows

-- the rows of a column from one up to another
abbrev pub part_of_column : ℕ → ℕ → CellsOf → CellsOf
part_of_column from to column = record { kind = column.kind; cells = slice_range column.cells from to }

-- what holds of every block: a cell for each column in each row, and rows in order of their designated timestamps,
-- which are there
pub record IsWhole (block : Block) : Type 0 where
  pub few : length block.kinds ≤ MAX_COLUMNS
  pub designated : slice_get block.kinds block.time_col ≡ Some kind.Time
  pub cells : All (λ r. length r ≡ length block.kinds) block.rows
  pub order : IsInOrder block.time_col block.rows
  pub timed : AllByRecursion (IsTimed block.time_col) block.rows
