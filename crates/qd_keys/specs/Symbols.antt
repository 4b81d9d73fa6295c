-- The texts of SYMBOL columns over several blocks, and their numbers.
use Rattle.std.specs.Prelude.{◌≡◌, ℕ, ◌+◌, ◌<◌, Bool, true, false, List, [], Option, Some, if◌then◌else◌, length, map, slice_index, slice_index_or}
use Rattle.qd_base.specs.declared.cell.Cell.{Cell}
use Rattle.qd_base.specs.declared.cell.Cell.TheVariants as cell
use Rattle.qd_base.specs.declared.schema.Col.{Col}
use Rattle.qd_base.specs.declared.schema.ColType.{ColType}
use Rattle.qd_base.specs.declared.schema.ColType.TheVariants as kind
use Rattle.qd_base.specs.Rows.{cell_eq}
use Rattle.qd_block.specs.Blocks.{Block, column_in, kinds_in}
use Rattle.qd_column.specs.Symbols.{texts_in}
use Rattle.qd_group.specs.Grouping.{spot}
use Rattle.qd_rows.specs.Sets.{block_at}
use Rattle.qd_value.specs.Cells.{is_null}

abbrev pub is_symbol : ColType → Bool
is_symbol kind.Symbol = true
is_symbol _ = false

-- a column that holds symbols
abbrev pub IsSymbols : List Col → ℕ → Type 0
IsSymbols cols at = is_symbol (slice_index_or (kinds_in cols) at kind.Time) ≡ true

-- the texts of a column of a block, which has none where it holds no symbols
abbrev pub texts_at : ℕ → Block → List (List ℕ)
texts_at at block = if is_symbol (column_in block at).kind then texts_in (column_in block at).cells else []

abbrev pub names_at : ℕ → Block → List Cell
names_at at block = map (λ t. cell.Text t) (texts_at at block)

-- where the texts of each of the first blocks begin among names
pub record AreStarts (n : ℕ) (blocks : List Block) (at : ℕ) (names : List Cell) (starts : List ℕ) : Type 0 where
  pub count : length starts ≡ n
  pub within : (b id : ℕ) → b < n → id < length (texts_at at (block_at blocks b)) → slice_index starts b + id < length names
  pub text : (b id : ℕ) → b < n → id < length (texts_at at (block_at blocks b)) → slice_index_or names (slice_index starts b + id) cell.Null ≡ cell.Text (slice_index_or (texts_at at (block_at blocks b)) id [])

-- the number of a cell: that of the first name that is equal to it, and behind all others for NULL
abbrev pub number_of : List Cell → List ℕ → Cell → Option ℕ
number_of names firsts c = if is_null c then Some (length firsts) else spot (λ f. cell_eq (slice_index_or names f cell.Null) c) firsts

-- the numbers of some cells
pub record AreNumbersOf (names : List Cell) (firsts : List ℕ) (cells : List Cell) (numbers : List ℕ) : Type 0 where
  pub count : length numbers ≡ length cells
  pub each : (i : ℕ) → i < length cells → number_of names firsts (slice_index_or cells i cell.Null) ≡ Some (slice_index numbers i)
