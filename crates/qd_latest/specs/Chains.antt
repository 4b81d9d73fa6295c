-- Chains: some rows of a block by their symbols, latest first.
use Rattle.std.specs.Prelude.{◌≡◌, ℕ, suc, ◌+◌, ◌-◌, ◌<◌, ◌≤◌, Bool, List, [], ◌∷◌, ◌++◌, Some, None, if◌then◌else◌, length, map, slice_get, slice_index_or, slice_range}
use Rattle.qd_base.specs.declared.cell.Cell.{Cell}
use Rattle.qd_base.specs.declared.cell.Cell.TheVariants as cell
use Rattle.qd_base.specs.declared.schema.ColType.TheVariants as kind
use Rattle.qd_base.specs.Rows.{cell_at, cell_eq}
use Rattle.qd_block.specs.Blocks.{column_in}
use Rattle.qd_column.specs.Symbols.{texts_in}
use Rattle.qd_links.specs.Lists.{Lists}
use Rattle.qd_rows.specs.declared.runs.Run.{Run}
use Rattle.qd_rows.specs.Sets.{Joined, ResultRows, block_at, rows_in, IsRunOf}

-- the places of the items that pass a test, latest first, the first item's place being given
abbrev pub latest_first : {X : Type 0} → (X → Bool) → ℕ → List X → List ℕ
latest_first test i [] = []
latest_first test i (x ∷ xs) = if test x then latest_first test (suc i) xs ++ i ∷ [] else latest_first test (suc i) xs

-- the cells of a column of a set's rows, in order
abbrev pub cells_of : ResultRows → ℕ → List Cell
cells_of s col = map (λ r. cell_at r col) (rows_in s)

abbrev pub no_place : Joined
no_place = ((0, 0), None)

-- the position of the block in which a row lies on its left side
abbrev pub block_of_row : ResultRows → ℕ → ℕ
block_of_row s i = (slice_index_or s.places i no_place).0.0

-- the texts of a column's dictionary in the block of a row
abbrev pub texts_of : ResultRows → ℕ → ℕ → List (List ℕ)
texts_of s i col = texts_in (column_in (block_at s.blocks (block_of_row s i)) col).cells

-- the chain of a text: the places of the cells that hold it, latest first
abbrev pub chain : List Cell → List ℕ → List ℕ
chain cells text = latest_first (cell_eq (cell.Text text)) 0 cells

-- the chains of the rows of a set from one up to another: a node for each row, and a list for each text of their block
abbrev pub chains_of : ResultRows → ℕ → ℕ → ℕ → Lists
chains_of s from to col = record { nodes = to - from; lists = map (chain (slice_range (cells_of s col) from to)) (texts_of s from col) }

-- the rows of a set without right columns, from one up to another, of which there are some: they lie in one block, in
-- which a column holds symbols
pub record LieInOneBlock (s : ResultRows) (from to col : ℕ) : Type 0 where
  pub single : s.right ≡ None
  pub some : from < to
  pub within : to ≤ length s.places
  pub block : (i : ℕ) → from ≤ i → i < to → block_of_row s i ≡ block_of_row s from
  pub symbols : slice_get (block_at s.blocks (block_of_row s from)).kinds col ≡ Some kind.Symbol

-- a run that lies in a set, from the place that it names on
pub record IsPart (s : ResultRows) (r : Run) : Type 0 where
  pub run : IsRunOf s r
  pub places : (k : ℕ) → k < r.to - r.from → slice_get s.places (r.before + k) ≡ Some ((r.block, r.from + k), None)
