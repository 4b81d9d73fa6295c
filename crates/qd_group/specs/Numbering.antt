-- Rows that are numbered by the cells of a column, one after another.
use Rattle.std.specs.Prelude.{◌≡◌, ℕ, ◌+◌, ◌<◌, ◌≤◌, ◌==◌, Bool, List, Option, Some, None, IfSome, length, if◌then◌else◌, slice_index_or}
use Rattle.std.specs.BTreeMap.{BTreeMap, get, btree_map_len}
use Rattle.std.specs.declared.cmp.Ordering.{Ordering}
use Rattle.qd_base.specs.declared.cell.Cell.{Cell}
use Rattle.qd_base.specs.declared.cell.Cell.TheVariants as cell
use Rattle.qd_base.specs.declared.limits.TheConstants.{NULL_ID}
use Rattle.qd_base.specs.Rows.{cell_eq}
use Rattle.qd_block.specs.Blocks.{column_in}
use Rattle.qd_column.specs.Symbols.{symbol_cell, texts_in}
use Rattle.qd_rows.specs.Sets.{ResultRows, block_at}
use Rattle.qd_group.specs.contracts.keys.KeyOrd.TheImpl as key_ord
use Rattle.qd_group.specs.declared.keys.Key.{Key}
use Rattle.qd_group.specs.declared.symbols.Symbols.{Symbols}
use Rattle.qd_group.specs.Grouping.{spot, AreGroups}
use Rattle.qd_group.specs.Keys.{lent}

-- the order of keys
abbrev pub key_cmp : Key → Key → Ordering
key_cmp = (key_ord.ghosts).cmp

-- whether the cells of two places are equal
abbrev pub same_cells : List Cell → ℕ → ℕ → Bool
same_cells cells i j = cell_eq (slice_index_or cells i cell.Null) (slice_index_or cells j cell.Null)

-- whether the cell of a place is that of a key
abbrev pub is_cell_of : List Cell → ℕ → Key → Bool
is_cell_of cells f q = cell_eq (slice_index_or cells f cell.Null) (lent q)

-- the number of each key is the position, among the first places of the groups, of the one that it is told to be
pub record Knows {K : Type 0} (cmp : K → K → Ordering) (m : BTreeMap K ℕ) (tells : ℕ → K → Bool) (firsts : List ℕ) : Type 0 where
  pub found : (q : K) → get cmp m q ≡ spot (λ f. tells f q) firsts
  pub count : btree_map_len m ≡ length firsts

-- a cell whose number is known
pub record IsKnown (m : BTreeMap Key ℕ) (c : Cell) (number : ℕ) : Type 0 where
  pub key : Key
  pub is : lent key ≡ c
  pub at : get key_cmp m key ≡ Some number

-- the place of an id in a table: NULL stands before all ids
abbrev pub slot : ℕ → ℕ
slot id = if id == NULL_ID then 0 else id + 1

-- what a table has of an id, with the block that it was met in, is the number of the id's text in that block
abbrev pub IsTable : (ℕ → List (List ℕ)) → BTreeMap Key ℕ → List (Option (ℕ × ℕ)) → Type 0
IsTable texts m entries = (id : ℕ) → slot id < length entries → IfSome (slice_index_or entries (slot id) None) (λ e. IsKnown m (symbol_cell (texts e.0) id) e.1)

-- the first so many cells are numbered
pub record Stands (texts : ℕ → List (List ℕ)) (cells : List Cell) (n : ℕ) (s : Symbols) : Type 0 where
  pub groups : AreGroups (same_cells cells) n s.groups.numbers.items s.groups.firsts.items
  pub knows : Knows key_cmp s.numbers (is_cell_of cells) s.groups.firsts.items
  pub table : IsTable texts s.numbers s.table.items

-- what a cell more makes of what stands, wherever it is the next one
abbrev pub NumbersOne : (ℕ → List (List ℕ)) → Cell → Symbols → Symbols → Type 0
NumbersOne texts c old new = (cells : List Cell) (n : ℕ) → n < length cells → c ≡ slice_index_or cells n cell.Null → Stands texts cells n old → Stands texts cells (n + 1) new

-- and so many cells more, wherever they are the next ones
abbrev pub NumbersMore : (ℕ → List (List ℕ)) → ℕ → (ℕ → Cell) → Symbols → Symbols → Type 0
NumbersMore texts count cell_at old new =
    (cells : List Cell) (n : ℕ) → n + count ≤ length cells → ((k : ℕ) → k < count → cell_at k ≡ slice_index_or cells (n + k) cell.Null) → Stands texts cells n old → Stands texts cells (n + count) new

-- the texts of a column of a set's blocks
abbrev pub texts_at : ResultRows → ℕ → ℕ → List (List ℕ)
texts_at s at b = texts_in (column_in (block_at s.blocks b) at).cells
