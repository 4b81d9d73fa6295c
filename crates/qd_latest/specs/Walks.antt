-- Walks over the cells of a column from the last one back, and which of them they keep.
use Rattle.std.specs.Prelude.{◌≡◌, ◌≢◌, ℕ, ◌<◌, ◌≤◌, ◌⊎◌, List, [], Option, Some, None, length, Contains, slice_index, slice_index_or}
use Rattle.qd_base.specs.declared.cell.Cell.{Cell}
use Rattle.qd_base.specs.declared.cell.Cell.TheVariants as cell
use Rattle.qd_base.specs.declared.schema.ColType.TheVariants as kind
use Rattle.qd_block.specs.Blocks.{Block, column_in, IsWhole}
use Rattle.qd_keys.specs.Symbols.{texts_at}
use Rattle.qd_rows.specs.Sets.{block_at}

-- the cell at a place
abbrev pub cell_in : List Cell → ℕ → Cell
cell_in cells i = slice_index_or cells i cell.Null

-- no cell behind a place is that of the place
pub record IsLastOfCell (cells : List Cell) (i : ℕ) : Type 0 where
  pub there : i < length cells
  pub last : (k : ℕ) → i < k → k < length cells → cell_in cells k ≢ cell_in cells i

-- the cell of a place stands at one behind it too
abbrev pub IsFollowed : List Cell → ℕ → Type 0
IsFollowed cells i = (k : ℕ) × (i < k) × (k < length cells) × (cell_in cells k ≡ cell_in cells i)

-- what a walk has kept: the last places of cells, among them that of each place it has seen
pub record Keeps (cells : List Cell) (Seen : ℕ → Type 0) (kept : List ℕ) : Type 0 where
  pub last : (i : ℕ) → Contains kept i → IsLastOfCell cells i
  pub others : (i : ℕ) → Seen i → Contains kept i ⊎ IsFollowed cells i

-- what a walk that has seen some places has met: exactly their texts
pub record HasMet (cells : List Cell) (Seen : ℕ → Type 0) (met : List (List ℕ)) : Type 0 where
  pub seen : (i : ℕ) → Seen i → (t : List ℕ) × Contains met t × (cell_in cells i ≡ cell.Text t)
  pub texts : (t : List ℕ) → Contains met t → (i : ℕ) × Seen i × (cell_in cells i ≡ cell.Text t)

-- a place from an end on whose cell isn't NULL
pub record IsBehind (cells : List Cell) (end i : ℕ) : Type 0 where
  pub from : end ≤ i
  pub there : i < length cells
  pub some : cell_in cells i ≢ cell.Null

-- a walk from the last place back to an end, that passes NULL over
pub record HasWalked (cells : List Cell) (end : ℕ) (met : List (List ℕ)) (kept : List ℕ) : Type 0 where
  pub keeps : Keeps cells (IsBehind cells end) kept
  pub meets : HasMet cells (IsBehind cells end) met

-- the last places of all cells but NULL
abbrev pub KeepsTexts : List Cell → List ℕ → Type 0
KeepsTexts cells kept = Keeps cells (IsBehind cells 0) kept

-- the last places of all cells
abbrev pub KeepsAll : List Cell → List ℕ → Type 0
KeepsAll cells kept = Keeps cells (λ i. i < length cells) kept

-- the last place of NULL from one place up to another
pub record IsLastNull (cells : List Cell) (from to : ℕ) (found : Option ℕ) : Type 0 where
  pub some : (i : ℕ) → found ≡ Some i → (from ≤ i) × (i < to) × (cell_in cells i ≡ cell.Null) × ((k : ℕ) → i < k → k < to → cell_in cells k ≢ cell.Null)
  pub none : found ≡ None → (k : ℕ) → from ≤ k → k < to → cell_in cells k ≢ cell.Null

-- the last place of a number
pub record IsLastId (ids : List ℕ) (id : ℕ) (found : Option ℕ) : Type 0 where
  pub some : (i : ℕ) → found ≡ Some i → (i < length ids) × (slice_index ids i ≡ id) × ((k : ℕ) → i < k → k < length ids → slice_index ids k ≢ id)
  pub none : found ≡ None → (k : ℕ) → k < length ids → slice_index ids k ≢ id

-- the cells from one place up to another are NULL or hold one of some texts
abbrev pub AreOfTexts : List (List ℕ) → List Cell → ℕ → ℕ → Type 0
AreOfTexts texts cells from to = (i : ℕ) → from ≤ i → i < to → (cell_in cells i ≡ cell.Null) ⊎ ((k : ℕ) × (k < length texts) × (cell_in cells i ≡ cell.Text (slice_index_or texts k [])))

-- the cells from one place up to another are NULL or hold texts that are met
abbrev pub HoldMet : List Cell → ℕ → ℕ → List (List ℕ) → Type 0
HoldMet cells from to met = (i : ℕ) → from ≤ i → i < to → (cell_in cells i ≡ cell.Null) ⊎ ((t : List ℕ) × Contains met t × (cell_in cells i ≡ cell.Text t))

-- what was met stays so
abbrev pub Grows : List (List ℕ) → List (List ℕ) → Type 0
Grows old new = (t : List ℕ) → Contains old t → Contains new t

-- the first n texts are met
abbrev pub AreFirstMet : List (List ℕ) → ℕ → List (List ℕ) → Type 0
AreFirstMet texts n met = (k : ℕ) → k < n → k < length texts → Contains met (slice_index_or texts k [])

-- the texts of a column of the blocks before one, where it holds symbols, and the first texts of that block, are met
pub record AreMet (blocks : List Block) (at : ℕ) (met : List (List ℕ)) (block id : ℕ) : Type 0 where
  pub whole : (b : ℕ) → b < block → IsWhole (block_at blocks b)
  pub before : (b : ℕ) → b < block → (column_in (block_at blocks b) at).kind ≡ kind.Symbol → HoldMet (column_in (block_at blocks b) at).cells 0 (length (block_at blocks b).rows) met
  pub here : AreFirstMet (texts_at at (block_at blocks block)) id met
