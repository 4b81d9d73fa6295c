-- Classes of rows that are equal on keys.
use Rattle.std.specs.Prelude.{◌≡◌, ℕ, ◌<◌, ◌↔◌, ◌==◌, Bool, List, [], ◌∷◌, Some, length, All, if◌then◌else◌, slice_index, slice_index_or}
use Rattle.std.specs.List.{list_any}
use Rattle.std.specs.BTreeMap.{BTreeMap, get, btree_map_len}
use Rattle.std.specs.declared.cmp.Ordering.{Ordering}
use Rattle.std.specs.declared.cmp.Ordering.TheVariants.{Equal}
use Rattle.qd_base.specs.declared.cell.Cell.{Cell}
use Rattle.qd_base.specs.declared.cell.Cell.TheVariants as cell
use Rattle.qd_base.specs.Rows.{Row, same_on}
use Rattle.qd_merge.specs.declared.cells.Lent.{Lent}
use Rattle.qd_merge.specs.declared.cells.Lent.TheVariants as lent

-- numbers of keys, below their count, of which no two keys that differ have the same
pub record AreNumbers {K : Type 0} (cmp : K → K → Ordering) (numbers : BTreeMap K ℕ) : Type 0 where
  pub below : (key : K) (n : ℕ) → get cmp numbers key ≡ Some n → n < btree_map_len numbers
  pub apart : (a b : K) (n : ℕ) → get cmp numbers a ≡ Some n → get cmp numbers b ≡ Some n → cmp a b ≡ Equal

-- the keys that had a number have it still
abbrev pub KeepsNumbers : {K : Type 0} → (K → K → Ordering) → BTreeMap K ℕ → BTreeMap K ℕ → Type 0
KeepsNumbers {K} cmp old new = (key : K) (n : ℕ) → get cmp old key ≡ Some n → get cmp new key ≡ Some n

-- a number for each key, the same where keys are equal
pub record AreNumbered {K : Type 0} (cmp : K → K → Ordering) (keys : List K) (numbers : List ℕ) : Type 0 where
  pub count : length numbers ≡ length keys
  pub below : All (λ n. n < length keys) numbers
  pub tell : (i j : ℕ) (d : K) → i < length keys → j < length keys → (slice_index numbers i ≡ slice_index numbers j) ↔ (cmp (slice_index_or keys i d) (slice_index_or keys j d) ≡ Equal)

-- classes told apart further, by numbers
pub record AreRefined (classes : List ℕ) (numbers : List ℕ) (refined : List ℕ) : Type 0 where
  pub count : length refined ≡ length classes
  pub below : All (λ c. c < length classes) refined
  pub tell : (i j : ℕ) → i < length classes → j < length classes → (slice_index refined i ≡ slice_index refined j) ↔ ((slice_index classes i ≡ slice_index classes j) × (slice_index numbers i ≡ slice_index numbers j))

-- the cell that is lent
abbrev pub cell_of : Lent → Cell
cell_of lent.Null = cell.Null
cell_of (lent.Long x) = cell.Long x
cell_of (lent.Truth x) = cell.Bool x
cell_of (lent.Text t) = cell.Text t.now
cell_of (lent.Time x) = cell.Time x

-- classes of rows: below the number of rows, and the same where two rows are equal on keys
pub record AreClasses (keys : List ℕ) (rows : List Row) (classes : List ℕ) : Type 0 where
  pub count : length classes ≡ length rows
  pub below : All (λ c. c < length rows) classes
  pub tell : (i j : ℕ) → i < length rows → j < length rows → (slice_index classes i == slice_index classes j) ≡ same_on keys (slice_index_or rows i []) (slice_index_or rows j [])

-- for each place whether its class stands at a later one too
abbrev pub repeats : List ℕ → List Bool
repeats [] = []
repeats (class ∷ classes) = list_any (λ c. class == c) classes ∷ repeats classes

-- the items whose flag isn't set
abbrev pub kept : {T : Type 0} → List Bool → List T → List T
kept [] items = []
kept (gone ∷ flags) [] = []
kept (gone ∷ flags) (item ∷ items) = if gone then kept flags items else item ∷ kept flags items
