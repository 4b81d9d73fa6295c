-- What holds of the last rows, over all lists of rows.
use Rattle.std.specs.Prelude.{◌≡◌, ℕ, ◌<◌, false, List, ◌∷◌, ◌++◌, Contains, length, slice_index}
use Rattle.std.specs.List.{AllByRecursion}
use Rattle.qd_base.specs.declared.cell.Cell.{Cell}
use Rattle.qd_base.specs.declared.cell.Cell.TheVariants as cell
use Rattle.qd_base.specs.Rows.{Row, same_on}
use Rattle.qd_meaning.specs.Latest.{latest}
use Rattle.qd_latest.specs.Chains.{chain}
use Rattle.qd_latest.specs.Walks.{cell_in}

-- a row of a table behind which none has its keys
pub record IsLastOfKeys (keys : List ℕ) (rows : List Row) (r : Row) : Type 0 where
  pub front : List Row
  pub back : List Row
  pub there : rows ≡ front ++ r ∷ back
  pub last : AllByRecursion (λ x. same_on keys r x ≡ false) back

pub record LatestRowsAreLast : Type 0 where
  pub each : (keys : List ℕ) (rows : List Row) → AllByRecursion (IsLastOfKeys keys rows) (latest keys rows)
  pub all :
      (keys : List ℕ) (front back : List Row) (r : Row) → AllByRecursion (λ x. same_on keys r x ≡ false) back
      → (before : List Row) × (latest keys (front ++ r ∷ back) ≡ before ++ r ∷ latest keys back)

-- a chain has just the places of the cells that hold its text, and of two places the later one stands first
pub record ChainsAreLatestFirst : Type 0 where
  pub has : (cells : List Cell) (text : List ℕ) (n : ℕ) → Contains (chain cells text) n → (n < length cells) × (cell_in cells n ≡ cell.Text text)
  pub all : (cells : List Cell) (text : List ℕ) (n : ℕ) → n < length cells → cell_in cells n ≡ cell.Text text → Contains (chain cells text) n
  pub falls : (cells : List Cell) (text : List ℕ) (i j : ℕ) → i < j → j < length (chain cells text) → slice_index (chain cells text) j < slice_index (chain cells text) i
