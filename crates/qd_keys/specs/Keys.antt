-- Rows of two sets, told apart by their keys. QuestDB documentation, "LATEST ON", "JOIN", "NULL values".
use Rattle.std.specs.Prelude.{◌≡◌, ℕ, ◌<◌, ◌==◌, Bool, List, [], ◌++◌, length, map, All, slice_index, slice_index_or}
use Rattle.qd_base.specs.declared.cell.Cell.{Cell}
use Rattle.qd_base.specs.declared.cell.Cell.TheVariants as cell
use Rattle.qd_base.specs.Rows.{Row, cell_at, cell_eq}
use Rattle.qd_meaning.specs.Grouped.{same_key}

-- the cells of a column of some rows, and behind them those of a column of others
abbrev pub cells_of_both : ℕ × ℕ → List Row → List Row → List Cell
cells_of_both key first second = map (λ r. cell_at r key.0) first ++ map (λ r. cell_at r key.1) second

-- the keys of a row that stands among some rows, and of one that stands among others
abbrev pub first_key : List (ℕ × ℕ) → Row → Row
first_key keys row = map (λ k. cell_at row k.0) keys

abbrev pub second_key : List (ℕ × ℕ) → Row → Row
second_key keys row = map (λ k. cell_at row k.1) keys

abbrev pub keys_of_both : List (ℕ × ℕ) → List Row → List Row → List Row
keys_of_both keys first second = map (first_key keys) first ++ map (second_key keys) second

-- whether the cells at two positions are equal
abbrev pub same_in : List Cell → ℕ → ℕ → Bool
same_in cells i j = cell_eq (slice_index_or cells i cell.Null) (slice_index_or cells j cell.Null)

-- whether the rows at two positions, counted over both lists, are equal in one column
abbrev pub same_cells : ℕ × ℕ → List Row → List Row → ℕ → ℕ → Bool
same_cells key first second = same_in (cells_of_both key first second)

-- whether they are equal on all of some keys
abbrev pub same_keys : List (ℕ × ℕ) → List Row → List Row → ℕ → ℕ → Bool
same_keys keys first second i j = same_key (slice_index_or (keys_of_both keys first second) i []) (slice_index_or (keys_of_both keys first second) j [])

-- numbers of so many things, below a bound: two have one number exactly where they are the same
pub record Tells (same : ℕ → ℕ → Bool) (n bound : ℕ) (numbers : List ℕ) : Type 0 where
  pub count : length numbers ≡ n
  pub below : All (λ k. k < bound) numbers
  pub each : (i j : ℕ) → i < n → j < n → (slice_index numbers i == slice_index numbers j) ≡ same i j
