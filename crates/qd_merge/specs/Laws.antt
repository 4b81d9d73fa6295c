-- The laws of batches and merges, in words of their own.
use Rattle.std.specs.Prelude.{◌≡◌, ℕ, List, [], ◌++◌, ◌⊎◌, fold, Contains}
use Rattle.std.specs.List.{IsDistinct}
use Rattle.std.specs.List.Sorted.{IsPermutation}
use Rattle.qd_base.specs.Rows.{Row, same_on, put}
use Rattle.qd_base.specs.Laws.{IsInOrder}
use Rattle.qd_merge.specs.Batch.{batch}

-- the keys of a table: none, or columns with the designated one among them
abbrev pub AreKeys : ℕ → List ℕ → Type 0
AreKeys time_col keys = (keys ≡ []) ⊎ Contains keys time_col

-- Merging a batch, sorted and without the rows that it replaces itself, is putting its rows one by one as they came.
abbrev pub MergesOneByOne : Type 0
MergesOneByOne = (time_col : ℕ) (keys : List ℕ) (rows new : List Row) → AreKeys time_col keys → IsInOrder time_col rows → fold (put time_col keys) rows (batch time_col keys new) ≡ fold (put time_col keys) rows new

-- Merging batch after batch is merging the one batch of all their rows.
abbrev pub BatchesJoin : Type 0
BatchesJoin = (time_col : ℕ) (keys : List ℕ) (rows first second : List Row) → AreKeys time_col keys → IsInOrder time_col rows
    → fold (put time_col keys) (fold (put time_col keys) rows (batch time_col keys first)) (batch time_col keys second) ≡ fold (put time_col keys) rows (batch time_col keys (first ++ second))

-- A merge without keys keeps every row, of the table and of the batch, and adds none.
abbrev pub KeepsEveryRow : Type 0
KeepsEveryRow = (time_col : ℕ) (rows new : List Row) → IsPermutation (rows ++ new) (fold (put time_col []) rows (batch time_col [] new))

-- A merge leaves rows in order of time.
abbrev pub MergedInOrder : Type 0
MergedInOrder = (time_col : ℕ) (keys : List ℕ) (rows new : List Row) → IsInOrder time_col rows → IsInOrder time_col (fold (put time_col keys) rows new)

-- A batch is in order of time, no two of its rows are equal on the keys, and the batch of a batch is that batch.
pub record IsBatch (time_col : ℕ) (keys : List ℕ) (rows : List Row) : Type 0 where
  pub in_order : IsInOrder time_col rows
  pub distinct : (keys ≡ []) ⊎ IsDistinct (same_on keys) rows

abbrev pub BatchesAreBatches : Type 0
BatchesAreBatches = (time_col : ℕ) (keys : List ℕ) (rows : List Row) → IsBatch time_col keys (batch time_col keys rows)
