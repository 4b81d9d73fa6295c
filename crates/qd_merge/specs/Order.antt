-- The order of a merge: which rows of two blocks stand one behind another.
use Rattle.std.specs.Prelude.{◌≡◌, ℕ, Bool, List, [], ◌++◌, All, fold, length, map, drop, slice_range}
use Rattle.qd_base.specs.Rows.{Row, time_of, put}
use Rattle.qd_column.specs.declared.runs.Run.{Run}
use Rattle.qd_column.specs.Runs.{items_in, laid, IsRunOf}
use Rattle.qd_merge.specs.Classes.{kept}

-- runs of lists of these lengths
abbrev pub AreRunsOf : ℕ → ℕ → List Run → Type 0
AreRunsOf first second runs = All (IsRunOf first second) runs

-- one run more behind others
pub record AddsRun (old : List Run) (run : Run) (new : List Run) : Type 0 where
  pub rows : (first second : List Row) → laid first second new ≡ laid first second old ++ items_in first second run
  pub runs : (first second : ℕ) → AreRunsOf first second old → IsRunOf first second run → AreRunsOf first second new

-- the rows of the first list from one up to another whose flag isn't set, behind others
pub record AddsKept (old : List Run) (gone : List Bool) (from to : ℕ) (new : List Run) : Type 0 where
  pub rows : (first second : List Row) → length first ≡ length gone → laid first second new ≡ laid first second old ++ kept (slice_range gone from to) (slice_range first from to)
  pub runs : (second : ℕ) → AreRunsOf (length gone) second old → AreRunsOf (length gone) second new

-- Runs of rows with these times, in the order in which the rows stand when those of the second list are put into those
-- of the first from one on whose flag isn't set.
pub record IsMergeOrder (old : List ℕ) (skip : ℕ) (gone : List Bool) (new : List ℕ) (runs : List Run) : Type 0 where
  pub within : AreRunsOf (length old) (length new) runs
  pub order : (col : ℕ) (rows batch : List Row) → map (time_of col) rows ≡ old → map (time_of col) batch ≡ new → laid rows batch runs ≡ fold (put col []) (kept (drop skip gone) (drop skip rows)) batch
