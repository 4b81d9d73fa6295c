-- Rows of two lists, laid one behind another by runs.
use Rattle.std.specs.Prelude.{ℕ, ◌≤◌, List, [], ◌∷◌, ◌++◌, slice_range}
use Rattle.qd_column.specs.declared.runs.Run.{Run}
use Rattle.qd_column.specs.declared.runs.Side.{Side}
use Rattle.qd_column.specs.declared.runs.Side.TheVariants as side

-- what two things have on a side
abbrev pub of_side : {T : Type 0} → T → T → Side → T
of_side first second side.First = first
of_side first second side.Second = second

-- the items of a run
abbrev pub items_in : {T : Type 0} → List T → List T → Run → List T
items_in first second run = slice_range (of_side first second run.side) run.from run.to

-- the items of runs, one run behind another
abbrev pub laid : {T : Type 0} → List T → List T → List Run → List T
laid first second [] = []
laid first second (run ∷ runs) = items_in first second run ++ laid first second runs

-- a run of two lists of these lengths
pub record IsRunOf (first second : ℕ) (run : Run) : Type 0 where
  pub ordered : run.from ≤ run.to
  pub within : run.to ≤ of_side first second run.side
