-- Rows of a set that pass a test. QuestDB documentation, "SELECT", "WHERE".
use Rattle.std.specs.Prelude.{ℕ, Bool, List, [], ◌∷◌, Option, None, if◌then◌else◌, map, filter, slice_index_or}
use Rattle.std.specs.List.{list_all, list_any}
use Rattle.qd_base.specs.declared.cell.Cell.{Cell}
use Rattle.qd_base.specs.Rows.{Row}
use Rattle.qd_rows.specs.declared.runs.Run.{Run}
use Rattle.qd_rows.specs.Runs.{places_of_run}
use Rattle.qd_rows.specs.Sets.{ResultRows, Joined, row_of_place, rows_in}
use Rattle.qd_value.specs.declared.bound.Bound.{Bound}
use Rattle.qd_value.specs.Value.{passes, value}

-- the row that a set has at a position
abbrev pub row_in : ResultRows → ℕ → Row
row_in s i = slice_index_or (rows_in s) i []

-- whether the row of a place passes
abbrev pub passes_at : Bound → ResultRows → Joined → Bool
passes_at e s p = passes e (row_of_place s p)

-- a set with other rows over the same columns and blocks
abbrev pub with_places : ResultRows → List Joined → ResultRows
with_places s ps = record s { places = ps }

-- a set's rows that pass, in order
abbrev pub passing : Bound → ResultRows → ResultRows
passing e s = with_places s (filter (passes_at e s) s.places)

-- the value of an expression on each row of a run, in order
abbrev pub values_in_run : Bound → ResultRows → Run → List Cell
values_in_run e s r = map (λ p. value e (row_of_place s (p, None))) (places_of_run r)

-- whether each row of a run passes, in order
abbrev pub passes_in_run : Bound → ResultRows → Run → List Bool
passes_in_run e s r = map (λ p. passes_at e s (p, None)) (places_of_run r)

-- whether each row of a run passes all of some tests, and one of them
abbrev pub all_in_run : List Bound → ResultRows → Run → List Bool
all_in_run es s r = map (λ p. list_all (λ e. passes_at e s (p, None)) es) (places_of_run r)

abbrev pub any_in_run : List Bound → ResultRows → Run → List Bool
any_in_run es s r = map (λ p. list_any (λ e. passes_at e s (p, None)) es) (places_of_run r)

-- the items at which a truth is true, in order
abbrev pub chosen : {X : Type 0} → List Bool → List X → List X
chosen [] xs = []
chosen (t ∷ ts) [] = []
chosen (t ∷ ts) (x ∷ xs) = if t then x ∷ chosen ts xs else chosen ts xs
