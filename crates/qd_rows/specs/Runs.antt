-- Places of rows, and runs of neighbours.
use Rattle.std.specs.Prelude.{◌≡◌, ℕ, ◌+◌, ◌-◌, ◌<◌, List, [], ◌∷◌, map, slice_index_or}
use Rattle.std.specs.List.{range_with_len, flat_map}
use Rattle.qd_rows.specs.declared.runs.Run.{Run}

-- where a row lies: its block's position, and its number in that block
abbrev pub Spot : Type 0
Spot = ℕ × ℕ

-- the places of a run's rows, in order
abbrev pub places_of_run : Run → List Spot
places_of_run r = map (λ i. (r.block, i)) (range_with_len r.from (r.to - r.from))

-- the places of runs, one after another
abbrev pub places_of_runs : List Run → List Spot
places_of_runs runs = flat_map places_of_run runs

abbrev pub no_run : Run
no_run = record { block = 0; from = 0; to = 0; before = 0 }

-- the run at a position
abbrev pub run_at : List Run → ℕ → Run
run_at runs k = slice_index_or runs k no_run

-- runs behind so many rows, and how many there are then: each has rows, and says how many stand before it
abbrev pub AreRuns : ℕ → List Run → ℕ → Type 0
AreRuns before [] end = before ≡ end
AreRuns before (r ∷ rs) end = (r.before ≡ before) × (r.from < r.to) × AreRuns (before + (r.to - r.from)) rs end
