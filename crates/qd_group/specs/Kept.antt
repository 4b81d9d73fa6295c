-- What is kept of each group's rows, of the first ones.
use Rattle.std.specs.Prelude.{◌≡◌, ℕ, ◌+◌, ◌<◌, ◌≤◌, List, [], length, map, take, slice_index_or}
use Rattle.std.specs.List.{range_with_len}
use Rattle.qd_base.specs.declared.cell.Cell.{Cell}
use Rattle.qd_base.specs.Rows.{Row}
use Rattle.qd_meaning.specs.declared.parts.Agg.{Agg}
use Rattle.qd_meaning.specs.declared.parts.Agg.TheVariants as agg
use Rattle.qd_group.specs.Grouping.{members}
use Rattle.qd_group.specs.Tallies.{State, argument, tallied}

abbrev pub kept : Agg → List ℕ → List Row → ℕ → ℕ → State
kept a ns rows i n = tallied a (members n (take i ns) (take i rows))

-- a list with a state for each of so many groups, after the first so many rows
abbrev pub AreKept : Agg → List ℕ → List Row → ℕ → ℕ → List State → Type 0
AreKept a ns rows i groups states = states ≡ map (kept a ns rows i) (range_with_len 0 groups)

-- what so many values more make of what is kept, wherever they are those of the next rows
abbrev pub KeepsMore : List ℕ → ℕ → ℕ → ℕ → (ℕ → Cell) → List State → List State → Type 0
KeepsMore ns before count groups value_at old new =
    (a : Agg) (all : List Row) → before + count ≤ length all → ((k : ℕ) → k < count → value_at k ≡ argument a (slice_index_or all (before + k) [])) → AreKept a ns all before groups old → AreKept a ns all (before + count) groups new

-- what a count of each row makes of none
abbrev pub CountsAll : List ℕ → ℕ → List State → List State → Type 0
CountsAll ns groups old new = (all : List Row) → length ns ≤ length all → AreKept agg.Count ns all 0 groups old → AreKept agg.Count ns all (length ns) groups new
