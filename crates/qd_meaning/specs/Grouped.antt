-- Groups of rows and what is made of each. QuestDB documentation, "Aggregate functions", "GROUP BY".
use Rattle.std.specs.Prelude.{Bool, not, List, [], ◌∷◌, ◌++◌, map, filter, length, if◌then◌else◌, Option, Some, None, ℤ, pos, ◌+ℤ◌}
use Rattle.std.specs.Cmp.Lexicographic.{pointwise}
use Rattle.std.specs.Ordering.{is_lt, is_some_and}
use Rattle.qd_base.specs.declared.cell.Cell.{Cell}
use Rattle.qd_base.specs.declared.cell.Cell.TheVariants as cell
use Rattle.qd_base.specs.Rows.{Row, cell_eq}
use Rattle.qd_value.specs.declared.bound.Bound.{Bound}
use Rattle.qd_value.specs.Cells.{long, order}
use Rattle.qd_value.specs.Value.{value}
use Rattle.qd_meaning.specs.declared.parts.Agg.{Agg}
use Rattle.qd_meaning.specs.declared.parts.Agg.TheVariants as agg
use Rattle.qd_meaning.specs.declared.parts.GroupSpec.{GroupSpec}

-- ---- aggregates

-- the sum of the numbers among some cells, and none where there is no number
abbrev pub plus : Cell → Option ℤ → Option ℤ
plus (cell.Long x) None = Some x
plus (cell.Long x) (Some y) = Some (x +ℤ y)
plus _ total = total

abbrev pub total : List Cell → Option ℤ
total [] = None
total (c ∷ cs) = plus c (total cs)

-- NULL outside the range of LONG: the whole sum is judged, not its parts
abbrev pub sum_cell : Option ℤ → Cell
sum_cell None = cell.Null
sum_cell (Some x) = long x

abbrev pub is_less : Cell → Cell → Bool
is_less a b = is_some_and is_lt (order a b)

-- the one of two cells that a test takes; NULL is passed over
abbrev pub better : (Cell → Cell → Bool) → Cell → Cell → Cell
better takes cell.Null b = b
better takes a cell.Null = a
better takes a b = if takes b a then b else a

abbrev pub best : (Cell → Cell → Bool) → List Cell → Cell
best takes [] = cell.Null
best takes (c ∷ cs) = better takes c (best takes cs)

abbrev pub first_cell : List Cell → Cell
first_cell [] = cell.Null
first_cell (c ∷ cs) = c

abbrev pub last_cell : Cell → List Cell → Cell
last_cell other [] = other
last_cell other (c ∷ cs) = last_cell c cs

abbrev pub values : Bound → List Row → List Cell
values e rows = map (value e) rows

-- what an aggregate makes of the rows of a group
abbrev pub aggregate : List Row → Agg → Cell
aggregate rows agg.Count = cell.Long (pos (length rows))
aggregate rows (agg.Sum e) = sum_cell (total (values e rows))
aggregate rows (agg.Min e) = best is_less (values e rows)
aggregate rows (agg.Max e) = best (λ b a. is_less a b) (values e rows)
aggregate rows (agg.First e) = first_cell (values e rows)
aggregate rows (agg.Last e) = last_cell cell.Null (values e rows)

abbrev pub aggregates : List Agg → List Row → Row
aggregates aggs rows = map (aggregate rows) aggs

-- ---- groups

-- the values of a row's keys
abbrev pub key_of : List Bound → Row → Row
key_of keys row = map (λ e. value e row) keys

-- NULL is equal to NULL
abbrev pub same_key : Row → Row → Bool
same_key a b = pointwise cell_eq a b

-- the distinct ones of some keys, in order of first appearance
abbrev pub distinct : List Row → List Row
distinct [] = []
distinct (k ∷ ks) = k ∷ filter (λ x. not (same_key k x)) (distinct ks)

abbrev pub keys_of : List Bound → List Row → List Row
keys_of keys rows = distinct (map (key_of keys) rows)

abbrev pub rows_of : List Bound → Row → List Row → List Row
rows_of keys key rows = filter (λ row. same_key key (key_of keys row)) rows

-- without keys there is one group, also over no rows
abbrev pub groups_of : List Bound → List Row → List Row
groups_of [] rows = [] ∷ []
groups_of (k ∷ ks) rows = keys_of (k ∷ ks) rows

-- one row for each group, in order of first appearance: its keys, then its aggregates
abbrev pub grouped : GroupSpec → List Row → List Row
grouped spec rows = map (λ key. key ++ aggregates spec.aggs (rows_of spec.keys key rows)) (groups_of spec.keys rows)
