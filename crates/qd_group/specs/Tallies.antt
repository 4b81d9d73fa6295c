-- What an aggregate keeps of the values of a group's rows, one row after another.
use Rattle.std.specs.Prelude.{Bool, false, ◌||◌, List, Option, Some, None, fold, map, if◌then◌else◌, is_none, unwrap_or, ℤ, pos, ◌+ℤ◌, int_lt}
use Rattle.std.specs.Ordering.{int_eq}
use Rattle.qd_base.specs.declared.limits.TheConstants.{NULL_LONG}
use Rattle.qd_column.specs.Cells.{long_cell}
use Rattle.qd_base.specs.declared.cell.Cell.{Cell}
use Rattle.qd_base.specs.declared.cell.Cell.TheVariants as cell
use Rattle.qd_base.specs.Rows.{Row}
use Rattle.qd_meaning.specs.declared.parts.Agg.{Agg}
use Rattle.qd_meaning.specs.declared.parts.Agg.TheVariants as agg
use Rattle.qd_meaning.specs.Grouped.{is_less, plus, sum_cell}
use Rattle.qd_value.specs.Cells.{is_null, order}
use Rattle.qd_value.specs.Value.{value}

-- the best value, and whether a value of another class has come
pub record Leading : Type 0 where
  pub best : Cell
  pub ended : Bool

-- what leads, of numbers as a LONG column keeps them
abbrev pub leading : ℤ → Leading
leading b = record { best = long_cell b; ended = false }

-- the lesser, and the greater, of two such numbers: NULL is passed over
abbrev pub lesser : ℤ → ℤ → ℤ
lesser b x = if int_eq x NULL_LONG then b else (if int_eq b NULL_LONG || int_lt x b then x else b)

abbrev pub greater : ℤ → ℤ → ℤ
greater b x = if int_eq x NULL_LONG then b else (if int_eq b NULL_LONG || int_lt b x then x else b)

pub data State : Type 0 where
  counted : ℤ → State
  summed : Option ℤ → State
  least : Leading → State
  greatest : Leading → State
  first : Option Cell → State
  last : Cell → State

abbrev pub nothing : Leading
nothing = record { best = cell.Null; ended = false }

-- a value of another class than those so far ends them; NULL is passed over
abbrev pub lead_after : Bool → Leading → Cell → Leading
lead_after better l c =
    if l.ended || is_null c
    then l
    else (if better || is_null l.best then record { best = c; ended = false } else record { best = l.best; ended = is_none (order c l.best) })

abbrev pub start : Agg → State
start agg.Count = counted (pos 0)
start (agg.Sum e) = summed None
start (agg.Min e) = least nothing
start (agg.Max e) = greatest nothing
start (agg.First e) = first None
start (agg.Last e) = last cell.Null

abbrev pub next : State → Cell → State
next (counted n) c = counted (n +ℤ pos 1)
next (summed t) c = summed (plus c t)
next (least l) c = least (lead_after (is_less c l.best) l c)
next (greatest l) c = greatest (lead_after (is_less l.best c) l c)
next (first f) c = first (Some (unwrap_or f c))
next (last l) c = last c

abbrev pub answer : State → Cell
answer (counted n) = cell.Long n
answer (summed t) = sum_cell t
answer (least l) = l.best
answer (greatest l) = l.best
answer (first f) = unwrap_or f cell.Null
answer (last l) = l

-- the value that an aggregate takes of a row; NULL where it takes none
abbrev pub argument : Agg → Row → Cell
argument agg.Count row = cell.Null
argument (agg.Sum e) row = value e row
argument (agg.Min e) row = value e row
argument (agg.Max e) row = value e row
argument (agg.First e) row = value e row
argument (agg.Last e) row = value e row

-- what is kept after some rows
abbrev pub tallied : Agg → List Row → State
tallied a rows = fold next (start a) (map (argument a) rows)
