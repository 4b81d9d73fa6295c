-- ORDER BY and LIMIT. QuestDB documentation, "ORDER BY", "LIMIT".
use Rattle.std.specs.Prelude.{ℕ, ◌-◌, Bool, true, false, not, ◌&&◌, ◌||◌, if◌then◌else◌, List, [], ◌∷◌, ◌++◌, filter, fold, length, take, drop, Option, Some, None}
use Rattle.qd_base.specs.declared.cell.Cell.{Cell}
use Rattle.qd_base.specs.declared.cell.Cell.TheVariants as cell
use Rattle.qd_base.specs.Rows.{Row, cell_at, cell_eq}
use Rattle.qd_meaning.specs.declared.parts.Cut.{Cut}
use Rattle.qd_meaning.specs.declared.parts.Cut.TheVariants as cut
use Rattle.qd_meaning.specs.Grouped.{is_less}

-- whether a cell stands before another: NULL is least, and false is less than true
abbrev pub stands_before : Cell → Cell → Bool
stands_before cell.Null cell.Null = false
stands_before cell.Null b = true
stands_before a b = is_less a b

abbrev pub in_direction : Bool → Cell → Cell → Bool
in_direction descending a b = if descending then stands_before b a else stands_before a b

-- the first key on which two rows differ decides
abbrev pub row_before : List (ℕ × Bool) → Row → Row → Bool
row_before [] a b = false
row_before (k ∷ ks) a b = in_direction k.1 (cell_at a k.0) (cell_at b k.0) || (cell_eq (cell_at a k.0) (cell_at b k.0) && row_before ks a b)

-- one more row behind all that it doesn't stand before
abbrev pub placed : List (ℕ × Bool) → List Row → Row → List Row
placed keys rows row = filter (λ x. not (row_before keys row x)) rows ++ row ∷ filter (λ x. row_before keys row x) rows

-- the rows in order of the keys; ties keep their order
abbrev pub ordered : List (ℕ × Bool) → List Row → List Row
ordered keys rows = fold (placed keys) [] rows

abbrev pub cut_to : Cut → List Row → List Row
cut_to (cut.First n) rows = take n rows
cut_to (cut.Last n) rows = drop (length rows - n) rows
cut_to (cut.Between a b) rows = drop a (take b rows)

abbrev pub limited : Option Cut → List Row → List Row
limited None rows = rows
limited (Some c) rows = cut_to c rows
