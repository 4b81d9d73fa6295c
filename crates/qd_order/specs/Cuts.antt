-- Positions of the rows that are given. QuestDB documentation, "LIMIT".
use Rattle.std.specs.Prelude.{ℕ, ◌-◌, List, map, length, take, drop, Option, Some, None}
use Rattle.std.specs.List.{range_with_len}
use Rattle.qd_base.specs.Rows.{Row}
use Rattle.qd_meaning.specs.declared.parts.AskPlan.{AskPlan}
use Rattle.qd_meaning.specs.declared.parts.Cut.{Cut}
use Rattle.qd_meaning.specs.declared.parts.Cut.TheVariants as cut
use Rattle.qd_meaning.specs.Answer.{output_row}
use Rattle.qd_order.specs.declared.places.Spread.{Spread}
use Rattle.qd_order.specs.declared.places.Spread.TheVariants as spread

-- the positions that a LIMIT leaves of some
abbrev pub cut_places : Option Cut → List ℕ → List ℕ
cut_places None ps = ps
cut_places (Some (cut.First n)) ps = take n ps
cut_places (Some (cut.Last n)) ps = drop (length ps - n) ps
cut_places (Some (cut.Between a b)) ps = drop a (take b ps)

abbrev pub places_of : Spread → List ℕ
places_of (spread.Listed v) = v.items
places_of (spread.Neighbours from to) = range_with_len from (to - from)

-- the output rows of a query's rows
abbrev pub shown_rows : AskPlan → List Row → List Row
shown_rows p rows = map (output_row p.picks p.out) rows
