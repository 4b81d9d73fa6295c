-- What a batch keeps of values, as the definitions have them: texts lie in one list of bytes.
use Rattle.std.specs.Prelude.{◌≡◌, ℕ, ◌-◌, ◌≤◌, List, ◌++◌, take, drop, length, map, Option, Some, None}
use Rattle.std.specs.List.{AllByRecursion}
use Rattle.qd_ilp.specs.declared.value.Span.{Span}
use Rattle.qd_ilp.specs.declared.value.Kept.{Kept}
use Rattle.qd_ilp.specs.declared.value.Kept.TheVariants as kept
use Rattle.qd_ilp.specs.declared.item.Pair.{Pair}
use Rattle.qd_ilp.specs.declared.value.When.{When}
use Rattle.qd_ilp.specs.declared.value.When.TheVariants as when
use Rattle.qd_ilp.specs.Value.{Value, Tag, Text, Long, Huge, Truth, Other, Moment, At, Outside}
use Rattle.qd_ilp.specs.Cut.{Grows}
use Rattle.qd_ilp.specs.Line.{Item}

-- the bytes of a span
abbrev pub bytes_in : List ℕ → Span → List ℕ
bytes_in bytes span = take (span.end - span.start) (drop span.start bytes)

-- a span lies within so many bytes
abbrev pub SpanFits : ℕ → Span → Type 0
SpanFits len span = (span.start ≤ span.end) × (span.end ≤ len)

abbrev pub value_in : List ℕ → Kept → Value
value_in bytes (kept.Tag span) = Tag (bytes_in bytes span)
value_in bytes (kept.Text span) = Text (bytes_in bytes span)
value_in bytes (kept.Long n) = Long n
value_in bytes kept.Huge = Huge
value_in bytes (kept.Truth b) = Truth b
value_in bytes kept.Other = Other

abbrev pub ValueFits : ℕ → Kept → Type 0
ValueFits len (kept.Tag span) = SpanFits len span
ValueFits len (kept.Text span) = SpanFits len span
ValueFits len _ = Unit {0}

abbrev pub moment_in : When → Option Moment
moment_in when.Missing = None
moment_in (when.At micros) = Some (At micros)
moment_in when.Outside = Some Outside

-- the buffer has grown, or is the same, and a text lies in this span of it
pub record Puts (before now : List ℕ) (span : Span) (text : List ℕ) : Type 0 where
  pub grows : Grows before now
  pub is : bytes_in now span ≡ text
  pub fits : SpanFits (length now) span

abbrev pub item_in : List ℕ → Pair → Item
item_in bytes pair = record { name = bytes_in bytes pair.name; value = value_in bytes pair.value }

abbrev pub PairFits : ℕ → Pair → Type 0
PairFits len pair = SpanFits len pair.name × ValueFits len pair.value

-- these items were put at the end
pub record PutsItems (before now : List ℕ) (pairs pairs' : List Pair) (items : List Item) : Type 0 where
  pub grows : Grows before now
  pub more : List Pair
  pub pushed : pairs' ≡ pairs ++ more
  pub are : map (item_in now) more ≡ items
  pub fit : AllByRecursion (PairFits (length now)) more
