-- Arithmetic and comparisons of two cells. QuestDB documentation, "Numeric types" and "NULL values", "Comparison operators";
-- SQL:1992, 8.2, whose comparison with NULL is unknown: here an ordering with NULL is false, and two NULLs are equal.
use Rattle.std.specs.Prelude.{ℕ, Bool, true, false, not, ◌&&◌, if◌then◌else◌, nat_le, ℤ, pos, ◌+ℤ◌, ◌-ℤ◌, ◌*ℤ◌, neg_ℤ, int_div, int_rem, unsigned_abs, Option, Some, None}
use Rattle.std.specs.Cmp.Lexicographic.{slice_cmp}
use Rattle.std.specs.declared.cmp.Ordering.{Ordering}
use Rattle.std.specs.Ordering.{nat_cmp, int_cmp, int_eq, bool_cmp, is_lt, is_le, is_gt, is_ge, is_some_and}
use Rattle.qd_base.specs.declared.cell.Cell.{Cell}
use Rattle.qd_base.specs.declared.cell.Cell.TheVariants as cell
use Rattle.qd_base.specs.declared.limits.TheConstants.{MAX_NUMBER}
use Rattle.qd_base.specs.Rows.{cell_eq}
use Rattle.qd_value.specs.declared.bound.Arithmetic.{Arithmetic}
use Rattle.qd_value.specs.declared.bound.Arithmetic.TheVariants as does
use Rattle.qd_value.specs.declared.bound.Comparison.{Comparison}
use Rattle.qd_value.specs.declared.bound.Comparison.TheVariants as asks

-- The classes of values. NULL has none, and goes with each.
pub data Class : Type 0 where
  number : Class
  truth : Class
  text : Class
  time : Class

abbrev pub class_of : Cell → Option Class
class_of cell.Null = None
class_of (cell.Long x) = Some number
class_of (cell.Bool x) = Some truth
class_of (cell.Text x) = Some text
class_of (cell.Time x) = Some time

abbrev pub is_null : Cell → Bool
is_null cell.Null = true
is_null (cell.Long x) = false
is_null (cell.Bool x) = false
is_null (cell.Text x) = false
is_null (cell.Time x) = false

-- a number from -9223372036854775807 to 9223372036854775807, or NULL
unfoldable pub long : ℤ → Cell
long x = if nat_le (unsigned_abs x) MAX_NUMBER then cell.Long x else cell.Null

-- Division truncates towards zero, and a remainder has the dividend's sign. A divisor of zero gives NULL.
abbrev pub on_numbers : Arithmetic → ℤ → ℤ → Cell
on_numbers does.Plus x y = long (x +ℤ y)
on_numbers does.Minus x y = long (x -ℤ y)
on_numbers does.Times x y = long (x *ℤ y)
on_numbers does.Divide x y = if int_eq y (pos 0) then cell.Null else long (int_div x y)
on_numbers does.Remainder x y = if int_eq y (pos 0) then cell.Null else long (int_rem x y)

-- Arithmetic is on numbers; with NULL it gives NULL.
abbrev pub arithmetic : Arithmetic → Cell → Cell → Cell
arithmetic op (cell.Long x) (cell.Long y) = on_numbers op x y
arithmetic op _ _ = cell.Null

abbrev pub negated : Cell → Cell
negated (cell.Long x) = long (neg_ℤ x)
negated _ = cell.Null

-- How two values of one class stand: numbers and times by size, false before true, texts byte by byte: the first byte that
-- differs decides, and else the shorter text is less. NULL, and values of two classes, stand in no order.
abbrev pub order : Cell → Cell → Option Ordering
order (cell.Long x) (cell.Long y) = Some (int_cmp x y)
order (cell.Bool x) (cell.Bool y) = Some (bool_cmp x y)
order (cell.Text x) (cell.Text y) = Some (slice_cmp nat_cmp x y)
order (cell.Time x) (cell.Time y) = Some (nat_cmp x y)
order _ _ = None

-- `=` holds where both are one value, two NULLs among them, and `!=` is its opposite. An ordering holds where the two stand
-- in such an order, so never beside NULL.
abbrev pub compares : Comparison → Cell → Cell → Bool
compares asks.Equal x y = cell_eq x y
compares asks.NotEqual x y = not (cell_eq x y)
compares asks.Less x y = is_some_and is_lt (order x y)
compares asks.LessEqual x y = is_some_and is_le (order x y)
compares asks.Greater x y = is_some_and is_gt (order x y)
compares asks.GreaterEqual x y = is_some_and is_ge (order x y)

-- a time of an interval, both ends included
abbrev pub is_within : ℕ → ℕ → Cell → Bool
is_within lo hi (cell.Time t) = nat_le lo t && nat_le t hi
is_within lo hi _ = false

-- Where a truth value is asked for, NULL counts as false.
abbrev pub is_true : Cell → Bool
is_true (cell.Bool b) = b
is_true _ = false
