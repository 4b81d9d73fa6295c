-- What holds of every expression and every row.
use Rattle.std.specs.Prelude.{◌≡◌, ◌≢◌, ℕ, Bool, true, false, not, ◌&&◌, ◌||◌, ◌↔◌, ◌<◌, ◌≤◌, IsTrue, List, [], ◌∷◌, ◌++◌, map, ℤ, pos, ◌+ℤ◌, ◌-ℤ◌, ◌*ℤ◌, ◌<ℤ◌, ◌≤ℤ◌, unsigned_abs, Some}
use Rattle.std.specs.List.{list_all, list_any}
use Rattle.qd_base.specs.declared.cell.Cell.{Cell}
use Rattle.qd_base.specs.declared.cell.Cell.TheVariants as cell
use Rattle.qd_base.specs.declared.limits.TheConstants.{MAX_NUMBER}
use Rattle.qd_base.specs.Rows.{Row}
use Rattle.qd_value.specs.declared.bound.Arithmetic.{Arithmetic}
use Rattle.qd_value.specs.declared.bound.Arithmetic.TheVariants as does
use Rattle.qd_value.specs.declared.bound.Comparison.{Comparison}
use Rattle.qd_value.specs.declared.bound.Comparison.TheVariants as asks
use Rattle.qd_value.specs.declared.bound.Bound.{Bound}
use Rattle.qd_value.specs.declared.bound.Bound.TheVariants as is
use Rattle.qd_value.specs.declared.bound.Operand.{Operand, roll-Operand}
use Rattle.qd_value.specs.Cells.{Class, class_of, is_null}
use Rattle.qd_value.specs.Value.{value, passes}

-- x = y, x < y and the others
abbrev pub equal : Bound → Bound → Bound
equal x y = is.Compare asks.Equal x y

abbrev pub less : Bound → Bound → Bound
less x y = is.Compare asks.Less x y

abbrev pub less_equal : Bound → Bound → Bound
less_equal x y = is.Compare asks.LessEqual x y

abbrev pub greater : Bound → Bound → Bound
greater x y = is.Compare asks.Greater x y

abbrev pub greater_equal : Bound → Bound → Bound
greater_equal x y = is.Compare asks.GreaterEqual x y

-- an operator between two expressions
abbrev pub with_op : Arithmetic → Bound → Bound → Bound
with_op op x y = is.Chain x (roll-Operand (record { op = op; right = y }) ∷ [])

-- A row passes a test exactly where the test's value is true; so one whose value is NULL fails. AND is true where the row passes
-- all parts, OR where it passes one, NOT where it fails, IS NULL where the value is NULL, and else each of them is false.
pub record TestsAreTruths : Type 0 where
  pub where_true : (e : Bound) (row : Row) → IsTrue (passes e row) ↔ (value e row ≡ cell.Bool true)
  pub null_fails : (e : Bound) (row : Row) → value e row ≡ cell.Null → passes e row ≡ false
  pub all : (xs : List Bound) (row : Row) → value (is.All xs) row ≡ cell.Bool (list_all (λ e. passes e row) xs)
  pub any : (xs : List Bound) (row : Row) → value (is.Any xs) row ≡ cell.Bool (list_any (λ e. passes e row) xs)
  pub opposite : (x : Bound) (row : Row) → value (is.Not x) row ≡ cell.Bool (not (passes x row))
  pub null : (x : Bound) (row : Row) → IsTrue (passes (is.IsNull x) row) ↔ (value x row ≡ cell.Null)

-- `=` holds exactly where both values are one, two NULLs among them, and `!=` exactly where it doesn't.
pub record EqualityHasAnOpposite : Type 0 where
  pub where_one_value : (x y : Bound) (row : Row) → IsTrue (passes (equal x y) row) ↔ (value x row ≡ value y row)
  pub opposite : (x y : Bound) (row : Row) → passes (is.Compare asks.NotEqual x y) row ≡ not (passes (equal x y) row)

abbrev pub IsOrdering : Comparison → Type 0
IsOrdering asks.Equal = ⊥
IsOrdering asks.NotEqual = ⊥
IsOrdering asks.Less = Unit {0}
IsOrdering asks.LessEqual = Unit {0}
IsOrdering asks.Greater = Unit {0}
IsOrdering asks.GreaterEqual = Unit {0}

-- Beside NULL, and between two classes, each ordering is false. Else numbers and times are ordered by size, false is less than true, and a text is less
-- than each longer one that it begins, and than one that has a greater byte where the two first differ.
pub record OrderingsAreByClass : Type 0 where
  pub null_left : (op : Comparison) (x y : Bound) (row : Row) → IsOrdering op → value x row ≡ cell.Null → passes (is.Compare op x y) row ≡ false
  pub null_right : (op : Comparison) (x y : Bound) (row : Row) → IsOrdering op → value y row ≡ cell.Null → passes (is.Compare op x y) row ≡ false
  pub numbers : (x y : Bound) (row : Row) (a b : ℤ) → value x row ≡ cell.Long a → value y row ≡ cell.Long b → IsTrue (passes (less x y) row) ↔ a <ℤ b
  pub times : (x y : Bound) (row : Row) (a b : ℕ) → value x row ≡ cell.Time a → value y row ≡ cell.Time b → IsTrue (passes (less x y) row) ↔ a < b
  pub truths : (x y : Bound) (row : Row) (a b : Bool) → value x row ≡ cell.Bool a → value y row ≡ cell.Bool b → passes (less x y) row ≡ not a && b
  pub longer_text : (x y : Bound) (row : Row) (front rest : List ℕ) (b : ℕ) → value x row ≡ cell.Text front → value y row ≡ cell.Text (front ++ b ∷ rest) → passes (less x y) row ≡ true
  pub first_difference : (x y : Bound) (row : Row) (front rest more : List ℕ) (a b : ℕ) → a < b
      → value x row ≡ cell.Text (front ++ a ∷ rest) → value y row ≡ cell.Text (front ++ b ∷ more) → passes (less x y) row ≡ true
  pub at_most : (x y : Bound) (row : Row) → passes (less_equal x y) row ≡ passes (less x y) row || (passes (equal x y) row && not (is_null (value x row)))
  pub turned : (x y : Bound) (row : Row) → passes (greater x y) row ≡ passes (less y x) row
  pub turned_at_most : (x y : Bound) (row : Row) → passes (greater_equal x y) row ≡ passes (less_equal y x) row
  pub opposite : (c : Class) (x y : Bound) (row : Row) → class_of (value x row) ≡ Some c → class_of (value y row) ≡ Some c
      → passes (greater_equal x y) row ≡ not (passes (less x y) row)
  pub two_classes : (op : Comparison) (c d : Class) (x y : Bound) (row : Row) → c ≢ d → IsOrdering op → class_of (value x row) ≡ Some c → class_of (value y row) ≡ Some d
      → (passes (is.Compare op x y) row ≡ false) × (passes (equal x y) row ≡ false)

-- `x IN (a, b)` is `x = a OR x = b`, however many there are, and `x IN` an interval is `x >= first AND x <= last`.
pub record InIsManyEquals : Type 0 where
  pub two : (x : Bound) (a b : Cell) (row : Row)
      → value (is.InList x (a ∷ b ∷ [])) row ≡ value (is.Any (equal x (is.Literal a) ∷ equal x (is.Literal b) ∷ [])) row
  pub any_number : (x : Bound) (list : List Cell) (row : Row) → value (is.InList x list) row ≡ value (is.Any (map (λ c. equal x (is.Literal c)) list)) row
  pub interval : (x : Bound) (first last : ℕ) (row : Row)
      → value (is.InInterval x first last) row ≡ value (is.All (greater_equal x (is.Literal (cell.Time first)) ∷ less_equal x (is.Literal (cell.Time last)) ∷ [])) row

-- NOT over AND is OR of NOTs, and NOT over OR is AND of NOTs, whatever the values are. NOT of NULL is true.
pub record NotTurnsAndAndOr : Type 0 where
  pub all : (xs : List Bound) (row : Row) → value (is.Not (is.All xs)) row ≡ value (is.Any (map is.Not xs)) row
  pub any : (xs : List Bound) (row : Row) → value (is.Not (is.Any xs)) row ≡ value (is.All (map is.Not xs)) row
  pub null : (x : Bound) (row : Row) → value x row ≡ cell.Null → value (is.Not x) row ≡ cell.Bool true
  pub thrice : (x : Bound) (row : Row) → value (is.Not (is.Not (is.Not x))) row ≡ value (is.Not x) row

-- a number that a LONG can be
abbrev pub IsLong : ℤ → Type 0
IsLong x = unsigned_abs x ≤ MAX_NUMBER

-- The quotient and the remainder of two numbers make up the dividend. The remainder is nearer to zero than the divisor, and
-- never on the other side of zero than the dividend.
pub record Divides (a b : ℤ) (quotient remainder : Cell) : Type 0 where
  pub q : ℤ
  pub r : ℤ
  pub quotient_is : quotient ≡ cell.Long q
  pub remainder_is : remainder ≡ cell.Long r
  pub whole : q *ℤ b +ℤ r ≡ a
  pub near : unsigned_abs r < unsigned_abs b
  pub not_below : pos 0 ≤ℤ a → pos 0 ≤ℤ r
  pub not_above : a ≤ℤ pos 0 → r ≤ℤ pos 0

-- A sum, difference or product is exact or, outside of the range of LONG, NULL. Beside NULL each operator gives NULL, and so does
-- a division by zero. `- x` is `0 - x`, and operators group to the left.
pub record ArithmeticIsExact : Type 0 where
  pub null_left : (op : Arithmetic) (x y : Bound) (row : Row) → value x row ≡ cell.Null → value (with_op op x y) row ≡ cell.Null
  pub null_right : (op : Arithmetic) (x y : Bound) (row : Row) → value y row ≡ cell.Null → value (with_op op x y) row ≡ cell.Null
  pub sum : (x y : Bound) (row : Row) (a b : ℤ) → value x row ≡ cell.Long a → value y row ≡ cell.Long b → IsLong (a +ℤ b) → value (with_op does.Plus x y) row ≡ cell.Long (a +ℤ b)
  pub difference : (x y : Bound) (row : Row) (a b : ℤ) → value x row ≡ cell.Long a → value y row ≡ cell.Long b → IsLong (a -ℤ b) → value (with_op does.Minus x y) row ≡ cell.Long (a -ℤ b)
  pub product : (x y : Bound) (row : Row) (a b : ℤ) → value x row ≡ cell.Long a → value y row ≡ cell.Long b → IsLong (a *ℤ b) → value (with_op does.Times x y) row ≡ cell.Long (a *ℤ b)
  pub far_sum : (x y : Bound) (row : Row) (a b : ℤ) → value x row ≡ cell.Long a → value y row ≡ cell.Long b → MAX_NUMBER < unsigned_abs (a +ℤ b) → value (with_op does.Plus x y) row ≡ cell.Null
  pub far_difference : (x y : Bound) (row : Row) (a b : ℤ) → value x row ≡ cell.Long a → value y row ≡ cell.Long b → MAX_NUMBER < unsigned_abs (a -ℤ b) → value (with_op does.Minus x y) row ≡ cell.Null
  pub far_product : (x y : Bound) (row : Row) (a b : ℤ) → value x row ≡ cell.Long a → value y row ≡ cell.Long b → MAX_NUMBER < unsigned_abs (a *ℤ b) → value (with_op does.Times x y) row ≡ cell.Null
  pub by_zero : (x y : Bound) (row : Row) → value y row ≡ cell.Long (pos 0) → (value (with_op does.Divide x y) row ≡ cell.Null) × (value (with_op does.Remainder x y) row ≡ cell.Null)
  pub division : (x y : Bound) (row : Row) (a b : ℤ) → IsLong a → b ≢ pos 0 → value x row ≡ cell.Long a → value y row ≡ cell.Long b
      → Divides a b (value (with_op does.Divide x y) row) (value (with_op does.Remainder x y) row)
  pub negated : (x : Bound) (row : Row) → value (is.Negated x) row ≡ value (with_op does.Minus (is.Literal (cell.Long (pos 0))) x) row
  pub group_left : (x : Bound) (links : List Operand) (o : Operand) (row : Row) → value (is.Chain x (links ++ o ∷ [])) row ≡ value (is.Chain (is.Chain x links) (o ∷ [])) row
