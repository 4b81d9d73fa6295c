-- The laws of arithmetic.
use Rattle.std.proofs.Common.{◌≡◌, ◌≢◌, ℕ, zero, suc, ◌≤◌, ◌/◌, ◌%◌, List, [], ◌∷◌, ◌++◌, map, refl, sym, ap, ◌∙◌, subst, arith}
use Rattle.std.specs.Prelude.{Bool, true, false, cond, ℤ, pos, negsuc, ◌+ℤ◌, ◌-ℤ◌, ◌*ℤ◌, ◌≤ℤ◌, neg_ℤ, int_div, int_rem, unsigned_abs}
use Rattle.std.specs.Ordering.{int_eq}
use Rattle.std.proofs.lemmas.Bool.Decides.{Decides-int_eq}
use Rattle.std.proofs.lemmas.Int.{ints}
use Rattle.std.proofs.lemmas.Int.{quot-rem, rem_below}
use Rattle.std.proofs.Math.Nat.{div-le_self, mod-le, le_trans}
use lib.Dec.{le→leb, leb→le}
use Rattle.qd_base.specs.declared.cell.Cell.{Cell}
use Rattle.qd_base.specs.declared.cell.Cell.TheVariants as cell
use Rattle.qd_base.specs.declared.limits.TheConstants.{MAX_NUMBER}
use Rattle.qd_base.specs.Rows.{Row}
use Rattle.qd_value.specs.declared.bound.Arithmetic.{Arithmetic}
use Rattle.qd_value.specs.declared.bound.Arithmetic.TheVariants as does
use Rattle.qd_value.specs.declared.bound.Bound.{Bound}
use Rattle.qd_value.specs.declared.bound.Bound.TheVariants as is
use Rattle.qd_value.specs.declared.bound.Operand.{Operand, roll-Operand}
use Rattle.qd_value.specs.Cells.{long, arithmetic, negated}
use Rattle.qd_value.specs.Value.{Step, chained, value, operand_value}
use Rattle.qd_value.specs.Laws.{ArithmeticIsExact, Divides, IsLong, with_op}
use Rattle.qd_value.proofs.Longs.{long_within, long_beyond, not_zero}
use Rattle.qd_value.proofs.Values.{value-literal, value-negated, value-chain, operand-value}

-- an operator between two expressions
value-op : (op : Arithmetic) (x y : Bound) (row : Row) → value (with_op op x y) row ≡ arithmetic op (value x row) (value y row)
value-op op x y row =
    value-chain x (roll-Operand (record { op = op; right = y }) ∷ []) row ∙ ap (λ (s : Step). arithmetic s.0 (value x row) s.1) (operand-value op y row)

-- the same, where the values are known
op-at : (op : Arithmetic) (x y : Bound) (row : Row) (a b : Cell) → value x row ≡ a → value y row ≡ b → value (with_op op x y) row ≡ arithmetic op a b
op-at op x y row a b d e = value-op op x y row ∙ (λ i. arithmetic op (d i) (e i))

right-null : (op : Arithmetic) (c : Cell) → arithmetic op c cell.Null ≡ cell.Null
right-null op cell.Null = refl
right-null op (cell.Long x) = refl
right-null op (cell.Bool x) = refl
right-null op (cell.Text x) = refl
right-null op (cell.Time x) = refl

zero-divides : (c : Cell) → (arithmetic does.Divide c (cell.Long (pos 0)) ≡ cell.Null) × (arithmetic does.Remainder c (cell.Long (pos 0)) ≡ cell.Null)
zero-divides cell.Null = (refl, refl)
zero-divides (cell.Long x) = (refl, refl)
zero-divides (cell.Bool x) = (refl, refl)
zero-divides (cell.Text x) = (refl, refl)
zero-divides (cell.Time x) = (refl, refl)

-- a test of a divisor that isn't zero
unequal : (b : ℤ) → b ≢ pos 0 → int_eq b (pos 0) ≡ false
unequal b apart = by (int_eq b (pos 0)) (Decides-int_eq b (pos 0)).0
  where
    by : (t : Bool) → (t ≡ true → b ≡ pos 0) → t ≡ false
    by true f = absurd (apart (f refl))
    by false f = refl

abs-neg : (n : ℕ) → unsigned_abs (neg_ℤ (pos n)) ≡ n
abs-neg zero = refl
abs-neg (suc n) = refl

div-le : (n m : ℕ) → n / m ≤ n
div-le n m = div-le_self n m

quotient-size : (a b : ℤ) → unsigned_abs (int_div a b) ≤ unsigned_abs a
quotient-size (pos a) (pos b) = div-le a b
quotient-size (pos a) (negsuc b) = subst (λ n. n ≤ a) (sym (abs-neg (a / suc b))) (div-le a (suc b))
quotient-size (negsuc a) (pos b) = subst (λ n. n ≤ suc a) (sym (abs-neg (suc a / b))) (div-le (suc a) b)
quotient-size (negsuc a) (negsuc b) = div-le (suc a) (suc b)

remainder-size : (a b : ℤ) → unsigned_abs (int_rem a b) ≤ unsigned_abs a
remainder-size (pos a) b = mod-le a (unsigned_abs b)
remainder-size (negsuc a) b = subst (λ n. n ≤ suc a) (sym (abs-neg (suc a % unsigned_abs b))) (mod-le (suc a) (unsigned_abs b))

below-zero : (n : ℕ) → neg_ℤ (pos n) ≤ℤ pos 0
below-zero zero = record { le = tt }
below-zero (suc n) = record { le = tt }

not-below : (a b : ℤ) → pos 0 ≤ℤ a → pos 0 ≤ℤ int_rem a b
not-below (pos a) b h = record { le = le→leb 0 (a % unsigned_abs b) (omega arith) }
not-below (negsuc a) b h = absurd h.le

not-above : (a b : ℤ) → a ≤ℤ pos 0 → int_rem a b ≤ℤ pos 0
not-above (pos a) b h = record { le = le→leb (a % unsigned_abs b) 0 (le_trans (mod-le a (unsigned_abs b)) (leb→le a 0 h.le)) }
not-above (negsuc a) b h = below-zero (suc a % unsigned_abs b)

divided : (a b : ℤ) (q : ℤ) → b ≢ pos 0 → unsigned_abs q ≤ MAX_NUMBER → cond (int_eq b (pos 0)) cell.Null (long q) ≡ cell.Long q
divided a b q apart size = ap (λ t. cond t cell.Null (long q)) (unequal b apart) ∙ long_within q size

divides : (x y : Bound) (row : Row) (a b : ℤ) → IsLong a → b ≢ pos 0 → value x row ≡ cell.Long a → value y row ≡ cell.Long b
    → Divides a b (value (with_op does.Divide x y) row) (value (with_op does.Remainder x y) row)
divides x y row a b size apart d e =
    record {
      q = int_div a b;
      r = int_rem a b;
      quotient_is = op-at does.Divide x y row (cell.Long a) (cell.Long b) d e ∙ divided a b (int_div a b) apart (omega (arith, size, quotient-size a b));
      remainder_is = op-at does.Remainder x y row (cell.Long a) (cell.Long b) d e ∙ divided a b (int_rem a b) apart (omega (arith, size, remainder-size a b));
      whole = quot-rem a b;
      near = rem_below a b (not_zero b (unequal b apart));
      not_below = not-below a b;
      not_above = not-above a b;
    }

from-zero : (a : ℤ) → neg_ℤ a ≡ pos 0 -ℤ a
from-zero a = omega (arith, ints)

minus-zero : (c : Cell) → negated c ≡ arithmetic does.Minus (cell.Long (pos 0)) c
minus-zero cell.Null = refl
minus-zero (cell.Long x) = ap long (from-zero x)
minus-zero (cell.Bool x) = refl
minus-zero (cell.Text x) = refl
minus-zero (cell.Time x) = refl

chained-append : (c : Cell) (steps : List Step) (s : Step) → chained c (steps ++ s ∷ []) ≡ arithmetic s.0 (chained c steps) s.1
chained-append c [] s = refl
chained-append c (t ∷ steps) s = chained-append (arithmetic t.0 c t.1) steps s

map-append : (links : List Operand) (o : Operand) (row : Row) → map (operand_value row) (links ++ o ∷ []) ≡ map (operand_value row) links ++ operand_value row o ∷ []
map-append [] o row = refl
map-append (l ∷ links) o row = ap (λ ls. operand_value row l ∷ ls) (map-append links o row)

groups-left : (x : Bound) (links : List Operand) (o : Operand) (row : Row) → value (is.Chain x (links ++ o ∷ [])) row ≡ value (is.Chain (is.Chain x links) (o ∷ [])) row
groups-left x links o row =
    let s = operand_value row o in
    value-chain x (links ++ o ∷ []) row ∙ ap (chained (value x row)) (map-append links o row) ∙ chained-append (value x row) (map (operand_value row) links) s
    ∙ ap (λ c. arithmetic s.0 c s.1) (sym (value-chain x links row)) ∙ sym (value-chain (is.Chain x links) (o ∷ []) row)

pub arithmetic-is-exact : ArithmeticIsExact
arithmetic-is-exact =
    record {
      null_left = λ op x y row null. op-at op x y row cell.Null (value y row) null refl;
      null_right = λ op x y row null. op-at op x y row (value x row) cell.Null refl null ∙ right-null op (value x row);
      sum = λ x y row a b d e size. op-at does.Plus x y row (cell.Long a) (cell.Long b) d e ∙ long_within (a +ℤ b) size;
      difference = λ x y row a b d e size. op-at does.Minus x y row (cell.Long a) (cell.Long b) d e ∙ long_within (a -ℤ b) size;
      product = λ x y row a b d e size. op-at does.Times x y row (cell.Long a) (cell.Long b) d e ∙ long_within (a *ℤ b) size;
      far_sum = λ x y row a b d e far. op-at does.Plus x y row (cell.Long a) (cell.Long b) d e ∙ long_beyond (a +ℤ b) far;
      far_difference = λ x y row a b d e far. op-at does.Minus x y row (cell.Long a) (cell.Long b) d e ∙ long_beyond (a -ℤ b) far;
      far_product = λ x y row a b d e far. op-at does.Times x y row (cell.Long a) (cell.Long b) d e ∙ long_beyond (a *ℤ b) far;
      by_zero = λ x y row e. (
        op-at does.Divide x y row (value x row) (cell.Long (pos 0)) refl e ∙ (zero-divides (value x row)).0,
        op-at does.Remainder x y row (value x row) (cell.Long (pos 0)) refl e ∙ (zero-divides (value x row)).1,
      );
      division = divides;
      negated = λ x row.
          value-negated x row ∙ minus-zero (value x row)
          ∙ sym (op-at does.Minus (is.Literal (cell.Long (pos 0))) x row (cell.Long (pos 0)) (value x row) (value-literal (cell.Long (pos 0)) row) refl);
      group_left = groups-left;
    }
