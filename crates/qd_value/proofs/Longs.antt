-- Which numbers are in the range of LONG.
use Rattle.std.proofs.Common.{◌≡◌, ℕ, ◌+◌, ◌^◌, ◌<◌, ◌≤◌, refl, sym, ap, ◌∙◌, subst, arith}
use Rattle.std.specs.Cmp.{signed_Decides}
use Rattle.std.proofs.lemmas.Bool.{cases_lt}
use Rattle.std.proofs.Math.Nat.{lt_of_not-le}
use mathlib.Core.Bool.{true≢false}
use Rattle.std.proofs.Common.{◌⊎◌, inl, inr}
use Rattle.std.specs.Prelude.{zero, suc, Bool, true, false, cond, nat_le, ℤ, pos, negsuc, int_rem, unsigned_abs, FitsSigned, SomeIff, Some, None}
use Rattle.std.specs.Int.{w64}
use Rattle.std.specs.Int.Signed.{nat_abs-le}
use Rattle.std.specs.Ordering.{int_eq}
use Rattle.std.proofs.lemmas.Bool.Decides.{nat_tests}
use Rattle.std.proofs.lemmas.Int.{rem_below}
use Rattle.qd_base.specs.declared.cell.Cell.TheVariants as cell
use Rattle.qd_base.specs.declared.limits.TheConstants.{MAX_NUMBER, NULL_LONG}
use Rattle.qd_value.specs.Cells.{long}

le-test : (n m : ℕ) → n ≤ m → nat_le n m ≡ true
le-test n m h = grind (arith, nat_tests)

gt-test : (n m : ℕ) → m < n → nat_le n m ≡ false
gt-test n m h = grind (arith, nat_tests)

by-test : (z : ℤ) (t : Bool) → nat_le (unsigned_abs z) MAX_NUMBER ≡ t → long z ≡ cond t (cell.Long z) cell.Null
unfolding long
by-test z t e = ap (λ b. cond b (cell.Long z) cell.Null) e

greatest : MAX_NUMBER + 1 ≡ 2 ^ 63
greatest = refl

pub long_within : (z : ℤ) → unsigned_abs z ≤ MAX_NUMBER → long z ≡ cell.Long z
long_within z h = by-test z true (le-test (unsigned_abs z) MAX_NUMBER h)

pub long_beyond : (z : ℤ) → MAX_NUMBER < unsigned_abs z → long z ≡ cell.Null
long_beyond z h = by-test z false (gt-test (unsigned_abs z) MAX_NUMBER h)

unfit-beyond : (z : ℤ) → ¬ (FitsSigned w64 z) → MAX_NUMBER < unsigned_abs z
unfit-beyond (pos n) never = lt_of_not-le (λ h. never (record { sfits = omega (arith, greatest, h) }))
unfit-beyond (negsuc n) never = lt_of_not-le (λ h. never (record { sfits = omega (arith, greatest, h) }))

least-is : (n : ℕ) → MAX_NUMBER < n + 1 → n < 2 ^ 63 → negsuc n ≡ NULL_LONG
least-is n far fits = ap negsuc (omega (arith, greatest, far, fits))

least-only : (z : ℤ) → FitsSigned w64 z → int_eq z NULL_LONG ≡ false → unsigned_abs z ≤ MAX_NUMBER
least-only (pos n) fits e = omega (arith, greatest, fits.sfits)
least-only (negsuc n) fits e = by (cases_lt MAX_NUMBER (n + 1))
  where
    by : (MAX_NUMBER < n + 1) ⊎ (n + 1 ≤ MAX_NUMBER) → unsigned_abs (negsuc n) ≤ MAX_NUMBER
    by (inl far) = absurd (true≢false (sym ((signed_Decides (negsuc n) NULL_LONG).1 (least-is n far fits.sfits)) ∙ e))
    by (inr near) = omega (arith, near)

pub fitting : (z : ℤ) → FitsSigned w64 z → int_eq z NULL_LONG ≡ false → long z ≡ cell.Long z
fitting z fits e = long_within z (least-only z fits e)

pub least : (z : ℤ) → int_eq z NULL_LONG ≡ true → long z ≡ cell.Null
least z e = subst (λ w. long w ≡ cell.Null) (sym ((signed_Decides z NULL_LONG).0 e)) (long_beyond NULL_LONG (omega arith))

pub long_some : (n z : ℤ) → SomeIff (Some n) (FitsSigned w64 z) z → long n ≡ long z
long_some n z h = ap long h.1

pub long_none : (z : ℤ) → SomeIff None (FitsSigned w64 z) z → cell.Null ≡ long z
long_none z never = sym (long_beyond z (unfit-beyond z never))

pub not_zero : (y : ℤ) → int_eq y (pos 0) ≡ false → 0 < unsigned_abs y
not_zero (pos zero) e = absurd (true≢false e)
not_zero (pos (suc n)) e = omega arith
not_zero (negsuc n) e = omega arith

pub rem_within : (x y : ℤ) → FitsSigned w64 y → int_eq y (pos 0) ≡ false → unsigned_abs (int_rem x y) ≤ MAX_NUMBER
rem_within x y fits e = omega (arith, greatest, rem_below x y (not_zero y e), nat_abs-le y fits.sfits)

pub rem_long : (x y : ℤ) → FitsSigned w64 y → int_eq y (pos 0) ≡ false → long (int_rem x y) ≡ cell.Long (int_rem x y)
rem_long x y fits e = long_within (int_rem x y) (rem_within x y fits e)
