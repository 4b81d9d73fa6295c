-- The starts of buckets: the last that isn't after a timestamp, and the first that is after it.
use Rattle.std.proofs.Common.{ℕ, zero, suc, ◌+◌, ◌-◌, ◌*◌, ◌/◌, ◌<◌, ◌≤◌, ◌≡◌, inl, inr, ap, ◌∙◌, arith, ℤ, pos, negsuc, ◌+ℤ◌, ◌-ℤ◌, ◌<ℤ◌}
use Rattle.std.proofs.Common.{mul-le-mul}
use Rattle.std.proofs.lemmas.Bool.{cases_order, le-ltb}
use Rattle.std.specs.Int.{int_div_euclid}
use Rattle.jiff_core.proofs.SignedLemmas.{signed_arith, int_div_euclid-parts}
use Rattle.qd_base.specs.declared.limits.TheConstants.{MAX_TIME}
use Rattle.qd_time.specs.Buckets.{clip, month_midnight, months_to, moved, moved_end, last_index, IsNear, IsOffset}
use Rattle.qd_time.specs.Calendar.{date_of_day, day_micros}
use Rattle.qd_time.specs.declared.calendar.TheConstants.{LAST_MONTH}
use Rattle.qd_time.proofs.DateLemmas.{date_of_day-is, date_of_day-year_high}
use Rattle.qd_time.proofs.MonthLemmas.{month_number-far, day_of_month-number_far, lt-months_to, months_to-mono, months_to-moved, moved-zero, last_index-is}

-- whole periods, rounded down, come within a period of the timestamp
pub near : (ts : ℕ) (offset : ℤ) (period : ℕ) → 1 ≤ period → IsNear ts offset period (int_div_euclid (pos ts -ℤ offset) (pos period))
near ts offset period h =
    let parts = int_div_euclid-parts (pos ts -ℤ offset) period h in
    (omega (arith, signed_arith), omega (arith, signed_arith))

clip-high : (z : ℤ) → pos MAX_TIME <ℤ z → MAX_TIME < clip z
clip-high (pos n) h = omega (arith, signed_arith)
clip-high (negsuc n) h = absurd (omega (arith, signed_arith))

-- a month past January 10000 begins past the last timestamp, at any offset
pub clip-far : (m : ℕ) (offset : ℤ) → LAST_MONTH + 1 < m → IsOffset offset → MAX_TIME < clip (pos (month_midnight m) +ℤ offset)
clip-far m offset h in_day =
    clip-high (pos (month_midnight m) +ℤ offset) (omega (arith, signed_arith, month_number-far m h))

-- a moment moved past the year 9999
pub moved-far : (t0 months : ℕ) → LAST_MONTH < months_to t0 + months → MAX_TIME < moved t0 months
moved-far t0 months h =
    let n = t0 / day_micros in
    omega (arith, day_of_month-number_far (months_to t0 + months) (date_of_day n).day (date_of_day-is n).0.day_low h)

-- months of timestamps
pub months_to-high : (ts : ℕ) → ts ≤ MAX_TIME → months_to ts ≤ LAST_MONTH
months_to-high ts h =
    let n = ts / day_micros in
    omega (arith, date_of_day-year_high n (omega arith), (date_of_day-is n).0.month_high)

-- from the next stride on all moved moments are later
pub moved-later : (t0 n ts k : ℕ) → months_to ts < months_to t0 + (k + 1) * n → (j : ℕ) → k < j → ts < moved t0 (j * n)
moved-later t0 n ts k h j lt =
    let more : (k + 1) * n ≤ j * n = mul-le-mul (omega arith) (omega arith) in
    lt-months_to ts (moved t0 (j * n)) (omega (arith, months_to-moved t0 (j * n)))

-- which month a number of strides reaches
pub stride_reaches : (from to n : ℕ) → 1 ≤ n → from ≤ to → let k = (to - from) / n in (k ≤ to) × (from + k * n ≤ to) × (to < from + (k + 1) * n)
stride_reaches from to n low le =
    let k = (to - from) / n in
    let at_most : 1 * k ≤ n * k = mul-le-mul low (omega arith) in
    (omega arith, omega arith, omega arith)

-- the index of the last moved moment, where that of the timestamp's own month isn't after it
pub last_index-here : (t0 n ts k : ℕ) → k ≡ (months_to ts - months_to t0) / n → 1 ≤ n → t0 ≤ ts → moved t0 (k * n) ≤ ts → last_index (λ k. moved t0 (k * n)) ts (months_to ts) ≡ k
last_index-here t0 n ts k e low reached here =
    let reaches = stride_reaches (months_to t0) (months_to ts) n low (months_to-mono t0 ts reached) in
    last_index-is (λ k. moved t0 (k * n)) ts k (months_to ts) (omega (arith, reaches.0)) here (moved-later t0 n ts k (rw e reaches.2))

pub from_first : (t0 n ts k : ℕ) → t0 ≤ ts → ts < moved t0 (k * n) → 1 ≤ k
from_first t0 n ts zero reached after =
    let none : 0 * n ≡ 0 = omega arith in
    absurd (omega (arith, ap (moved t0) none ∙ moved-zero t0))
from_first t0 n ts (suc k) reached after = omega arith

-- and where it is
pub last_index-before : (t0 n ts k : ℕ) → k ≡ (months_to ts - months_to t0) / n → 1 ≤ n → t0 ≤ ts → ts < moved t0 (k * n) → last_index (λ k. moved t0 (k * n)) ts (months_to ts) ≡ k - 1
last_index-before t0 n ts k e low reached after =
    let reaches = stride_reaches (months_to t0) (months_to ts) n low (months_to-mono t0 ts reached) in
    let fits : months_to t0 + k * n ≤ months_to ts = rw e reaches.1 in
    let some = from_first t0 n ts k reached after in
    let one_less : (k - 1 + 1) * n ≡ k * n = ap (λ m. m * n) (omega arith) in
    let before : moved t0 ((k - 1) * n) < ts = lt-months_to (moved t0 ((k - 1) * n)) ts (omega (arith, months_to-moved t0 ((k - 1) * n))) in
    let later : (j : ℕ) → k - 1 < j → ts < moved t0 (j * n) = λ j lt. elim (cases_order k j) [
      | inl same ↦ rw (← same) after
      | inr (inl more) ↦ moved-later t0 n ts k (rw e reaches.2) j more
      | inr (inr less) ↦ absurd (omega arith)
    ] in
    last_index-is (λ k. moved t0 (k * n)) ts (k - 1) (months_to ts) (omega (arith, reaches.0)) (omega arith) later

-- the moment after the last one, moved past the year 9999
pub moved_end-far : (ts n t0 k : ℕ) → t0 ≤ ts → k ≡ last_index (λ k. moved t0 (k * n)) ts (months_to ts) → LAST_MONTH < months_to t0 + (k + 1) * n → MAX_TIME < moved_end n t0 ts
moved_end-far ts n t0 k reached e far =
    rw (le-ltb ts t0 reached, ← e) (moved-far t0 ((k + 1) * n) far)
