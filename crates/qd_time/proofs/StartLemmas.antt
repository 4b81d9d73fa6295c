-- The bucket's start is the last start that isn't after a timestamp, and the next one the first that
-- is after it.
use Rattle.std.proofs.Common.{ℕ, ◌+◌, ◌-◌, ◌*◌, ◌/◌, ◌%◌, ◌<◌, ◌≤◌, ◌≡◌, ◌⊎◌, inl, inr, refl, sym, ap, ◌∙◌, arith, subst, mul-le-mul, ℤ, pos, negsuc, ◌+ℤ◌, ◌-ℤ◌, ◌*ℤ◌, ◌≤ℤ◌, ◌<ℤ◌}
use Rattle.std.proofs.lemmas.Bool.{cases_lt, cases_order, lt-ltb, le-ltb}
use Rattle.std.proofs.lemmas.Int.{by_lt_z}
use Rattle.std.specs.Int.{int_div_euclid}
use Rattle.jiff_core.proofs.SignedLemmas.{signed_arith}
use Rattle.qd_time.specs.Buckets.{clip, offset_micros, month_number, day_of_month, month_midnight, moved, months_to, last_index, month_start, month_end, start_by, end_by, StartsBy, as_period, period_of, IsStride, IsPeriod, IsReached}
use Rattle.qd_time.specs.Calendar.{CalendarDate, date_of_day, day_micros, day_number, midnight}
use Rattle.qd_time.specs.Units.{start_of}
use Rattle.qd_time.specs.declared.buckets.Align.{Align}
use Rattle.qd_time.specs.declared.buckets.Align.TheVariants.{Calendar, First}
use Rattle.qd_time.specs.declared.buckets.Period.{Period}
use Rattle.qd_time.specs.declared.buckets.Period.TheVariants.{Micros, Months}
use Rattle.qd_time.specs.declared.buckets.Stride.{Stride}
use Rattle.qd_base.specs.declared.limits.TheConstants.{MAX_STRIDE}
use Rattle.qd_base.specs.declared.unit.TimeUnit.{TimeUnit}
use Rattle.qd_base.specs.declared.unit.TimeUnit.TheVariants.{Micro, Milli, Second, Minute, Hour, Day, Month, Year}
use Rattle.qd_time.proofs.DateLemmas.{date_of_day-is}
use Rattle.qd_time.proofs.UnitLemmas.{in_unit, midnight_day}
use Rattle.qd_time.proofs.DateOrderLemmas.{date_of_day-day_number}
use Rattle.qd_time.proofs.MonthLemmas.{month_number-year, month_number-day_of_month, day_of_month-is, day_of_month-first, lt-months_to, months_to-mono, months_to-moved, moved-zero}
use Rattle.qd_time.proofs.BucketLemmas.{near, stride_reaches, from_first, last_index-here, last_index-before, moved-later}
use borrow.Author.Differences.{up, down}

clip-mono : (a b : ℤ) → a ≤ℤ b → clip a ≤ clip b
clip-mono (pos a) (pos b) h = omega (arith, signed_arith)
clip-mono (pos a) (negsuc b) h = absurd (omega (arith, signed_arith))
clip-mono (negsuc a) b h = omega arith

clip-le : (z : ℤ) (n : ℕ) → z ≤ℤ pos n → clip z ≤ n
clip-le z n h = clip-mono z (pos n) h

lt-clip : (n : ℕ) (z : ℤ) → pos n <ℤ z → n < clip z
lt-clip n (pos m) h = omega (arith, signed_arith)
lt-clip n (negsuc m) h = absurd (omega (arith, signed_arith))

lt-of_clip : (n : ℕ) (z : ℤ) → n < clip z → pos n <ℤ z
lt-of_clip n (pos m) h = omega (arith, signed_arith)
lt-of_clip n (negsuc m) h = absurd (omega arith)

product-parts : (z : ℤ) (n : ℕ) → up (z *ℤ pos n) + down z * n ≡ down (z *ℤ pos n) + up z * n
product-parts z n = omega (arith, signed_arith)

product-mono : (a b : ℤ) (n : ℕ) → a ≤ℤ b → (a *ℤ pos n) ≤ℤ (b *ℤ pos n)
product-mono a b n h =
    let parts : up a + down b ≤ up b + down a = omega (arith, signed_arith) in
    let more : (up a + down b) * n ≤ (up b + down a) * n = mul-le-mul parts (omega arith) in
    omega (arith, signed_arith, product-parts a n, product-parts b n)

pub product-next : (k : ℤ) (n : ℕ) → (k +ℤ pos 1) *ℤ pos n ≡ k *ℤ pos n +ℤ pos n
product-next k n =
    let parts : up (k +ℤ pos 1) + down k ≡ down (k +ℤ pos 1) + (up k + 1) = omega (arith, signed_arith) in
    let more : (up (k +ℤ pos 1) + down k) * n ≡ (down (k +ℤ pos 1) + (up k + 1)) * n = ap (λ m. m * n) parts in
    omega (arith, signed_arith, product-parts k n, product-parts (k +ℤ pos 1) n)

-- periods on the calendar
module _ (ts : ℕ) (offset : ℤ) (period : ℕ) (low : 1 ≤ period) where
  aligned-le : clip (offset +ℤ int_div_euclid (pos ts -ℤ offset) (pos period) *ℤ pos period) ≤ ts
  aligned-le = clip-le _ ts (near ts offset period low).0

  aligned-lt : ts < clip (offset +ℤ int_div_euclid (pos ts -ℤ offset) (pos period) *ℤ pos period +ℤ pos period)
  aligned-lt = lt-clip ts _ (near ts offset period low).1

  aligned-greatest : (k : ℤ) → clip (offset +ℤ k *ℤ pos period) ≤ ts → clip (offset +ℤ k *ℤ pos period) ≤ clip (offset +ℤ int_div_euclid (pos ts -ℤ offset) (pos period) *ℤ pos period)
  aligned-greatest k h =
      let q = int_div_euclid (pos ts -ℤ offset) (pos period) in
      let n = near ts offset period low in
      by_lt_z q k
      (λ lt. let more = product-mono (q +ℤ pos 1) k period (omega (arith, signed_arith)) in
      let next = subst (λ z. z ≤ℤ (k *ℤ pos period)) (product-next q period) more in
      absurd (omega (arith, lt-clip ts (offset +ℤ k *ℤ pos period) (omega (arith, signed_arith)))))
      (λ le. clip-mono (offset +ℤ k *ℤ pos period) (offset +ℤ q *ℤ pos period) (let less = product-mono k q period le in omega (arith, signed_arith)))

  aligned-least : (k : ℤ) → ts < clip (offset +ℤ k *ℤ pos period) → clip (offset +ℤ int_div_euclid (pos ts -ℤ offset) (pos period) *ℤ pos period +ℤ pos period) ≤ clip (offset +ℤ k *ℤ pos period)
  aligned-least k h =
      let q = int_div_euclid (pos ts -ℤ offset) (pos period) in
      let n = near ts offset period low in
      let past = lt-of_clip ts (offset +ℤ k *ℤ pos period) h in
      by_lt_z q k
      (λ lt. let more = product-mono (q +ℤ pos 1) k period (omega (arith, signed_arith)) in
      let next = subst (λ z. z ≤ℤ (k *ℤ pos period)) (product-next q period) more in
      clip-mono (offset +ℤ q *ℤ pos period +ℤ pos period) (offset +ℤ k *ℤ pos period) (omega (arith, signed_arith)))
      (λ le. let less = product-mono k q period le in absurd (omega (arith, signed_arith)))

  aligned-next : clip (offset +ℤ int_div_euclid (pos ts -ℤ offset) (pos period) *ℤ pos period +ℤ pos period) ≡ clip (offset +ℤ (int_div_euclid (pos ts -ℤ offset) (pos period) +ℤ pos 1) *ℤ pos period)
  aligned-next =
      let q = int_div_euclid (pos ts -ℤ offset) (pos period) in
      let e = product-next q period in
      let same : offset +ℤ q *ℤ pos period +ℤ pos period ≡ offset +ℤ (q +ℤ pos 1) *ℤ pos period = omega (arith, signed_arith) in
      ap clip same

-- periods from a first observation
module _ (ts t0 period : ℕ) (low : 1 ≤ period) (reached : t0 ≤ ts) where
  counted-parts : (t0 + (ts - t0) / period * period ≤ ts) × (ts < t0 + ((ts - t0) / period + 1) * period)
  counted-parts = (omega arith, omega arith)

  counted-greatest : (k : ℕ) → t0 + k * period ≤ ts → t0 + k * period ≤ t0 + (ts - t0) / period * period
  counted-greatest k h =
      let q = (ts - t0) / period in
      elim (cases_lt q k) [
        | inl lt ↦ let more : (q + 1) * period ≤ k * period = mul-le-mul (omega arith) (omega arith) in absurd (omega (arith, counted-parts.1))
        | inr le ↦ let less : k * period ≤ q * period = mul-le-mul le (omega arith) in omega arith
      ]

  counted-least : (k : ℕ) → ts < t0 + k * period → t0 + ((ts - t0) / period + 1) * period ≤ t0 + k * period
  counted-least k h =
      let q = (ts - t0) / period in
      elim (cases_lt q k) [
        | inl lt ↦ let more : (q + 1) * period ≤ k * period = mul-le-mul (omega arith) (omega arith) in omega arith
        | inr le ↦ let less : k * period ≤ q * period = mul-le-mul le (omega arith) in absurd (omega (arith, counted-parts.0))
      ]

-- a month's first moment and the months of timestamps
months_to-midnight : (m : ℕ) → months_to (month_midnight m) ≡ m
months_to-midnight m =
    ap (λ n. month_number (date_of_day n)) (midnight_day (day_number (day_of_month m 1)))
    ∙ ap month_number (date_of_day-day_number (day_of_month m 1) (day_of_month-is m 1 (omega arith)))
    ∙ month_number-day_of_month m 1

lt-month_midnight : (a m : ℕ) → months_to a < m → a < month_midnight m
lt-month_midnight a m h = lt-months_to a (month_midnight m) (omega (arith, months_to-midnight m))

own_month : (a : ℕ) → month_midnight (months_to a) ≡ start_of Month a
own_month a =
    let d = date_of_day (a / day_micros) in
    let is = month_number-year d (date_of_day-is (a / day_micros)).0 in
    ap midnight (day_of_month-first (month_number d)
    ∙ ap (λ y. let date : CalendarDate = record { year = y; month = month_number d % 12 + 1; day = 1 } in date) is.0
    ∙ ap (λ m. let date : CalendarDate = record { year = d.year; month = m; day = 1 } in date) is.1)

month_midnight-le : (a m : ℕ) → m ≤ months_to a → month_midnight m ≤ a
month_midnight-le a m h =
    elim (cases_order m (months_to a)) [
      | inl same ↦ omega (arith, ap month_midnight same ∙ own_month a, (in_unit Month a).0)
      | inr (inl lt) ↦ omega (arith, lt-months_to (month_midnight m) a (omega (arith, months_to-midnight m)))
      | inr (inr gt) ↦ absurd (omega arith)
    ]

month_midnight-mono : (m k : ℕ) → m ≤ k → month_midnight m ≤ month_midnight k
month_midnight-mono m k h = month_midnight-le (month_midnight k) m (omega (arith, months_to-midnight k))

-- months on the calendar, by how far a timestamp lies after the offset
module _ (ts n : ℕ) (offset : ℤ) (low : 1 ≤ n) where
  months-le : (z : ℤ) → pos ts ≡ z +ℤ offset → month_start n offset z ≤ ts
  months-le (pos a) e =
      let k = months_to a / n in
      let at_most : k * n ≤ months_to a = omega arith in
      let before = month_midnight-le a (k * n) at_most in
      clip-le (pos (month_midnight (k * n)) +ℤ offset) ts (omega (arith, signed_arith))
  months-le (negsuc b) e = omega arith

  months-lt : (z : ℤ) → pos ts ≡ z +ℤ offset → ts < month_end n offset z
  months-lt (pos a) e =
      let k = months_to a / n in
      let past : months_to a < (k + 1) * n = omega arith in
      let after = lt-month_midnight a ((k + 1) * n) past in
      lt-clip ts (pos (month_midnight ((k + 1) * n)) +ℤ offset) (omega (arith, signed_arith))
  months-lt (negsuc b) e = lt-clip ts (pos (month_midnight 0) +ℤ offset) (omega (arith, signed_arith))

  months-starts : (z : ℤ) → (month_start n offset z ≡ 0) ⊎ ((k : ℕ) × (month_start n offset z ≡ clip (pos (month_midnight (k * n)) +ℤ offset)))
  months-starts (pos a) = inr (months_to a / n, refl)
  months-starts (negsuc b) = inl refl

  months-ends : (z : ℤ) → (k : ℕ) × (month_end n offset z ≡ clip (pos (month_midnight (k * n)) +ℤ offset))
  months-ends (pos a) = (months_to a / n + 1, refl)
  months-ends (negsuc b) =
      let none : 0 ≡ 0 * n = omega arith in
      (0, ap (λ m. clip (pos (month_midnight m) +ℤ offset)) none)

  begin-mono : (m k : ℕ) → m ≤ k → clip (pos (month_midnight m) +ℤ offset) ≤ clip (pos (month_midnight k) +ℤ offset)
  begin-mono m k h =
      clip-mono (pos (month_midnight m) +ℤ offset) (pos (month_midnight k) +ℤ offset) (let more = month_midnight-mono m k h in omega (arith, signed_arith))

  months-greatest : (z : ℤ) → pos ts ≡ z +ℤ offset → (k : ℕ) → clip (pos (month_midnight (k * n)) +ℤ offset) ≤ ts → clip (pos (month_midnight (k * n)) +ℤ offset) ≤ month_start n offset z
  months-greatest (pos a) e k h =
      let q = months_to a / n in
      elim (cases_lt q k) [
        | inl lt ↦
            let more : (q + 1) * n ≤ k * n = mul-le-mul (omega arith) (omega arith) in
            let after = lt-month_midnight a (k * n) (omega arith) in
            absurd (omega (arith, lt-clip ts (pos (month_midnight (k * n)) +ℤ offset) (omega (arith, signed_arith))))
        | inr le ↦ begin-mono (k * n) (q * n) (mul-le-mul le (omega arith))
      ]
  months-greatest (negsuc b) e k h =
      absurd (omega (arith, lt-clip ts (pos (month_midnight (k * n)) +ℤ offset) (omega (arith, signed_arith))))

  months-least : (z : ℤ) → pos ts ≡ z +ℤ offset → (k : ℕ) → ts < clip (pos (month_midnight (k * n)) +ℤ offset) → month_end n offset z ≤ clip (pos (month_midnight (k * n)) +ℤ offset)
  months-least (pos a) e k h =
      let q = months_to a / n in
      let past = lt-of_clip ts (pos (month_midnight (k * n)) +ℤ offset) h in
      elim (cases_lt q k) [
        | inl lt ↦ begin-mono ((q + 1) * n) (k * n) (mul-le-mul (omega arith) (omega arith))
        | inr le ↦
            let less : k * n ≤ q * n = mul-le-mul le (omega arith) in
            let before = month_midnight-le a (k * n) (omega arith) in
            absurd (omega (arith, signed_arith))
      ]
  months-least (negsuc b) e k h = begin-mono 0 (k * n) (omega arith)

-- months from a first observation
moved-lt : (t0 j k : ℕ) → j < k → moved t0 j < moved t0 k
moved-lt t0 j k h = lt-months_to (moved t0 j) (moved t0 k) (omega (arith, months_to-moved t0 j, months_to-moved t0 k))

moved-mono : (t0 j k : ℕ) → j ≤ k → moved t0 j ≤ moved t0 k
moved-mono t0 j k h =
    elim (cases_order j k) [
      | inl same ↦ omega (arith, ap (moved t0) same)
      | inr (inl lt) ↦ omega (arith, moved-lt t0 j k lt)
      | inr (inr gt) ↦ absurd (omega arith)
    ]

-- the last moved moment isn't after the timestamp, and the next one is
last_moved : (ts t0 n : ℕ) → 1 ≤ n → t0 ≤ ts → let k = last_index (λ k. moved t0 (k * n)) ts (months_to ts) in (moved t0 (k * n) ≤ ts) × (ts < moved t0 ((k + 1) * n))
last_moved ts t0 n low reached =
    let q = (months_to ts - months_to t0) / n in
    let reaches = stride_reaches (months_to t0) (months_to ts) n low (months_to-mono t0 ts reached) in
    let P : ℕ → Type 0 = λ k. (moved t0 (k * n) ≤ ts) × (ts < moved t0 ((k + 1) * n)) in
    elim (cases_lt ts (moved t0 (q * n))) [
      | inr here ↦ subst P (sym (last_index-here t0 n ts q refl low reached here)) (here, moved-later t0 n ts q reaches.2 (q + 1) (omega arith))
      | inl after ↦
          let some = from_first t0 n ts q reached after in
          let before = last_index-before t0 n ts q refl low reached after in
          let next : (q - 1 + 1) * n ≡ q * n = ap (λ m. m * n) (omega (arith, some)) in
          let earlier = lt-months_to (moved t0 ((q - 1) * n)) ts (omega (arith, months_to-moved t0 ((q - 1) * n))) in
          subst P (sym before) (omega arith, rw next after)
    ]

module _ (ts t0 n : ℕ) (low : 1 ≤ n) (reached : t0 ≤ ts) where
  moved-greatest : (k : ℕ) → moved t0 (k * n) ≤ ts → moved t0 (k * n) ≤ moved t0 (last_index (λ k. moved t0 (k * n)) ts (months_to ts) * n)
  moved-greatest k h =
      let q = last_index (λ k. moved t0 (k * n)) ts (months_to ts) in
      elim (cases_lt q k) [
        | inl lt ↦ absurd (omega (arith, (last_moved ts t0 n low reached).1, moved-mono t0 ((q + 1) * n) (k * n) (mul-le-mul (omega arith) (omega arith))))
        | inr le ↦ moved-mono t0 (k * n) (q * n) (mul-le-mul le (omega arith))
      ]

  moved-least : (k : ℕ) → ts < moved t0 (k * n) → moved t0 ((last_index (λ k. moved t0 (k * n)) ts (months_to ts) + 1) * n) ≤ moved t0 (k * n)
  moved-least k h =
      let q = last_index (λ k. moved t0 (k * n)) ts (months_to ts) in
      elim (cases_lt q k) [
        | inl lt ↦ moved-mono t0 ((q + 1) * n) (k * n) (mul-le-mul (omega arith) (omega arith))
        | inr le ↦ absurd (omega (arith, (last_moved ts t0 n low reached).0, moved-mono t0 (k * n) (q * n) (mul-le-mul le (omega arith))))
      ]

back : (ts : ℕ) (offset : ℤ) → pos ts ≡ pos ts -ℤ offset +ℤ offset
back ts offset = omega (arith, signed_arith)

-- a bucket starts at a timestamp or before it
pub start_by-le : (s : Period) (a : Align) (ts : ℕ) → IsPeriod s → IsReached a ts → start_by s a ts ≤ ts
start_by-le (Micros period) (Calendar minutes) ts h r = aligned-le ts (offset_micros minutes) period h.0
start_by-le (Micros period) (First t0) ts h r = (counted-parts ts t0 period h.0 r).0
start_by-le (Months n) (Calendar minutes) ts h r =
    let offset = offset_micros minutes in months-le ts n offset h.0 (pos ts -ℤ offset) (back ts offset)
start_by-le (Months n) (First t0) ts h r = (last_moved ts t0 n h.0 r).0

-- and the next one after it
pub lt-end_by : (s : Period) (a : Align) (ts : ℕ) → IsPeriod s → ts < end_by s a ts
lt-end_by (Micros period) (Calendar minutes) ts h = aligned-lt ts (offset_micros minutes) period h.0
lt-end_by (Micros period) (First t0) ts h =
    elim (cases_lt ts t0) [
      | inl lt ↦ rw (lt-ltb ts t0 lt) lt
      | inr ge ↦ rw (le-ltb ts t0 ge) (counted-parts ts t0 period h.0 ge).1
    ]
lt-end_by (Months n) (Calendar minutes) ts h =
    let offset = offset_micros minutes in months-lt ts n offset h.0 (pos ts -ℤ offset) (back ts offset)
lt-end_by (Months n) (First t0) ts h =
    elim (cases_lt ts t0) [
      | inl lt ↦ rw (lt-ltb ts t0 lt) lt
      | inr ge ↦ rw (le-ltb ts t0 ge) (last_moved ts t0 n h.0 ge).1
    ]

-- both are starts
pub start_by-starts : (s : Period) (a : Align) (ts : ℕ) → IsPeriod s → StartsBy s a (start_by s a ts)
start_by-starts (Micros period) (Calendar minutes) ts h =
    (int_div_euclid (pos ts -ℤ offset_micros minutes) (pos period), refl)
start_by-starts (Micros period) (First t0) ts h = ((ts - t0) / period, refl)
start_by-starts (Months n) (Calendar minutes) ts h =
    let offset = offset_micros minutes in months-starts ts n offset h.0 (pos ts -ℤ offset)
start_by-starts (Months n) (First t0) ts h = (last_index (λ k. moved t0 (k * n)) ts (months_to ts), refl)

pub end_by-starts : (s : Period) (a : Align) (ts : ℕ) → IsPeriod s → StartsBy s a (end_by s a ts)
end_by-starts (Micros period) (Calendar minutes) ts h =
    let offset = offset_micros minutes in
    (int_div_euclid (pos ts -ℤ offset) (pos period) +ℤ pos 1, aligned-next ts offset period h.0)
end_by-starts (Micros period) (First t0) ts h =
    elim (cases_lt ts t0) [
      | inl lt ↦ rw (lt-ltb ts t0 lt) (0, omega arith)
      | inr ge ↦ rw (le-ltb ts t0 ge) ((ts - t0) / period + 1, refl)
    ]
end_by-starts (Months n) (Calendar minutes) ts h =
    let offset = offset_micros minutes in inr (months-ends ts n offset h.0 (pos ts -ℤ offset))
end_by-starts (Months n) (First t0) ts h =
    let none : 0 * n ≡ 0 = omega arith in
    elim (cases_lt ts t0) [
      | inl lt ↦ rw (lt-ltb ts t0 lt) (0, sym (ap (moved t0) none ∙ moved-zero t0))
      | inr ge ↦ rw (le-ltb ts t0 ge) (last_index (λ k. moved t0 (k * n)) ts (months_to ts) + 1, refl)
    ]

-- no start lies between a bucket's start and the timestamp
pub start_by-greatest : (s : Period) (a : Align) (ts x : ℕ) → IsPeriod s → IsReached a ts → StartsBy s a x → x ≤ ts → x ≤ start_by s a ts
start_by-greatest (Micros period) (Calendar minutes) ts x h r (k, e) le =
    rw e (aligned-greatest ts (offset_micros minutes) period h.0 k (rw e at le))
start_by-greatest (Micros period) (First t0) ts x h r (k, e) le =
    rw e (counted-greatest ts t0 period h.0 r k (rw e at le))
start_by-greatest (Months n) (Calendar minutes) ts x h r (inl zero_is) le = omega arith
start_by-greatest (Months n) (Calendar minutes) ts x h r (inr (k, e)) le =
    let offset = offset_micros minutes in
    rw e (months-greatest ts n offset h.0 (pos ts -ℤ offset) (back ts offset) k (rw e at le))
start_by-greatest (Months n) (First t0) ts x h r (k, e) le =
    rw e (moved-greatest ts t0 n h.0 r k (rw e at le))

-- and none between the timestamp and the next start
pub end_by-least : (s : Period) (a : Align) (ts x : ℕ) → IsPeriod s → StartsBy s a x → ts < x → end_by s a ts ≤ x
end_by-least (Micros period) (Calendar minutes) ts x h (k, e) lt =
    rw e (aligned-least ts (offset_micros minutes) period h.0 k (rw e at lt))
end_by-least (Micros period) (First t0) ts x h (k, e) lt =
    elim (cases_lt ts t0) [
      | inl before ↦ rw (lt-ltb ts t0 before, e) (omega arith)
      | inr ge ↦ rw (le-ltb ts t0 ge, e) (counted-least ts t0 period h.0 ge k (rw e at lt))
    ]
end_by-least (Months n) (Calendar minutes) ts x h (inl zero_is) lt = absurd (omega arith)
end_by-least (Months n) (Calendar minutes) ts x h (inr (k, e)) lt =
    let offset = offset_micros minutes in
    rw e (months-least ts n offset h.0 (pos ts -ℤ offset) (back ts offset) k (rw e at lt))
end_by-least (Months n) (First t0) ts x h (k, e) lt =
    elim (cases_lt ts t0) [
      | inl before ↦ rw (lt-ltb ts t0 before, e) (omega (arith, moved-mono t0 0 (k * n) (omega arith), moved-zero t0))
      | inr ge ↦ rw (le-ltb ts t0 ge, e) (moved-least ts t0 n h.0 ge k (rw e at lt))
    ]

stride_period : (n : ℕ) (u : TimeUnit) → 1 ≤ n → n ≤ MAX_STRIDE → IsPeriod (as_period n u)
stride_period n Micro low high = (omega arith, omega arith)
stride_period n Milli low high = (omega arith, omega arith)
stride_period n Second low high = (omega arith, omega arith)
stride_period n Minute low high = (omega arith, omega arith)
stride_period n Hour low high = (omega arith, omega arith)
stride_period n Day low high = (omega arith, omega arith)
stride_period n Month low high = (omega arith, omega arith)
stride_period n Year low high = (omega arith, omega arith)

-- strides are periods
pub period_is : (stride : Stride) → IsStride stride → IsPeriod (period_of stride)
period_is stride h = stride_period stride.n stride.unit h.0 h.1
