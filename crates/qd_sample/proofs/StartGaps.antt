-- How far apart the starts of buckets are, and so that the starts between two moments are found in so many steps.
use Rattle.std.proofs.Common.{◌≡◌, ℕ, zero, suc, ◌+◌, ◌-◌, ◌*◌, ◌/◌, ◌<◌, ◌≤◌, cond, ltb, refl, sym, ap, subst, arith, mul-le-mul, inl, inr, ℤ, pos, negsuc, ◌+ℤ◌, ◌-ℤ◌, ◌*ℤ◌}
use Rattle.std.proofs.lemmas.Bool.{cases_lt, le-ltb}
use Rattle.std.specs.Int.{int_div_euclid}
use Rattle.jiff_core.proofs.SignedLemmas.{signed_arith}
use Rattle.qd_base.specs.declared.unit.TimeUnit.{TimeUnit}
use Rattle.qd_base.specs.declared.unit.TimeUnit.TheVariants.{Micro, Milli, Second, Minute, Hour, Day, Month, Year}
use Rattle.qd_meaning.specs.Sampled.{least_micros, most_starts}
use Rattle.qd_time.specs.Buckets.{as_period, bucket_end, bucket_start, clip, day_of_month, end_by, last_index, month_end, month_midnight, month_number, month_start, months_to, moved, moved_end, offset_micros, period_of, start_by, IsPeriod, IsReached, IsStart, IsStride, StartsBy}
use Rattle.qd_time.specs.Calendar.{date_of_day, day_micros, day_number, hour_micros, minute_micros, second_micros}
use Rattle.qd_time.specs.declared.buckets.Align.{Align}
use Rattle.qd_time.specs.declared.buckets.Align.TheVariants.{Calendar, First}
use Rattle.qd_time.specs.declared.buckets.Stride.{Stride}
use Rattle.qd_time.proofs.DateLemmas.{date_of_day-is}
use Rattle.qd_time.proofs.DateOrderLemmas.{count-day_number}
use Rattle.qd_time.proofs.MonthLemmas.{day_of_month-is}
use Rattle.qd_time.proofs.StartLemmas.{end_by-least, end_by-starts, lt-end_by, period_is, start_by-greatest, start_by-le, start_by-starts}
use Rattle.qd_sample.proofs.MonthGaps.{months_apart, years_apart}
use Rattle.qd_sample.proofs.Walks.{nth, nth_suc}

-- so many months are at least so many days
abbrev IsLong : ℕ → ℕ → Type 0
IsLong n days = (m d : ℕ) → 1 ≤ d → day_number (day_of_month m d) + days ≤ day_number (day_of_month (m + n) d)

months_long : (n : ℕ) → 1 ≤ n → IsLong n (28 * n)
months_long n some = λ m d low. omega (arith, months_apart m n d low some, count-day_number (day_of_month m d) (day_of_month-is m d low), count-day_number (day_of_month (m + n) d) (day_of_month-is (m + n) d low))

years_long : (n : ℕ) → 1 ≤ n → IsLong (n * 12) (365 * n)
years_long n some = λ m d low.
    let there : m + n * 12 ≡ m + 12 * n = omega arith in
    omega (arith, years_apart m n d low some, count-day_number (day_of_month m d) (day_of_month-is m d low), count-day_number (day_of_month (m + 12 * n) d) (day_of_month-is (m + 12 * n) d low), ap (λ k. day_number (day_of_month k d)) there)

-- ---- a start and the next one

-- what is added to a start that isn't held to 0
clip_add : (z : ℤ) (s more : ℕ) → clip z ≡ s → 0 < s → s + more ≤ clip (z +ℤ pos more)
clip_add (pos n) s more is some = omega (arith, signed_arith, is)
clip_add (negsuc n) s more is some = absurd (omega (arith, is))

clip_later : (from to : ℕ) (offset : ℤ) (s gap : ℕ) → clip (pos from +ℤ offset) ≡ s → 0 < s → from + gap ≤ to → s + gap ≤ clip (pos to +ℤ offset)
clip_later from to offset s gap is some le = by (pos from +ℤ offset) refl is
  where
    by : (z : ℤ) → pos from +ℤ offset ≡ z → clip z ≡ s → s + gap ≤ clip (pos to +ℤ offset)
    by (pos n) e same =
        let there : pos to +ℤ offset ≡ pos (n + (to - from)) = omega (arith, signed_arith, e, le) in
        omega (arith, ap clip there, same)
    by (negsuc n) e same = absurd (omega (arith, same))

month_gap : (n s days gap : ℕ) (offset z : ℤ) → month_start n offset z ≡ s → 0 < s → IsLong n days → gap ≤ days * day_micros → s + gap ≤ month_end n offset z
month_gap n s days gap offset (pos a) is some long enough =
    let k = month_number (date_of_day (a / day_micros)) / n in
    let next : (k + 1) * n ≡ k * n + n = omega arith in
    let apart = long (k * n) 1 (omega arith) in
    let there = ap month_midnight next in
    clip_later (month_midnight (k * n)) (month_midnight ((k + 1) * n)) offset s gap is some (omega (arith, apart, there, enough))
month_gap n s days gap offset (negsuc b) is some long enough = absurd (omega (arith, is))

moved_gap : (t0 x n days : ℕ) → IsLong n days → moved t0 x + days * day_micros ≤ moved t0 (x + n)
moved_gap t0 x n days long =
    let date = date_of_day (t0 / day_micros) in
    let apart = long (month_number date + x) date.day (date_of_day-is (t0 / day_micros)).0.day_low in
    let there : month_number date + (x + n) ≡ month_number date + x + n = omega arith in
    omega (arith, apart, ap (λ m. day_number (day_of_month m date.day)) there)

-- a start is the start of its own bucket
own_start : (n : ℕ) (u : TimeUnit) (a : Align) (s : ℕ) → IsPeriod (as_period n u) → IsReached a s → StartsBy (as_period n u) a s → start_by (as_period n u) a s ≡ s
own_start n u a s h r is = omega (arith, start_by-le (as_period n u) a s h r, start_by-greatest (as_period n u) a s s h r is (omega arith))

micros_calendar : (period : ℕ) (offset : ℤ) (s : ℕ) → clip (offset +ℤ int_div_euclid (pos s -ℤ offset) (pos period) *ℤ pos period) ≡ s → 0 < s
    → s + period ≤ clip (offset +ℤ int_div_euclid (pos s -ℤ offset) (pos period) *ℤ pos period +ℤ pos period)
micros_calendar period offset s own some = clip_add (offset +ℤ int_div_euclid (pos s -ℤ offset) (pos period) *ℤ pos period) s period own some

micros_first : (period t0 s : ℕ) → t0 ≤ s → t0 + (s - t0) / period * period ≡ s → s + period ≤ cond (ltb s t0) t0 (t0 + ((s - t0) / period + 1) * period)
micros_first period t0 s r own =
    let more : t0 + ((s - t0) / period + 1) * period ≡ t0 + (s - t0) / period * period + period = omega arith in
    rw (le-ltb s t0 r) (omega (arith, own, more))

months_first : (n t0 s days gap : ℕ) → t0 ≤ s → moved t0 (last_index (λ k. moved t0 (k * n)) s (months_to s) * n) ≡ s → IsLong n days → gap ≤ days * day_micros → s + gap ≤ moved_end n t0 s
months_first n t0 s days gap r own long enough =
    let q = last_index (λ k. moved t0 (k * n)) s (months_to s) in
    let next : (q + 1) * n ≡ q * n + n = omega arith in
    rw (le-ltb s t0 r) (omega (arith, own, moved_gap t0 (q * n) n days long, ap (moved t0) next, enough))

start_gap : (n : ℕ) (u : TimeUnit) (a : Align) (s : ℕ) → 1 ≤ n → IsPeriod (as_period n u) → IsReached a s → StartsBy (as_period n u) a s → 0 < s → s + n * least_micros u ≤ end_by (as_period n u) a s
start_gap n Micro (Calendar minutes) s low h r is some = omega (arith, micros_calendar n (offset_micros minutes) s (own_start n Micro (Calendar minutes) s h r is) some)
start_gap n Micro (First t0) s low h r is some = omega (arith, micros_first n t0 s r (own_start n Micro (First t0) s h r is))
start_gap n Milli (Calendar minutes) s low h r is some = omega (arith, micros_calendar (n * 1000) (offset_micros minutes) s (own_start n Milli (Calendar minutes) s h r is) some)
start_gap n Milli (First t0) s low h r is some = omega (arith, micros_first (n * 1000) t0 s r (own_start n Milli (First t0) s h r is))
start_gap n Second (Calendar minutes) s low h r is some = omega (arith, micros_calendar (n * second_micros) (offset_micros minutes) s (own_start n Second (Calendar minutes) s h r is) some)
start_gap n Second (First t0) s low h r is some = omega (arith, micros_first (n * second_micros) t0 s r (own_start n Second (First t0) s h r is))
start_gap n Minute (Calendar minutes) s low h r is some = omega (arith, micros_calendar (n * minute_micros) (offset_micros minutes) s (own_start n Minute (Calendar minutes) s h r is) some)
start_gap n Minute (First t0) s low h r is some = omega (arith, micros_first (n * minute_micros) t0 s r (own_start n Minute (First t0) s h r is))
start_gap n Hour (Calendar minutes) s low h r is some = omega (arith, micros_calendar (n * hour_micros) (offset_micros minutes) s (own_start n Hour (Calendar minutes) s h r is) some)
start_gap n Hour (First t0) s low h r is some = omega (arith, micros_first (n * hour_micros) t0 s r (own_start n Hour (First t0) s h r is))
start_gap n Day (Calendar minutes) s low h r is some = omega (arith, micros_calendar (n * day_micros) (offset_micros minutes) s (own_start n Day (Calendar minutes) s h r is) some)
start_gap n Day (First t0) s low h r is some = omega (arith, micros_first (n * day_micros) t0 s r (own_start n Day (First t0) s h r is))
start_gap n Month (Calendar minutes) s low h r is some =
    let offset = offset_micros minutes in
    month_gap n s (28 * n) (n * least_micros Month) offset (pos s -ℤ offset) (own_start n Month (Calendar minutes) s h r is) some (months_long n low) (omega arith)
start_gap n Month (First t0) s low h r is some = months_first n t0 s (28 * n) (n * least_micros Month) r (own_start n Month (First t0) s h r is) (months_long n low) (omega arith)
start_gap n Year (Calendar minutes) s low h r is some =
    let offset = offset_micros minutes in
    month_gap (n * 12) s (365 * n) (n * least_micros Year) offset (pos s -ℤ offset) (own_start n Year (Calendar minutes) s h r is) some (years_long n low) (omega arith)
start_gap n Year (First t0) s low h r is some = months_first (n * 12) t0 s (365 * n) (n * least_micros Year) r (own_start n Year (First t0) s h r is) (years_long n low) (omega arith)

unit_some : (u : TimeUnit) → 1 ≤ least_micros u
unit_some Micro = omega arith
unit_some Milli = omega arith
unit_some Second = omega arith
unit_some Minute = omega arith
unit_some Hour = omega arith
unit_some Day = omega arith
unit_some Month = omega arith
unit_some Year = omega arith

-- ---- the starts from a moment on

pub reached_later : (a : Align) (x y : ℕ) → x ≤ y → IsReached a x → IsReached a y
reached_later (Calendar minutes) x y le r = tt
reached_later (First t0) x y le r = omega (arith, le, r)

module _ (stride : Stride) (align : Align) (first : ℕ) (strides : IsStride stride) (reached : IsReached align first) where
  period : IsPeriod (period_of stride)
  period = period_is stride strides

  pub grows : (x : ℕ) → x < bucket_end stride align x
  grows x = lt-end_by (period_of stride) align x period

  -- the bucket of a moment between a start and the next one
  pub bucket_between : (s t : ℕ) → IsReached align t → IsStart stride align s → s ≤ t → t < bucket_end stride align s → bucket_start stride align t ≡ s
  bucket_between s t r is low high =
      let at_least = start_by-greatest (period_of stride) align t s period r is low in
      let le = start_by-le (period_of stride) align t period r in
      elim (cases_lt s (bucket_start stride align t)) [
        | inl less ↦ absurd (omega (arith, end_by-least (period_of stride) align s (bucket_start stride align t) period (start_by-starts (period_of stride) align t period) less))
        | inr more ↦ omega arith
      ]

  pub start_is : (k : ℕ) → IsStart stride align (nth (bucket_end stride align) k (bucket_start stride align first))
  start_is zero = start_by-starts (period_of stride) align first period
  start_is (suc k) =
      subst (IsStart stride align) (sym (nth_suc (bucket_end stride align) k (bucket_start stride align first))) (end_by-starts (period_of stride) align (nth (bucket_end stride align) k (bucket_start stride align first)) period)

  -- the second start is past the moment
  second : first < bucket_end stride align (bucket_start stride align first)
  second =
      let s = bucket_start stride align first in
      elim (cases_lt first (bucket_end stride align s)) [
        | inl less ↦ less
        | inr more ↦ absurd (omega (arith, grows s, start_by-greatest (period_of stride) align first (bucket_end stride align s) period reached (end_by-starts (period_of stride) align s period) more))
      ]

  abbrev gap : ℕ
  gap = stride.n * least_micros stride.unit

  steps : (j : ℕ) → first + 1 + j * gap ≤ nth (bucket_end stride align) (suc j) (bucket_start stride align first)
  steps zero = omega (arith, second)
  steps (suc j) =
      let s = nth (bucket_end stride align) (suc j) (bucket_start stride align first) in
      let before = steps j in
      let past : first < s = omega arith in
      let more : (suc j) * gap ≡ j * gap + gap = omega arith in
      omega (
        arith,
        before,
        more,
        nth_suc (bucket_end stride align) (suc j) (bucket_start stride align first),
        start_gap stride.n stride.unit align s strides.0 period (reached_later align first s (omega arith) reached) (start_is (suc j)) (omega arith),
      )

  pub far : (last : ℕ) → first ≤ last → last < nth (bucket_end stride align) (most_starts stride first last) (bucket_start stride align first)
  far last order =
      let q = (last - first) / gap in
      let some : 1 * 1 ≤ gap = mul-le-mul strides.0 (unit_some stride.unit) in
      let past : last - first < (q + 1) * gap = omega arith in
      let there : q + 2 ≡ suc (q + 1) = omega arith in
      omega (arith, steps (q + 1), past, ap (λ n. nth (bucket_end stride align) n (bucket_start stride align first)) there)
