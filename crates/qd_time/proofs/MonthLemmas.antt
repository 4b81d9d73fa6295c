-- Months counted from January 1970, and moments moved by months.
use Rattle.std.proofs.Common.{ℕ, zero, suc, ◌+◌, ◌/◌, ◌%◌, ◌<◌, ◌≤◌, ◌≡◌, inl, inr, min, refl, sym, ap, ◌∙◌, arith, pos, cond, true, false}
use Rattle.std.specs.Prelude.{nat_le}
use Rattle.std.proofs.lemmas.Bool.{cases_lt, cases_order}
use Rattle.std.proofs.lemmas.Bool.Decides.{nat_tests}
use Rattle.jiff_core.specs.Calendar.{days_in_month}
use Rattle.jiff_core.proofs.CalendarLemmas.{days_in_month_bounds, day_count-end}
use Rattle.qd_time.specs.Buckets.{month_number, day_of_month, moved, months_to, last_index}
use Rattle.qd_time.specs.Calendar.{CalendarDate, IsCalendarDate, day_micros, date_of_day, day_number}
use Rattle.qd_time.specs.declared.calendar.TheConstants.{LAST_DAY, LAST_MONTH}
use Rattle.qd_time.proofs.DateLemmas.{count, date_of_day-is, first_is, count-next_year}
use Rattle.qd_time.proofs.DateOrderLemmas.{count-lt_year, count-lt_month, count-month, same_parts, count-day_number, date_of_day-day_number, day_number-date_of_day}

-- a month's number gives its year and its place in the year
pub month_number-year : (d : CalendarDate) → IsCalendarDate d → (1970 + month_number d / 12 ≡ d.year) × (month_number d % 12 + 1 ≡ d.month)
month_number-year d is =
    let year_low = is.year_low in
    let month_low = is.month_low in
    let month_high = is.month_high in
    (omega arith, omega arith)

pub day_of_month-is : (m day : ℕ) → 1 ≤ day → IsCalendarDate (day_of_month m day)
day_of_month-is m day h =
    let long = days_in_month_bounds (pos (1970 + m / 12)) (m % 12 + 1) in
    record { year_low = omega arith; month_low = omega arith; month_high = omega arith; day_low = omega arith; day_high = omega arith }

pub month_number-day_of_month : (m day : ℕ) → month_number (day_of_month m day) ≡ m
month_number-day_of_month m day = omega arith

-- a date is its month's day
pub day_of_month-own : (d : CalendarDate) → IsCalendarDate d → day_of_month (month_number d) d.day ≡ d
day_of_month-own d is =
    let year = (month_number-year d is).0 in
    let month = (month_number-year d is).1 in
    let high : d.day ≤ days_in_month (pos d.year) d.month = is.day_high in
    let held : min d.day (days_in_month (pos d.year) d.month) ≡ d.day = omega arith in
    let day : min d.day (days_in_month (pos (1970 + month_number d / 12)) (month_number d % 12 + 1)) ≡ d.day = ap (λ y. min d.day (days_in_month (pos y) (month_number d % 12 + 1))) year ∙ ap (λ m. min d.day (days_in_month (pos d.year) m)) month ∙ held in
    same_parts (1970 + month_number d / 12) (month_number d % 12 + 1) _ d.year d.month d.day year month day

-- dates of an earlier month have smaller day numbers
pub count-lt_months : (a b : CalendarDate) → IsCalendarDate a → IsCalendarDate b → month_number a < month_number b → count a < count b
count-lt_months a b ha hb lt =
    elim (cases_order a.year b.year) [
      | inr (inl year) ↦ count-lt_year a b ha hb year
      | inr (inr gt) ↦ absurd (omega (arith, ha.year_low, ha.month_low, ha.month_high, hb.year_low, hb.month_low, hb.month_high))
      | inl same ↦ count-lt_month a b ha hb same (omega (arith, ha.year_low, ha.month_low, ha.month_high, hb.year_low, hb.month_low, hb.month_high))
    ]

-- so months go with days
pub month_number-mono : (a b : ℕ) → a ≤ b → month_number (date_of_day a) ≤ month_number (date_of_day b)
month_number-mono a b h =
    let da = date_of_day-is a in
    let db = date_of_day-is b in
    elim (cases_lt (month_number (date_of_day b)) (month_number (date_of_day a))) [
      | inl lt ↦ absurd (omega (arith, count-lt_months (date_of_day b) (date_of_day a) db.0 da.0 lt, da.1, db.1))
      | inr ge ↦ ge
    ]

pub months_to-mono : (a b : ℕ) → a ≤ b → months_to a ≤ months_to b
months_to-mono a b h = month_number-mono (a / day_micros) (b / day_micros) (omega arith)

-- a month's first day
pub day_of_month-first : (m : ℕ) → day_of_month m 1 ≡ record { year = 1970 + m / 12; month = m % 12 + 1; day = 1 }
day_of_month-first m =
    let long = days_in_month_bounds (pos (1970 + m / 12)) (m % 12 + 1) in
    let first : min 1 (days_in_month (pos (1970 + m / 12)) (m % 12 + 1)) ≡ 1 = omega arith in
    ap (λ d. let date : CalendarDate = record { year = 1970 + m / 12; month = m % 12 + 1; day = d } in date) first

-- 31 January 10000
abbrev far : CalendarDate
far = record { year = 10000; month = 1; day = 31 }

far_is : IsCalendarDate far
far_is =
    record { year_low = omega arith; month_low = omega arith; month_high = omega arith; day_low = omega arith; day_high = omega arith }

far-number : day_number far ≡ 2_932_927
far-number =
    let first : CalendarDate = record { year = 10000; month = 1; day = 1 } in
    let is = first_is 10000 1 (omega arith) (omega arith) (omega arith) in
    omega (arith, count-day_number far far_is, count-month far first far_is is refl refl, day_count-end)

-- months past January 10000 begin long after the last timestamp
pub month_number-far : (m : ℕ) → LAST_MONTH + 1 < m → 2_932_927 < day_number (day_of_month m 1)
month_number-far m h =
    let is = day_of_month-is m 1 (omega arith) in
    omega (arith, far-number, count-day_number far far_is, count-day_number (day_of_month m 1) is, count-lt_months far (day_of_month m 1) far_is is (omega arith))

pub month_number-high : (n : ℕ) → n ≤ LAST_DAY + 1 → month_number (date_of_day n) ≤ LAST_MONTH + 1
month_number-high n h =
    let is = date_of_day-is n in
    elim (cases_lt (LAST_MONTH + 1) (month_number (date_of_day n))) [
      | inl lt ↦ absurd (omega (arith, is.1, far-number, count-day_number far far_is, count-lt_months far (date_of_day n) far_is is.0 (omega arith)))
      | inr ge ↦ ge
    ]

-- 1 January 10000 is the day after the last
pub day_of_month-end : day_number (day_of_month (LAST_MONTH + 1) 1) ≡ LAST_DAY + 1
day_of_month-end =
    let is = first_is 10000 1 (omega arith) (omega arith) (omega arith) in
    ap day_number (day_of_month-first (LAST_MONTH + 1)) ∙ omega (arith, count-day_number (record { year = 10000; month = 1; day = 1 }) is, day_count-end)

pub month_number-end : (n : ℕ) → n ≡ LAST_DAY + 1 → month_number (date_of_day n) ≡ LAST_MONTH + 1
month_number-end n e =
    ap (λ k. month_number (date_of_day k)) (e ∙ sym day_of_month-end)
    ∙ ap month_number (date_of_day-day_number (day_of_month (LAST_MONTH + 1) 1) (day_of_month-is (LAST_MONTH + 1) 1 (omega arith)))
    ∙ month_number-day_of_month (LAST_MONTH + 1) 1

-- a month before the year 10000
pub day_of_month-year_high : (m day : ℕ) → m ≤ LAST_MONTH → (day_of_month m day).year ≤ 9999
day_of_month-year_high m day h = omega arith

pub day_of_month-number_far : (m day : ℕ) → 1 ≤ day → LAST_MONTH < m → LAST_DAY < day_number (day_of_month m day)
day_of_month-number_far m day low h =
    let last : CalendarDate = record { year = 9999; month = 12; day = 31 } in
    let last_is : IsCalendarDate last = record { year_low = omega arith; month_low = omega arith; month_high = omega arith; day_low = omega arith; day_high = omega arith } in
    let is = day_of_month-is m day low in
    omega (arith, day_count-end, count-next_year 9999, count-day_number (day_of_month m day) is, count-lt_months last (day_of_month m day) last_is is (omega arith))

-- a moved moment lies in the month that many months on
pub months_to-moved : (t0 months : ℕ) → months_to (moved t0 months) ≡ months_to t0 + months
months_to-moved t0 months =
    let date = date_of_day (t0 / day_micros) in
    let there = day_of_month (month_number date + months) date.day in
    let is = day_of_month-is (month_number date + months) date.day (date_of_day-is (t0 / day_micros)).0.day_low in
    let day : moved t0 months / day_micros ≡ day_number there = omega arith in
    ap (λ n. month_number (date_of_day n)) day ∙ ap month_number (date_of_day-day_number there is) ∙ month_number-day_of_month (month_number date + months) date.day

-- moved by no months it stays
pub moved-zero : (t0 : ℕ) → moved t0 0 ≡ t0
moved-zero t0 =
    let n = t0 / day_micros in
    let date = date_of_day n in
    let same : month_number date + 0 ≡ month_number date = omega arith in
    let own = ap (λ k. day_number (day_of_month k date.day)) same ∙ ap day_number (day_of_month-own date (date_of_day-is n).0) ∙ day_number-date_of_day n in
    omega arith

-- what lies in an earlier month is earlier
pub lt-months_to : (a b : ℕ) → months_to a < months_to b → a < b
lt-months_to a b h =
    elim (cases_lt a b) [ inl lt ↦ lt | inr ge ↦ absurd (omega (arith, months_to-mono b a ge)) ]

-- the last index is the one after which all are later
pub last_index-is : (f : ℕ → ℕ) (ts k bound : ℕ) → k ≤ bound → f k ≤ ts → ((j : ℕ) → k < j → ts < f j) → last_index f ts bound ≡ k
unfolding last_index
last_index-is f ts k zero h low high = omega arith
last_index-is f ts k (suc n) h low high =
    elim (cases_order k (suc n)) [
      | inl same ↦
          let here : f (suc n) ≤ ts = rw (← same) low in
          let test : nat_le (f (suc n)) ts ≡ true = grind (arith, nat_tests) in
          ap (λ b. cond b (suc n) (last_index f ts n)) test ∙ sym same
      | inr (inl lt) ↦
          let later = high (suc n) lt in
          let test : nat_le (f (suc n)) ts ≡ false = grind (arith, nat_tests) in
          ap (λ b. cond b (suc n) (last_index f ts n)) test ∙ last_index-is f ts k n (omega arith) low high
      | inr (inr gt) ↦ absurd (omega arith)
    ]
