-- Dates lie in the order of their day numbers, and a day number has one date.
use Rattle.std.proofs.Common.{ℕ, ◌+◌, ◌-◌, ◌<◌, ◌≤◌, ◌≡◌, inl, inr, refl, sym, ap, ◌∙◌, arith, pos}
use Rattle.std.proofs.lemmas.Bool.{cases_lt, cases_order}
use Rattle.jiff_core.specs.Calendar.{days_in_month, days_in_year, day_of_year, day_count}
use Rattle.jiff_core.specs.declared.civil.date.Date.{Date}
use Rattle.jiff_core.specs.Date.{ordinal}
use Rattle.jiff_core.proofs.SignedLemmas.{signed_arith}
use Rattle.jiff_core.proofs.CalendarLemmas.{day_count-epoch, day_count-day, day_count-later_year, day_count-next_year, day_count-end, day_count-day_of_year, day_of_year_before, days_of_months_all}
use Rattle.qd_time.specs.Calendar.{CalendarDate, IsCalendarDate, month_days, month_first, month_after, year_first, year_after, date_of_day, day_number, IsDateOfDay}
use Rattle.qd_time.specs.declared.calendar.TheConstants.{LAST_DAY}
use Rattle.qd_time.proofs.DateLemmas.{count, date_of_day-is, month_after-is, first_is, date_of_day-year_high}

-- a date's place in its year is at most the year's days
pub day_of_year_high : (d : CalendarDate) → IsCalendarDate d → day_of_year (pos d.year) d.month d.day ≤ days_in_year (pos d.year)
day_of_year_high d h =
    omega (arith, day_of_year_before (pos d.year) d.month d.day 12 h.month_low h.day_high h.month_high, days_of_months_all (pos d.year))

-- an earlier year has smaller day numbers
pub count-lt_year : (a b : CalendarDate) → IsCalendarDate a → IsCalendarDate b → a.year < b.year → count a < count b
count-lt_year a b ha hb lt =
    omega (arith, day_count-day_of_year (pos a.year) a.month a.day ha.day_low, day_count-day_of_year (pos b.year) b.month b.day hb.day_low, day_of_year_high a ha, hb.day_low, day_count-later_year (pos a.year) (pos b.year) (omega (arith, signed_arith)) (omega (arith, signed_arith)))

lt_month : (y m d m₂ d₂ : ℕ) → 1 ≤ m → 1 ≤ d → d ≤ days_in_month (pos y) m → 1 ≤ d₂ → m < m₂ → day_count (pos y) m d < day_count (pos y) m₂ d₂
lt_month y m d m₂ d₂ low first last first₂ lt =
    omega (arith, day_count-day_of_year (pos y) m d first, day_count-day_of_year (pos y) m₂ d₂ first₂, day_of_year_before (pos y) m d (m₂ - 1) low last (omega arith))

-- an earlier month of a year has smaller day numbers
pub count-lt_month : (a b : CalendarDate) → IsCalendarDate a → IsCalendarDate b → a.year ≡ b.year → a.month < b.month → count a < count b
count-lt_month a b ha hb e lt =
    rw (← e) (lt_month a.year a.month a.day b.month b.day ha.month_low ha.day_low ha.day_high hb.day_low lt)

-- within a month the day number goes with the day
pub count-month : (a b : CalendarDate) → IsCalendarDate a → IsCalendarDate b → a.year ≡ b.year → a.month ≡ b.month → count a + b.day ≡ count b + a.day
count-month a b ha hb y m =
    rw (← y, ← m) (day_count-day (pos a.year) a.month a.day b.day ha.day_low hb.day_low)

-- dates with the same parts are one
pub same_parts : (y m d y₂ m₂ d₂ : ℕ) → y ≡ y₂ → m ≡ m₂ → d ≡ d₂ → let a : CalendarDate = record { year = y; month = m; day = d } in let b : CalendarDate = record { year = y₂; month = m₂; day = d₂ } in a ≡ b
same_parts y m d y₂ m₂ d₂ ey em ed = rw (ey, em, ed)

-- and so are dates with one count
pub count-injective : (a b : CalendarDate) → IsCalendarDate a → IsCalendarDate b → count a ≡ count b → a ≡ b
count-injective a b ha hb e =
    elim (cases_order a.year b.year) [
      | inr (inl lt) ↦ absurd (omega (arith, count-lt_year a b ha hb lt))
      | inr (inr gt) ↦ absurd (omega (arith, count-lt_year b a hb ha gt))
      | inl y ↦ elim (cases_order a.month b.month) [
        | inr (inl lt) ↦ absurd (omega (arith, count-lt_month a b ha hb y lt))
        | inr (inr gt) ↦ absurd (omega (arith, count-lt_month b a hb ha (sym y) gt))
        | inl m ↦ same_parts a.year a.month a.day b.year b.month b.day y m (omega (arith, count-month a b ha hb y m))
      ]
    ]

-- the date with that count is the date of its day number
pub date_of_day-unique : (n : ℕ) (d : CalendarDate) → IsCalendarDate d → count d ≡ 4_371_953 + n → date_of_day n ≡ d
date_of_day-unique n d h e =
    let is = date_of_day-is n in
    count-injective (date_of_day n) d is.0 h (is.1 ∙ sym e)

-- a day number is a count less that of 1970-01-01
pub day_number-count : (d : CalendarDate) → day_number d ≡ count d - 4_371_953
day_number-count d = ap (λ n. count d - n) day_count-epoch

pub day_number-date_of_day : (n : ℕ) → day_number (date_of_day n) ≡ n
day_number-date_of_day n = omega (arith, day_number-count (date_of_day n), (date_of_day-is n).1)

count_epoch_low : (d : CalendarDate) → IsCalendarDate d → 4_371_953 ≤ count d
count_epoch_low d h =
    elim (cases_lt 1970 d.year) [
      | inl lt ↦ omega (arith, h.day_low, day_count-epoch, day_count-day_of_year (pos d.year) d.month d.day h.day_low, day_count-later_year (pos 1970) (pos d.year) (omega (arith, signed_arith)) (omega (arith, signed_arith)))
      | inr ge ↦
          let same : d.year ≡ 1970 = omega (arith, h.year_low) in
          let first : day_count (pos d.year) 1 1 ≡ 4_371_953 = ap (λ y. day_count (pos y) 1 1) same ∙ day_count-epoch in
          omega (arith, h.day_low, day_count-day_of_year (pos d.year) d.month d.day h.day_low)
    ]

-- so day numbers count on from the first date
pub count-day_number : (d : CalendarDate) → IsCalendarDate d → count d ≡ 4_371_953 + day_number d
count-day_number d h = omega (arith, day_number-count d, count_epoch_low d h)

-- a date is its month's first and its day
pub month_first-number : (n : ℕ) → day_number (month_first (date_of_day n)) + (date_of_day n).day ≡ n + 1
month_first-number n =
    let d = date_of_day n in
    let is = date_of_day-is n in
    let first = first_is d.year d.month is.0.year_low is.0.month_low is.0.month_high in
    omega (arith, is.1, count-day_number (month_first d) first, count-month d (month_first d) is.0 first refl refl)

-- a date of the calendar is that of its day number
pub date_of_day-day_number : (d : CalendarDate) → IsCalendarDate d → date_of_day (day_number d) ≡ d
date_of_day-day_number d h = date_of_day-unique (day_number d) d h (count-day_number d h)

-- the last day of the date's month
abbrev month_last : CalendarDate → CalendarDate
month_last d = record { year = d.year; month = d.month; day = month_days d }

month_last-is : (n : ℕ) → IsCalendarDate (month_last (date_of_day n))
month_last-is n =
    let is = (date_of_day-is n).0 in
    record { year_low = is.year_low; month_low = is.month_low; month_high = is.month_high; day_low = omega (arith, is.day_low, is.day_high); day_high = omega arith }

pub month_after_is_date : (n : ℕ) → IsCalendarDate (month_after (date_of_day n))
month_after_is_date n = (month_after-is (month_last (date_of_day n)) (month_last-is n) refl).0

-- a month is as long as its days
pub month_after-number : (n : ℕ) → day_number (month_after (date_of_day n)) ≡ day_number (month_first (date_of_day n)) + month_days (date_of_day n)
month_after-number n =
    let d = date_of_day n in
    let is = (date_of_day-is n).0 in
    let last = month_last d in
    let last_is = month_last-is n in
    let first = first_is d.year d.month is.year_low is.month_low is.month_high in
    let next = month_after-is last last_is refl in
    omega (arith, next.1, count-day_number (month_after last) next.0, count-day_number (month_first d) first, count-month last (month_first d) last_is first refl refl)

-- 1 January 10000, the day after the last day that timestamps have
abbrev after_last : CalendarDate
after_last = record { year = 10000; month = 1; day = 1 }

after_last-is : IsCalendarDate after_last
after_last-is = first_is 10000 1 (omega arith) (omega arith) (omega arith)

after_last-count : count after_last ≡ 7_304_850
after_last-count = day_count-end

-- the month after one before the year 10000 begins at 1 January 10000 at the latest
pub month_after_high : (n : ℕ) → n ≤ LAST_DAY → day_number (month_after (date_of_day n)) ≤ LAST_DAY + 1
month_after_high n h =
    let d = date_of_day n in
    let is = (date_of_day-is n).0 in
    let last = month_last d in
    let last_is = month_last-is n in
    let next = month_after-is last last_is refl in
    let high = count-lt_year last after_last last_is after_last-is (omega (arith, date_of_day-year_high n h)) in
    omega (arith, next.1, count-day_number (month_after last) next.0, high, after_last-count)

-- a date is its year's first and its place in the year
pub year_first-number : (n : ℕ) → let d = date_of_day n in day_number (year_first d) + day_of_year (pos d.year) d.month d.day ≡ n + 1
year_first-number n =
    let d = date_of_day n in
    let is = date_of_day-is n in
    let first = first_is d.year 1 is.0.year_low (omega arith) (omega arith) in
    omega (arith, is.1, count-day_number (year_first d) first, day_count-day_of_year (pos d.year) d.month d.day is.0.day_low)

pub year_after_is_date : (n : ℕ) → IsCalendarDate (year_after (date_of_day n))
year_after_is_date n =
    first_is ((date_of_day n).year + 1) 1 (omega (arith, (date_of_day-is n).0.year_low)) (omega arith) (omega arith)

-- a year is as long as its days
pub year_after-number : (n : ℕ) → let d = date_of_day n in day_number (year_after d) ≡ day_number (year_first d) + days_in_year (pos d.year)
year_after-number n =
    let d = date_of_day n in
    let is = date_of_day-is n in
    let first = first_is d.year 1 is.0.year_low (omega arith) (omega arith) in
    let next = first_is (d.year + 1) 1 (omega (arith, is.0.year_low)) (omega arith) (omega arith) in
    omega (arith, count-day_number (year_first d) first, count-day_number (year_after d) next, day_count-next_year (pos d.year) (pos (d.year + 1)) (omega (arith, signed_arith)) refl)

pub year_after_high : (n : ℕ) → n ≤ LAST_DAY → day_number (year_after (date_of_day n)) ≤ LAST_DAY + 1
year_after_high n h =
    let d = date_of_day n in
    let is = (date_of_day-is n).0 in
    let next = first_is (d.year + 1) 1 (omega (arith, is.year_low)) (omega arith) (omega arith) in
    let high = date_of_day-year_high n h in
    elim (cases_lt d.year 9999) [
      | inl lt ↦ omega (arith, count-day_number (year_after d) next, count-lt_year (year_after d) after_last next after_last-is (omega arith), after_last-count)
      | inr ge ↦
          let same : d.year + 1 ≡ 10000 = omega arith in
          omega (arith, count-day_number (year_after d) next, ap (λ y. day_count (pos y) 1 1) same ∙ day_count-end)
    ]

-- the same of a date of jiff's
pub ordinal-is : (d : Date) (n : ℕ) → IsDateOfDay d n → let is = date_of_day n in ordinal d ≡ day_of_year (pos is.year) is.month is.day
ordinal-is d n h = rw (h.year, h.month, h.day_of_month)

pub month_days-is : (d : Date) (n : ℕ) → IsDateOfDay d n → days_in_month d.year d.month ≡ month_days (date_of_day n)
month_days-is d n h = rw (h.year, h.month)

pub year_days-is : (d : Date) (n : ℕ) → IsDateOfDay d n → days_in_year d.year ≡ days_in_year (pos (date_of_day n).year)
year_days-is d n h = rw h.year
