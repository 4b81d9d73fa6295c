-- The dates of day numbers, day after day, are those that jiff counts.
use Rattle.std.proofs.Common.{ℕ, zero, suc, ◌+◌, ◌<◌, ◌≤◌, ◌≡◌, inl, inr, refl, sym, ap, ◌∙◌, arith, pos}
use Rattle.std.proofs.lemmas.Bool.{cases_lt, lt-ltb, le-ltb}
use Rattle.jiff_core.specs.Calendar.{days_in_month, day_count}
use Rattle.jiff_core.specs.declared.civil.date.Date.{Date}
use Rattle.jiff_core.specs.Date.{epoch_day}
use Rattle.jiff_core.proofs.SignedLemmas.{signed_arith}
use Rattle.jiff_core.proofs.DateLemmas.{epoch_day_injective}
use Rattle.jiff_core.proofs.CalendarLemmas.{day_count-epoch, day_count-day, day_count-next_month, day_count-next_year, day_count-last_of_year, day_count-later_year, day_count-end, day_count-day_of_year, days_in_month_bounds, days_from_civil-day_count}
use Rattle.qd_time.specs.Calendar.{CalendarDate, month_days, month_after, day_after, date_of_day, IsDateOfDay, IsCalendarDate}
use Rattle.qd_time.specs.declared.calendar.TheConstants.{LAST_DAY}

-- the days before a date, as jiff counts them from the year -10000
abbrev pub count : CalendarDate → ℕ
count d = day_count (pos d.year) d.month d.day

count-next_day : (y m d : ℕ) → 1 ≤ d → day_count (pos y) m (d + 1) ≡ day_count (pos y) m d + 1
count-next_day y m d h = omega (arith, day_count-day (pos y) m d (d + 1) h (omega arith))

count-next_month : (y m d : ℕ) → 1 ≤ m → d ≡ days_in_month (pos y) m → day_count (pos y) (m + 1) 1 ≡ day_count (pos y) m d + 1
count-next_month y m d low last =
    let long = days_in_month_bounds (pos y) m in
    omega (arith, day_count-next_month (pos y) m low, day_count-day (pos y) m d 1 (omega arith) (omega arith))

pub count-next_year : (y : ℕ) → day_count (pos (y + 1)) 1 1 ≡ day_count (pos y) 12 31 + 1
count-next_year y =
    omega (arith, day_count-next_year (pos y) (pos (y + 1)) (omega (arith, signed_arith)) refl, day_count-last_of_year (pos y))

pub first_is : (y m : ℕ) → 1970 ≤ y → 1 ≤ m → m ≤ 12 → IsCalendarDate (record { year = y; month = m; day = 1 })
first_is y m year low high =
    let long = days_in_month_bounds (pos y) m in
    record { year_low = year; month_low = low; month_high = high; day_low = omega arith; day_high = omega arith }

-- what `day_after` owes: a date of the calendar, one day on
abbrev pub Follows : CalendarDate → CalendarDate → Type 0
Follows d next = IsCalendarDate next × (count next ≡ count d + 1)

follows_day : (d : CalendarDate) → IsCalendarDate d → d.day < month_days d → Follows d (record { year = d.year; month = d.month; day = d.day + 1 })
follows_day d h lt = (
  record { year_low = h.year_low; month_low = h.month_low; month_high = h.month_high; day_low = omega arith; day_high = omega arith },
  count-next_day d.year d.month d.day h.day_low,
)

follows_month : (d : CalendarDate) → IsCalendarDate d → d.day ≡ month_days d → d.month < 12 → Follows d (record { year = d.year; month = d.month + 1; day = 1 })
follows_month d h last lt = (
  first_is d.year (d.month + 1) h.year_low (omega arith) (omega arith),
  count-next_month d.year d.month d.day h.month_low last,
)

follows_year : (d : CalendarDate) → IsCalendarDate d → d.day ≡ month_days d → d.month ≡ 12 → Follows d (record { year = d.year + 1; month = 1; day = 1 })
follows_year d h last e =
    let long : d.day ≡ 31 = last ∙ ap (days_in_month (pos d.year)) e in (
      first_is (d.year + 1) 1 (omega arith) (omega arith) (omega arith),
      count-next_year d.year ∙ ap (λ n. n + 1) (sym (ap (λ m. day_count (pos d.year) m d.day) e ∙ ap (day_count (pos d.year) 12) long)),
    )

pub month_after-is : (d : CalendarDate) → IsCalendarDate d → d.day ≡ month_days d → Follows d (month_after d)
month_after-is d h last =
    elim (cases_lt d.month 12) [
      | inl lt ↦ rw (lt-ltb d.month 12 lt) (follows_month d h last lt)
      | inr ge ↦ let high = h.month_high in rw (le-ltb d.month 12 ge) (follows_year d h last (omega arith))
    ]

pub day_after-is : (d : CalendarDate) → IsCalendarDate d → Follows d (day_after d)
day_after-is d h =
    elim (cases_lt d.day (month_days d)) [
      | inl lt ↦ rw (lt-ltb d.day (month_days d) lt) (follows_day d h lt)
      | inr ge ↦ let high = h.day_high in rw (le-ltb d.day (month_days d) ge) (month_after-is d h (omega arith))
    ]

-- each day number has a date of the calendar, which jiff counts alike
pub date_of_day-is : (n : ℕ) → IsCalendarDate (date_of_day n) × (count (date_of_day n) ≡ 4_371_953 + n)
unfolding date_of_day
date_of_day-is zero = (first_is 1970 1 (omega arith) (omega arith) (omega arith), day_count-epoch)
date_of_day-is (suc n) =
    let before = date_of_day-is n in
    let here = day_after-is (date_of_day n) before.0 in
    (here.0, omega (arith, here.1, before.1))

-- the dates of day numbers up to that of 31 December 9999 lie before the year 10000
pub date_of_day-year_high : (n : ℕ) → n ≤ LAST_DAY → (date_of_day n).year ≤ 9999
date_of_day-year_high n h =
    let d = date_of_day n in
    let is = date_of_day-is n in
    elim (cases_lt 9999 d.year) [
      | inl lt ↦ absurd (omega (arith, is.1, is.0.day_low, day_count-end, day_count-next_year (pos 9999) (pos 10000) (omega (arith, signed_arith)) refl, day_count-later_year (pos 9999) (pos d.year) (omega (arith, signed_arith)) (omega (arith, signed_arith)), day_count-day_of_year (pos d.year) d.month d.day is.0.day_low))
      | inr ge ↦ ge
    ]

-- the date of a day number as a date of jiff's
pub jiff_date : (n : ℕ) → n ≤ LAST_DAY → Date
jiff_date n h =
    let is = (date_of_day-is n).0 in
    let high = date_of_day-year_high n h in
    record {
      year = pos (date_of_day n).year;
      month = (date_of_day n).month;
      day = (date_of_day n).day;
      year_in = (omega (arith, signed_arith), omega (arith, signed_arith));
      month_in = (is.month_low, is.month_high);
      day_in = (is.day_low, is.day_high);
    }

pub jiff_date-epoch_day : (n : ℕ) (h : n ≤ LAST_DAY) → epoch_day (jiff_date n h) ≡ pos n
unfolding jiff_date
jiff_date-epoch_day n h =
    omega (arith, signed_arith, days_from_civil-day_count (pos (date_of_day n).year) (date_of_day n).month (date_of_day n).day, (date_of_day-is n).1)

-- a date of jiff's with that day number is that date
pub IsDateOfDay-epoch_day : (d : Date) (n : ℕ) → n ≤ LAST_DAY → epoch_day d ≡ pos n → IsDateOfDay d n
unfolding jiff_date
IsDateOfDay-epoch_day d n h e =
    let same = epoch_day_injective d (jiff_date n h) (e ∙ sym (jiff_date-epoch_day n h)) in
    record { year = same.0; month = same.1; day_of_month = same.2 }
