-- What the calendar and the clock show at a timestamp, at a unit's first moment, and back.
use Rattle.std.proofs.Common.{ℕ, ◌+◌, ◌*◌, ◌/◌, ◌%◌, ◌<◌, ◌≤◌, ◌≡◌, refl, sym, ap, ◌∙◌, arith, pos}
use Rattle.jiff_core.specs.declared.civil.date.Date.{Date}
use Rattle.jiff_core.specs.Date.{epoch_day}
use Rattle.jiff_core.proofs.SignedLemmas.{signed_arith}
use Rattle.jiff_core.proofs.CalendarLemmas.{days_from_civil-day_count, days_in_month_bounds, day_count-end}
use Rattle.qd_base.specs.declared.limits.TheConstants.{MAX_TIME}
use Rattle.qd_time.specs.Calendar.{CalendarDate, IsCalendarDate, Civil, civil_of, day_micros, hour_micros, minute_micros, second_micros, midnight, month_first, year_first, date_of_day, day_number}
use Rattle.qd_time.specs.Spelled.{IsCivil}
use Rattle.qd_time.specs.Units.{start_of}
use Rattle.qd_base.specs.declared.unit.TimeUnit.{TimeUnit}
use Rattle.qd_base.specs.declared.unit.TimeUnit.TheVariants.{Micro, Milli, Second, Minute, Hour, Day, Month, Year}
use Rattle.qd_time.specs.declared.calendar.TheConstants.{LAST_DAY}
use Rattle.qd_time.proofs.DateLemmas.{date_of_day-is, date_of_day-year_high, first_is}
use Rattle.qd_time.proofs.DateOrderLemmas.{count-lt_year, count-day_number, date_of_day-day_number, day_number-date_of_day}
use Rattle.qd_time.proofs.UnitLemmas.{midnight_day}
use Rattle.qd_time.proofs.ReadingLemmas.{cut, IsShort}

-- a timestamp from its day and its time of day
abbrev pub moment : ℕ → ℕ → ℕ → ℕ → ℕ → ℕ
moment day hour minute second micro = day * day_micros + hour * hour_micros + minute * minute_micros + second * second_micros + micro

same_civil : (d d₂ : CalendarDate) (h n s u h₂ n₂ s₂ u₂ : ℕ) → d ≡ d₂ → h ≡ h₂ → n ≡ n₂ → s ≡ s₂ → u ≡ u₂ → let a : Civil = record { date = d; hour = h; minute = n; second = s; micro = u } in let b : Civil = record { date = d₂; hour = h₂; minute = n₂; second = s₂; micro = u₂ } in a ≡ b
same_civil d d₂ h n s u h₂ n₂ s₂ u₂ ed eh en es eu = rw (ed, eh, en, es, eu)

-- what a timestamp shows, and a timestamp that shows it
pub civil_of-moment : (day hour minute second micro : ℕ) → hour < 24 → minute < 60 → second < 60 → micro < 1_000_000 → civil_of (moment day hour minute second micro) ≡ record { date = date_of_day day; hour = hour; minute = minute; second = second; micro = micro }
civil_of-moment day hour minute second micro h n s u =
    let ts = moment day hour minute second micro in
    same_civil (date_of_day (ts / day_micros)) (date_of_day day) _ _ _ _ hour minute second micro
    (ap date_of_day (omega arith)) (omega arith) (omega arith) (omega arith) (omega arith)

-- what a date of the calendar with a time of day shows
pub civil_of-date : (date : CalendarDate) (day hour minute second micro : ℕ) → IsCalendarDate date → day ≡ day_number date → hour < 24 → minute < 60 → second < 60 → micro < 1_000_000 → civil_of (moment day hour minute second micro) ≡ record { date = date; hour = hour; minute = minute; second = second; micro = micro }
civil_of-date date day hour minute second micro is e h n s u =
    civil_of-moment day hour minute second micro h n s u
    ∙ ap (λ (d : CalendarDate). let shows : Civil = record { date = d; hour = hour; minute = minute; second = second; micro = micro } in shows) (ap date_of_day e ∙ date_of_day-day_number date is)

-- the date of a moment from 1970 on
pub IsCalendarDate-from_civil : (c : Civil) → IsCivil c → 1970 ≤ c.date.year → IsCalendarDate c.date
IsCalendarDate-from_civil c is low =
    record { year_low = low; month_low = is.month_low; month_high = is.month_high; day_low = is.day_low; day_high = is.day_high }

pub moment-civil_of : (ts : ℕ) → let c = civil_of ts in moment (ts / day_micros) c.hour c.minute c.second c.micro ≡ ts
moment-civil_of ts = omega arith

-- timestamps that show the same are one
pub civil_of-injective : (a b : ℕ) → civil_of a ≡ civil_of b → a ≡ b
civil_of-injective a b e =
    let day : a / day_micros ≡ b / day_micros = sym (day_number-date_of_day (a / day_micros)) ∙ ap (λ c. day_number c.date) e ∙ day_number-date_of_day (b / day_micros) in
    let hour : (civil_of a).hour ≡ (civil_of b).hour = ap (λ c. c.hour) e in
    let minute : (civil_of a).minute ≡ (civil_of b).minute = ap (λ c. c.minute) e in
    let second : (civil_of a).second ≡ (civil_of b).second = ap (λ c. c.second) e in
    let micro : (civil_of a).micro ≡ (civil_of b).micro = ap (λ c. c.micro) e in
    omega arith

pub civil_of-is : (ts : ℕ) → IsCivil (civil_of ts)
civil_of-is ts =
    let is = (date_of_day-is (ts / day_micros)).0 in
    record { month_low = is.month_low; month_high = is.month_high; day_low = is.day_low; day_high = is.day_high; hour_high = omega arith; minute_high = omega arith; second_high = omega arith; micro_high = omega arith }

pub civil_of-short : (ts : ℕ) → ts ≤ MAX_TIME → IsShort (civil_of ts)
civil_of-short ts h =
    let n = ts / day_micros in
    let is = (date_of_day-is n).0 in
    let d = date_of_day n in
    record {
      year_high = omega (arith, date_of_day-year_high n (omega arith));
      month_high = omega (arith, is.month_high);
      day_high = omega (arith, is.day_high, days_in_month_bounds (pos d.year) d.month);
      hour_high = omega arith;
      minute_high = omega arith;
      second_high = omega arith;
      micro_high = omega arith;
    }

cut_civil : (ts other day hour minute second micro : ℕ) → other / day_micros ≡ day → other % day_micros / hour_micros ≡ hour → other % hour_micros / minute_micros ≡ minute → other % minute_micros / second_micros ≡ second → other % second_micros ≡ micro → civil_of other ≡ record { date = date_of_day day; hour = hour; minute = minute; second = second; micro = micro }
cut_civil ts other day hour minute second micro d h n s u =
    same_civil (date_of_day (other / day_micros)) (date_of_day day) _ _ _ _ hour minute second micro (ap date_of_day d) h n s u

-- a midnight shows its date
civil_of-midnight : (d : CalendarDate) → IsCalendarDate d → civil_of (midnight d) ≡ record { date = d; hour = 0; minute = 0; second = 0; micro = 0 }
civil_of-midnight d h =
    let ts = midnight d in
    same_civil (date_of_day (ts / day_micros)) d _ _ _ _ 0 0 0 0
    (ap date_of_day (midnight_day (day_number d)) ∙ date_of_day-day_number d h) (omega arith) (omega arith) (omega arith) (omega arith)

-- a unit's first moment shows the least that is spelled alike
pub civil_of-start_of : (u : TimeUnit) (ts : ℕ) → civil_of (start_of u ts) ≡ cut u (civil_of ts)
civil_of-start_of Micro ts = refl
civil_of-start_of Milli ts = cut_civil ts (start_of Milli ts) _ _ _ _ _ (omega arith) (omega arith) (omega arith) (omega arith) (omega arith)
civil_of-start_of Second ts = cut_civil ts (start_of Second ts) _ _ _ _ _ (omega arith) (omega arith) (omega arith) (omega arith) (omega arith)
civil_of-start_of Minute ts = cut_civil ts (start_of Minute ts) _ _ _ _ _ (omega arith) (omega arith) (omega arith) (omega arith) (omega arith)
civil_of-start_of Hour ts = cut_civil ts (start_of Hour ts) _ _ _ _ _ (omega arith) (omega arith) (omega arith) (omega arith) (omega arith)
civil_of-start_of Day ts = cut_civil ts (start_of Day ts) _ _ _ _ _ (omega arith) (omega arith) (omega arith) (omega arith) (omega arith)
civil_of-start_of Month ts =
    let is = (date_of_day-is (ts / day_micros)).0 in
    let d = date_of_day (ts / day_micros) in
    civil_of-midnight (month_first d) (first_is d.year d.month is.year_low is.month_low is.month_high)
civil_of-start_of Year ts =
    let is = (date_of_day-is (ts / day_micros)).0 in
    let d = date_of_day (ts / day_micros) in
    civil_of-midnight (year_first d) (first_is d.year 1 is.year_low (omega arith) (omega arith))

-- jiff's day number of a date is ours
pub epoch_day-day_number : (d : Date) (c : CalendarDate) → IsCalendarDate c → d.year ≡ pos c.year → d.month ≡ c.month → d.day ≡ c.day → epoch_day d ≡ pos (day_number c)
epoch_day-day_number d c h y m day =
    rw (y, m, day) (omega (arith, signed_arith, days_from_civil-day_count (pos c.year) c.month c.day, count-day_number c h))

pub day_number-high : (c : CalendarDate) → IsCalendarDate c → c.year ≤ 9999 → day_number c ≤ LAST_DAY
day_number-high c h high =
    let next : CalendarDate = record { year = 10000; month = 1; day = 1 } in
    omega (arith, count-day_number c h, day_count-end, count-lt_year c next h (first_is 10000 1 (omega arith) (omega arith) (omega arith)) (omega arith))
