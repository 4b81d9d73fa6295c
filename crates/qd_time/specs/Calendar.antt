-- The proleptic Gregorian calendar and the 24-hour clock of ISO 8601, for timestamps: microseconds
-- since 1970-01-01T00:00:00Z. The lengths of months, and the count of days that `day_number` goes
-- by, are those of jiff's calendar.
use Rattle.std.specs.Prelude.{◌≡◌, ℕ, zero, suc, ◌+◌, ◌-◌, ◌*◌, ◌/◌, ◌%◌, ◌≤◌, nat_lt, if◌then◌else◌, pos}
use Rattle.jiff_core.specs.Calendar.{days_in_month, day_count}
use Rattle.jiff_core.specs.declared.civil.date.Date.{Date}

-- the clock's units in microseconds
abbrev pub second_micros : ℕ
second_micros = 1_000_000

abbrev pub minute_micros : ℕ
minute_micros = 60_000_000

abbrev pub hour_micros : ℕ
hour_micros = 3_600_000_000

abbrev pub day_micros : ℕ
day_micros = 86_400_000_000

-- a date of the calendar
pub record CalendarDate : Type 0 where
  pub year : ℕ
  pub month : ℕ
  pub day : ℕ

-- how many days the date's month has
abbrev pub month_days : CalendarDate → ℕ
month_days d = days_in_month (pos d.year) d.month

-- the calendar has this date, and it is not before 1970
pub record IsCalendarDate (d : CalendarDate) : Type 0 where
  pub year_low : 1970 ≤ d.year
  pub month_low : 1 ≤ d.month
  pub month_high : d.month ≤ 12
  pub day_low : 1 ≤ d.day
  pub day_high : d.day ≤ month_days d

-- the first day of the next month
abbrev pub month_after : CalendarDate → CalendarDate
month_after d =
    if nat_lt d.month 12 then record { year = d.year; month = d.month + 1; day = 1 }
    else record { year = d.year + 1; month = 1; day = 1 }

-- the next day
abbrev pub day_after : CalendarDate → CalendarDate
day_after d =
    if nat_lt d.day (month_days d) then record { year = d.year; month = d.month; day = d.day + 1 }
    else month_after d

-- the date of a day number: day 0 is 1 January 1970, and the day after each day has the next number
unfoldable pub date_of_day : ℕ → CalendarDate
date_of_day zero = record { year = 1970; month = 1; day = 1 }
date_of_day (suc n) = day_after (date_of_day n)

-- the day number of a date from 1970 on, by jiff's count of the days before it
abbrev pub day_number : CalendarDate → ℕ
day_number d = day_count (pos d.year) d.month d.day - day_count (pos 1970) 1 1

-- what the calendar and a clock in UTC show
pub record Civil : Type 0 where
  pub date : CalendarDate
  pub hour : ℕ
  pub minute : ℕ
  pub second : ℕ
  pub micro : ℕ

-- what they show at a timestamp
abbrev pub civil_of : ℕ → Civil
civil_of ts = record {
  date = date_of_day (ts / day_micros);
  hour = ts % day_micros / hour_micros;
  minute = ts % hour_micros / minute_micros;
  second = ts % minute_micros / second_micros;
  micro = ts % second_micros;
}

-- a date of jiff's is the date of a day number
pub record IsDateOfDay (d : Date) (day : ℕ) : Type 0 where
  pub year : d.year ≡ pos (date_of_day day).year
  pub month : d.month ≡ (date_of_day day).month
  pub day_of_month : d.day ≡ (date_of_day day).day

-- the first day of the date's month
abbrev pub month_first : CalendarDate → CalendarDate
month_first d = record { year = d.year; month = d.month; day = 1 }

-- the first day of the date's year
abbrev pub year_first : CalendarDate → CalendarDate
year_first d = record { year = d.year; month = 1; day = 1 }

-- the first day of the next year
abbrev pub year_after : CalendarDate → CalendarDate
year_after d = record { year = d.year + 1; month = 1; day = 1 }

-- the first moment of a date
abbrev pub midnight : CalendarDate → ℕ
midnight d = day_number d * day_micros
