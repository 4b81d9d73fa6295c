-- The unit of the calendar or of the clock that contains a timestamp, and the names of partitions:
-- QuestDB's documentation of PARTITION BY.
use Rattle.std.specs.Prelude.{ℕ, ◌+◌, ◌*◌, ◌/◌, List}
use Rattle.qd_base.specs.declared.schema.PartUnit.{PartUnit}
use Rattle.qd_base.specs.declared.schema.PartUnit.TheVariants.{Hour as PartHour, Day as PartDay, Month as PartMonth, Year as PartYear}
use Rattle.qd_time.specs.Calendar.{second_micros, minute_micros, hour_micros, day_micros, date_of_day, civil_of, month_first, month_after, year_first, year_after, midnight}
use Rattle.qd_time.specs.Printed.{text_to}
use Rattle.qd_base.specs.declared.unit.TimeUnit.{TimeUnit}
use Rattle.qd_base.specs.declared.unit.TimeUnit.TheVariants.{Micro, Milli, Second, Minute, Hour, Day, Month, Year}

-- the unit by which a table is partitioned
abbrev pub unit_of : PartUnit → TimeUnit
unit_of PartHour = Hour
unit_of PartDay = Day
unit_of PartMonth = Month
unit_of PartYear = Year

-- the first microsecond of the unit that contains the timestamp
abbrev pub start_of : TimeUnit → ℕ → ℕ
start_of Micro ts = ts
start_of Milli ts = ts / 1000 * 1000
start_of Second ts = ts / second_micros * second_micros
start_of Minute ts = ts / minute_micros * minute_micros
start_of Hour ts = ts / hour_micros * hour_micros
start_of Day ts = ts / day_micros * day_micros
start_of Month ts = midnight (month_first (date_of_day (ts / day_micros)))
start_of Year ts = midnight (year_first (date_of_day (ts / day_micros)))

-- the first microsecond of the next unit
abbrev pub end_of : TimeUnit → ℕ → ℕ
end_of Micro ts = ts + 1
end_of Milli ts = (ts / 1000 + 1) * 1000
end_of Second ts = (ts / second_micros + 1) * second_micros
end_of Minute ts = (ts / minute_micros + 1) * minute_micros
end_of Hour ts = (ts / hour_micros + 1) * hour_micros
end_of Day ts = (ts / day_micros + 1) * day_micros
end_of Month ts = midnight (month_after (date_of_day (ts / day_micros)))
end_of Year ts = midnight (year_after (date_of_day (ts / day_micros)))

-- the name of the partition that contains the timestamp: `2024-01-31T23`, `2024-01-31`, `2024-01`
-- or `2024`
abbrev pub name_of : PartUnit → ℕ → List ℕ
name_of unit ts = text_to (unit_of unit) 84 (civil_of ts)
