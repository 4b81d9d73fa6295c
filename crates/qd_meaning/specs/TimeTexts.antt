-- The moment, and the interval, that a text of a statement names, as functions of the text.
use Rattle.std.specs.Prelude.{ℕ, ◌+◌, ◌*◌, Bool, ◌&&◌, nat_le, nat_lt, if◌then◌else◌, List, [], ◌∷◌, Option, Some, None, Result, Ok, Err, ℤ, pos, negsuc}
use Rattle.qd_base.specs.declared.limits.TheConstants.{MAX_TIME}
use Rattle.qd_time.specs.declared.fault.TimeFault.{TimeFault}
use Rattle.qd_time.specs.declared.fault.TimeFault.TheVariants as fault
use Rattle.qd_time.specs.Calendar.{Civil, second_micros, minute_micros, hour_micros, midnight, month_days}
use Rattle.qd_time.specs.Reading.{Read, year_at, suffix_at, interval_of}

-- the calendar and the clock have this moment
abbrev pub is_civil : Civil → Bool
is_civil c =
    nat_le 1 c.date.month && nat_le c.date.month 12 && nat_le 1 c.date.day && nat_le c.date.day (month_days c.date)
    && nat_lt c.hour 24 && nat_lt c.minute 60 && nat_lt c.second 60 && nat_lt c.micro 1000000

-- the microseconds from 1970 to a moment
abbrev pub micros_to : Civil → ℕ
micros_to c = midnight c.date + c.hour * hour_micros + c.minute * minute_micros + c.second * second_micros + c.micro

-- a moment that the calendar lacks has no form, one before 1970 is out of range
abbrev pub timestamp_of : Civil → Result ℕ TimeFault
timestamp_of c = if is_civil c then (if nat_lt c.date.year 1970 then Err fault.Range else Ok (micros_to c)) else Err fault.Form

abbrev pub whole : Read → List ℕ → Result ℕ TimeFault
whole r [] = timestamp_of r.civil
whole r (b ∷ rest) = Err fault.Form

abbrev pub time_read : Option Read → Result ℕ TimeFault
time_read None = Err fault.Form
time_read (Some r) = whole r r.rest

-- the first moment of the year, month, day, hour, minute, second, millisecond or microsecond that a text names
abbrev pub time_of_text : List ℕ → Result ℕ TimeFault
time_of_text text = time_read (year_at text)

abbrev pub lengthened : Read → Option (ℕ × ℕ) → Result (ℕ × ℕ) TimeFault
lengthened r None = Err fault.Form
lengthened r (Some later) = interval_of r.unit later (timestamp_of r.civil)

abbrev pub interval_read : Option Read → Result (ℕ × ℕ) TimeFault
interval_read None = Err fault.Form
interval_read (Some r) = lengthened r (suffix_at r.rest)

-- its first and its last moment, the last one moved later by a suffix
abbrev pub interval_of_text : List ℕ → Result (ℕ × ℕ) TimeFault
interval_of_text text = interval_read (year_at text)

-- a number as a moment in microseconds
abbrev pub time_of_number : ℤ → Result ℕ TimeFault
time_of_number (pos n) = if nat_le n MAX_TIME then Ok n else Err fault.Range
time_of_number (negsuc n) = Err fault.Range
