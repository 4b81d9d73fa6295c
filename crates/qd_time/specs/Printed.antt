-- The texts of moments: `2024-01-31T23:59:59.999999Z` and its parts, in the extended format of
-- ISO 8601.
use Rattle.std.specs.Prelude.{ℕ, zero, suc, ◌+◌, ◌/◌, ◌%◌, ◌^◌, List, [], ◌∷◌, ◌++◌}
use Rattle.qd_time.specs.Calendar.{Civil, civil_of}
use Rattle.qd_base.specs.declared.unit.TimeUnit.{TimeUnit}
use Rattle.qd_base.specs.declared.unit.TimeUnit.TheVariants.{Micro, Milli, Second, Minute, Hour, Day, Month, Year}

-- a number below 10 to the power of `width`, in that many decimal digits
abbrev pub digits : ℕ → ℕ → List ℕ
digits zero n = []
digits (suc width) n = (48 + n / 10 ^ width) ∷ digits width (n % 10 ^ width)

-- `2024-01-31`
abbrev pub date_text : Civil → List ℕ
date_text c = digits 4 c.date.year ++ (45 ∷ digits 2 c.date.month) ++ (45 ∷ digits 2 c.date.day)

-- `2024-01-31T23`, with `mark` between the date and the time of day
abbrev pub hour_text : ℕ → Civil → List ℕ
hour_text mark c = date_text c ++ (mark ∷ digits 2 c.hour)

-- `2024-01-31T23:59`
abbrev pub minute_text : ℕ → Civil → List ℕ
minute_text mark c = hour_text mark c ++ (58 ∷ digits 2 c.minute)

-- `2024-01-31T23:59:59`
abbrev pub second_text : ℕ → Civil → List ℕ
second_text mark c = minute_text mark c ++ (58 ∷ digits 2 c.second)

-- a moment's text as far as the unit, with `mark` between the date and the time of day
abbrev pub text_to : TimeUnit → ℕ → Civil → List ℕ
text_to Year mark c = digits 4 c.date.year
text_to Month mark c = digits 4 c.date.year ++ (45 ∷ digits 2 c.date.month)
text_to Day mark c = date_text c
text_to Hour mark c = hour_text mark c
text_to Minute mark c = minute_text mark c
text_to Second mark c = second_text mark c
text_to Milli mark c = second_text mark c ++ (46 ∷ digits 3 (c.micro / 1000))
text_to Micro mark c = second_text mark c ++ (46 ∷ digits 6 c.micro)

-- the 27 bytes of a timestamp up to the year 9999, with `T` and, at the end, `Z`
abbrev pub time_text : ℕ → List ℕ
time_text ts = text_to Micro 84 (civil_of ts) ++ (90 ∷ [])
