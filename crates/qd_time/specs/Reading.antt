-- Reading a text from its left, for the private readers: what each finds, and the bytes after it.
use Rattle.std.specs.Prelude.{◌≡◌, ℕ, ◌+◌, ◌-◌, ◌*◌, ◌&&◌, ◌==◌, nat_le, nat_lt, min, if◌then◌else◌, List, [], ◌∷◌, Option, Some, None, option_and_then}
use Rattle.std.specs.Borrow.{Bor}
use Rattle.qd_time.specs.Calendar.{Civil, second_micros, minute_micros, hour_micros, day_micros}
use Rattle.std.specs.Prelude.{Result, Ok, Err}
use Rattle.qd_time.specs.Fields.{civil_fields, TimestampOf}
use Rattle.qd_time.specs.Units.{end_of}
use Rattle.qd_base.specs.declared.limits.TheConstants.{MAX_SUFFIX_COUNT, MAX_TIME}
use Rattle.qd_time.specs.declared.fault.TimeFault.{TimeFault}
use Rattle.qd_time.specs.declared.fault.TimeFault.TheVariants.{Form, Range}
use Rattle.qd_time.specs.declared.reading.Reading.{Reading}
use Rattle.qd_base.specs.declared.unit.TimeUnit.{TimeUnit}
use Rattle.qd_base.specs.declared.unit.TimeUnit.TheVariants.{Micro, Milli, Second, Minute, Hour, Day, Month, Year}

infixl 10 ◌>>=◌
abbrev pub ◌>>=◌ : {A B : Type 0} → Option A → (A → Option B) → Option B
o >>= f = option_and_then f o

-- a function of the code gives, seen by `view`, what reading finds
abbrev pub Gives : {X Y : Type 0} → (X → Y) → Option X → Option Y → Type 0
Gives view None read = read ≡ None
Gives view (Some x) read = read ≡ Some (view x)

-- a number and the bytes after it
abbrev pub Number : Type 0
Number = ℕ × List ℕ

abbrev pub seen_number : ℕ × Bor (List ℕ) → Number
seen_number x = (x.0, x.1.now)

-- one decimal digit
unfoldable pub digit_at : List ℕ → Option Number
digit_at [] = None
digit_at (b ∷ rest) = if nat_le 48 b && nat_le b 57 then Some (b - 48, rest) else None

unfoldable pub two_at : List ℕ → Option Number
two_at text = do
  high ← digit_at text
  low ← digit_at high.1
  Some (10 * high.0 + low.0, low.1)

unfoldable pub three_at : List ℕ → Option Number
three_at text = do
  high ← digit_at text
  low ← two_at high.1
  Some (100 * high.0 + low.0, low.1)

unfoldable pub four_at : List ℕ → Option Number
four_at text = do
  high ← two_at text
  low ← two_at high.1
  Some (100 * high.0 + low.0, low.1)

-- what a text says as far as the unit, and the bytes after it
pub record Read : Type 0 where
  pub unit : TimeUnit
  pub civil : Civil
  pub rest : List ℕ

abbrev pub seen : Reading → Read
seen r = record { unit = r.unit; civil = civil_fields r.fields; rest = r.rest.now }

abbrev pub read_as : TimeUnit → Civil → List ℕ → Option Read
read_as unit civil rest = Some (record { unit = unit; civil = civil; rest = rest })

-- the bytes after a `Z`, if there is one
abbrev pub after_zone : List ℕ → List ℕ
after_zone [] = []
after_zone (b ∷ rest) = if b == 90 then rest else b ∷ rest

-- the text goes on after the mark, or ends there
abbrev pub goes_on : ℕ → (List ℕ → Option Read) → (List ℕ → Option Read) → List ℕ → Option Read
goes_on mark next ends [] = ends []
goes_on mark next ends (b ∷ rest) = if b == mark then next rest else ends (b ∷ rest)

-- it ends, and a `Z` may stand there
abbrev pub ends_at : TimeUnit → Civil → List ℕ → Option Read
ends_at unit c text = read_as unit c (after_zone text)

-- a fraction of a second, of three digits or of six
abbrev pub micros_at : Civil → Number → Option Number → Option Read
micros_at c high None = ends_at Milli (record c { micro = high.0 * 1000 }) high.1
micros_at c high (Some low) = ends_at Micro (record c { micro = high.0 * 1000 + low.0 }) low.1

unfoldable pub fraction_at : Civil → List ℕ → Option Read
fraction_at c text = three_at text >>= λ high. micros_at c high (three_at high.1)

abbrev pub after_second : Civil → List ℕ → Option Read
after_second c text = goes_on 46 (fraction_at c) (ends_at Second c) text

unfoldable pub second_at : Civil → List ℕ → Option Read
second_at c text = two_at text >>= λ n. after_second (record c { second = n.0 }) n.1

abbrev pub after_minute : Civil → List ℕ → Option Read
after_minute c text = goes_on 58 (second_at c) (ends_at Minute c) text

unfoldable pub minute_at : Civil → List ℕ → Option Read
minute_at c text = two_at text >>= λ n. after_minute (record c { minute = n.0 }) n.1

abbrev pub after_hour : Civil → List ℕ → Option Read
after_hour c text = goes_on 58 (minute_at c) (ends_at Hour c) text

unfoldable pub hour_at : Civil → List ℕ → Option Read
hour_at c text = two_at text >>= λ n. after_hour (record c { hour = n.0 }) n.1

-- the same with another month or day
abbrev pub with_month : Civil → ℕ → Civil
with_month c month = record c { date = record { year = c.date.year; month = month; day = c.date.day } }

abbrev pub with_day : Civil → ℕ → Civil
with_day c day = record c { date = record { year = c.date.year; month = c.date.month; day = day } }

abbrev pub after_day : Civil → List ℕ → Option Read
after_day c text = goes_on 84 (hour_at c) (goes_on 32 (hour_at c) (read_as Day c)) text

unfoldable pub day_at : Civil → List ℕ → Option Read
day_at c text = two_at text >>= λ n. after_day (with_day c n.0) n.1

abbrev pub after_month : Civil → List ℕ → Option Read
after_month c text = goes_on 45 (day_at c) (read_as Month c) text

unfoldable pub month_at : Civil → List ℕ → Option Read
month_at c text = two_at text >>= λ n. after_month (with_month c n.0) n.1

abbrev pub after_year : Civil → List ℕ → Option Read
after_year c text = goes_on 45 (month_at c) (read_as Year c) text

-- the first moment of a year
abbrev pub year_start : ℕ → Civil
year_start year = record { date = record { year = year; month = 1; day = 1 }; hour = 0; minute = 0; second = 0; micro = 0 }

unfoldable pub year_at : List ℕ → Option Read
year_at text = four_at text >>= λ n. after_year (year_start n.0) n.1

-- the answer to a whole text that is read so
abbrev pub IsAnswer : Read → List ℕ → Result ℕ TimeFault → Type 0
IsAnswer r [] result = TimestampOf r.civil result
IsAnswer r (b ∷ rest) result = result ≡ Err Form

abbrev pub Answers : Option Read → Result ℕ TimeFault → Type 0
Answers None result = result ≡ Err Form
Answers (Some r) result = IsAnswer r r.rest result

-- a count so far and one more digit; no count above 1,000,001 is told apart
abbrev pub next_count : ℕ → ℕ → ℕ
next_count count b = min (10 * count + (b - 48)) (MAX_SUFFIX_COUNT + 1)

-- what a suffix's letter counts, in microseconds
abbrev pub span_at : ℕ → Option ℕ
span_at b =
    if b == 115 then Some second_micros
    else (if b == 109 then Some minute_micros
    else (if b == 104 then Some hour_micros else (if b == 100 then Some day_micros else None)))

-- a letter, and nothing after it
abbrev pub letter_at : ℕ → List ℕ → Option (ℕ × ℕ)
letter_at count [] = None
letter_at count (b ∷ []) = span_at b >>= λ micros. Some (count, micros)
letter_at count (b ∷ c ∷ rest) = None

-- digits, and then a letter
unfoldable pub count_at : ℕ → List ℕ → Option (ℕ × ℕ)
count_at count [] = None
count_at count (b ∷ rest) =
    if nat_le 48 b && nat_le b 57 then count_at (next_count count b) rest else letter_at count (b ∷ rest)

-- how many of what a suffix moves an end later
abbrev pub later_at : List ℕ → Option (ℕ × ℕ)
later_at [] = None
later_at (b ∷ rest) = if nat_le 48 b && nat_le b 57 then count_at 0 (b ∷ rest) else None

abbrev pub suffix_at : List ℕ → Option (ℕ × ℕ)
suffix_at [] = Some (0, 0)
suffix_at (b ∷ rest) = if b == 59 then later_at rest else None

-- the interval of a unit that begins at a timestamp, with its end moved later
abbrev pub interval_of : TimeUnit → ℕ × ℕ → Result ℕ TimeFault → Result (ℕ × ℕ) TimeFault
interval_of unit later (Err e) = Err e
interval_of unit later (Ok first) =
    if nat_lt MAX_SUFFIX_COUNT later.0 then Err Range
    else Ok (first, min (end_of unit first - 1 + later.0 * later.1) MAX_TIME)

-- the answer to a text that is read so, with that suffix
abbrev pub IsInterval : Read → Option (ℕ × ℕ) → Result (ℕ × ℕ) TimeFault → Type 0
IsInterval r None result = result ≡ Err Form
IsInterval r (Some later) result =
    (t : Result ℕ TimeFault) × TimestampOf r.civil t × (result ≡ interval_of r.unit later t)

abbrev pub AnswersInterval : Option Read → Result (ℕ × ℕ) TimeFault → Type 0
AnswersInterval None result = result ≡ Err Form
AnswersInterval (Some r) result = IsInterval r (suffix_at r.rest) result
