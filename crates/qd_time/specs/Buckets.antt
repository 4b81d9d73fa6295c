-- The buckets of samples: where they start, and the one that contains a timestamp. QuestDB's
-- documentation of SAMPLE BY has them: ALIGN TO CALENDAR WITH OFFSET, and ALIGN TO FIRST OBSERVATION.
use Rattle.std.specs.Prelude.{◌≡◌, ⊤, ℕ, zero, suc, ◌+◌, ◌-◌, ◌*◌, ◌/◌, ◌%◌, ◌≤◌, ◌⊎◌, min, nat_lt, nat_le, if◌then◌else◌, ℤ, pos, negsuc, ◌+ℤ◌, ◌-ℤ◌, ◌*ℤ◌, ◌≤ℤ◌, ◌<ℤ◌, neg_ℤ}
use Rattle.std.specs.Int.{int_div_euclid}
use Rattle.jiff_core.specs.Calendar.{days_in_month}
use Rattle.qd_time.specs.Calendar.{CalendarDate, second_micros, minute_micros, hour_micros, day_micros, date_of_day, midnight}
use Rattle.qd_base.specs.declared.limits.TheConstants.{MAX_STRIDE, MAX_TIME}
use Rattle.qd_time.specs.declared.buckets.Align.{Align}
use Rattle.qd_time.specs.declared.buckets.Align.TheVariants.{Calendar, First}
use Rattle.qd_time.specs.declared.buckets.Period.{Period}
use Rattle.qd_time.specs.declared.buckets.Period.TheVariants.{Micros, Months}
use Rattle.qd_time.specs.declared.buckets.Stride.{Stride}
use Rattle.qd_base.specs.declared.unit.TimeUnit.{TimeUnit}
use Rattle.qd_base.specs.declared.unit.TimeUnit.TheVariants.{Micro, Milli, Second, Minute, Hour, Day, Month, Year}

-- how far apart starts are: so many units, in microseconds or in months; a year is twelve months
abbrev pub as_period : ℕ → TimeUnit → Period
as_period n Micro = Micros n
as_period n Milli = Micros (n * 1000)
as_period n Second = Micros (n * second_micros)
as_period n Minute = Micros (n * minute_micros)
as_period n Hour = Micros (n * hour_micros)
as_period n Day = Micros (n * day_micros)
as_period n Month = Months n
as_period n Year = Months (n * 12)

abbrev pub period_of : Stride → Period
period_of stride = as_period stride.n stride.unit

-- a start below 0 is 0
abbrev pub clip : ℤ → ℕ
clip (pos n) = n
clip (negsuc n) = 0

-- the offset in microseconds
abbrev pub offset_micros : ℤ → ℤ
offset_micros minutes = minutes *ℤ pos 60_000_000

-- the months from January 1970 to a date's month
abbrev pub month_number : CalendarDate → ℕ
month_number d = (d.year - 1970) * 12 + (d.month - 1)

-- the day of that month, or its last where the month is shorter
abbrev pub day_of_month : ℕ → ℕ → CalendarDate
day_of_month month day =
    let year = 1970 + month / 12 in
    record { year = year; month = month % 12 + 1; day = min day (days_in_month (pos year) (month % 12 + 1)) }

-- the first moment of a month
abbrev pub month_midnight : ℕ → ℕ
month_midnight month = midnight (day_of_month month 1)

-- a moment moved by months: the day held to the month's last, the time of day kept
abbrev pub moved : ℕ → ℕ → ℕ
moved t0 months =
    let date = date_of_day (t0 / day_micros) in
    midnight (day_of_month (month_number date + months) date.day) + t0 % day_micros

-- which of f 0, f 1 .. f n is the last that isn't after a timestamp, for an f that rises
unfoldable pub last_index : (ℕ → ℕ) → ℕ → ℕ → ℕ
last_index f ts zero = 0
last_index f ts (suc n) = if nat_le (f (suc n)) ts then suc n else last_index f ts n

-- the months at a distance from the offset; before it there is no month
abbrev pub month_start : ℕ → ℤ → ℤ → ℕ
month_start n offset (pos ahead) = clip (pos (month_midnight (month_number (date_of_day (ahead / day_micros)) / n * n)) +ℤ offset)
month_start n offset (negsuc behind) = 0

-- the first month after it
abbrev pub month_after : ℕ → ℤ → ℕ
month_after n (pos ahead) = (month_number (date_of_day (ahead / day_micros)) / n + 1) * n
month_after n (negsuc behind) = 0

abbrev pub month_end : ℕ → ℤ → ℤ → ℕ
month_end n offset ahead = clip (pos (month_midnight (month_after n ahead)) +ℤ offset)

-- the months of a moment, counted from January 1970
abbrev pub months_to : ℕ → ℕ
months_to ts = month_number (date_of_day (ts / day_micros))

-- the first moved moment after a timestamp
abbrev pub moved_end : ℕ → ℕ → ℕ → ℕ
moved_end n t0 ts =
    if nat_lt ts t0 then t0 else moved t0 ((last_index (λ k. moved t0 (k * n)) ts (months_to ts) + 1) * n)

-- the start of the bucket that contains the timestamp
abbrev pub start_by : Period → Align → ℕ → ℕ
start_by (Micros period) (Calendar minutes) ts =
    let offset = offset_micros minutes in
    clip (offset +ℤ int_div_euclid (pos ts -ℤ offset) (pos period) *ℤ pos period)
start_by (Micros period) (First t0) ts = t0 + (ts - t0) / period * period
start_by (Months n) (Calendar minutes) ts =
    let offset = offset_micros minutes in month_start n offset (pos ts -ℤ offset)
start_by (Months n) (First t0) ts = moved t0 (last_index (λ k. moved t0 (k * n)) ts (months_to ts) * n)

-- the start after it
abbrev pub end_by : Period → Align → ℕ → ℕ
end_by (Micros period) (Calendar minutes) ts =
    let offset = offset_micros minutes in
    clip (offset +ℤ int_div_euclid (pos ts -ℤ offset) (pos period) *ℤ pos period +ℤ pos period)
end_by (Micros period) (First t0) ts = if nat_lt ts t0 then t0 else t0 + ((ts - t0) / period + 1) * period
end_by (Months n) (Calendar minutes) ts =
    let offset = offset_micros minutes in month_end n offset (pos ts -ℤ offset)
end_by (Months n) (First t0) ts = moved_end n t0 ts

abbrev pub bucket_start : Stride → Align → ℕ → ℕ
bucket_start stride align ts = start_by (period_of stride) align ts

abbrev pub bucket_end : Stride → Align → ℕ → ℕ
bucket_end stride align ts = end_by (period_of stride) align ts

-- a bucket starts there: on the calendar at the offset and any number of periods, or of months, and
-- counted from t0 at t0 and any number of periods, or of months. What would start below 0 starts at 0
abbrev pub StartsBy : Period → Align → ℕ → Type 0
StartsBy (Micros period) (Calendar minutes) start = (k : ℤ) × (start ≡ clip (offset_micros minutes +ℤ k *ℤ pos period))
StartsBy (Micros period) (First t0) start = (k : ℕ) × (start ≡ t0 + k * period)
StartsBy (Months n) (Calendar minutes) start =
    (start ≡ 0) ⊎ ((k : ℕ) × (start ≡ clip (pos (month_midnight (k * n)) +ℤ offset_micros minutes)))
StartsBy (Months n) (First t0) start = (k : ℕ) × (start ≡ moved t0 (k * n))

abbrev pub IsStart : Stride → Align → ℕ → Type 0
IsStart stride align start = StartsBy (period_of stride) align start

-- what the calls ask of a stride and of an alignment
abbrev pub IsStride : Stride → Type 0
IsStride stride = (1 ≤ stride.n) × (stride.n ≤ MAX_STRIDE)

abbrev pub IsAlign : Align → Type 0
IsAlign (Calendar minutes) = (neg_ℤ (pos 1439) ≤ℤ minutes) × (minutes ≤ℤ pos 1439)
IsAlign (First t0) = t0 ≤ MAX_TIME

-- a first observation isn't after the timestamp
abbrev pub IsReached : Align → ℕ → Type 0
IsReached (Calendar minutes) ts = ⊤
IsReached (First t0) ts = t0 ≤ ts

-- the ranges of periods
abbrev pub IsPeriod : Period → Type 0
IsPeriod (Micros period) = (1 ≤ period) × (period ≤ 86_400_000_000_000_000)
IsPeriod (Months n) = (1 ≤ n) × (n ≤ 12_000_000)

-- a timestamp less an offset
abbrev pub IsAhead : ℤ → Type 0
IsAhead ahead = ahead ≤ℤ pos (MAX_TIME + 86_340_000_000)

-- less than a day
abbrev pub IsOffset : ℤ → Type 0
IsOffset offset = (neg_ℤ (pos 86_340_000_000) ≤ℤ offset) × (offset ≤ℤ pos 86_340_000_000)

-- k periods after the offset are at most one period before the timestamp
abbrev pub IsNear : ℕ → ℤ → ℕ → ℤ → Type 0
IsNear ts offset period k =
    ((offset +ℤ k *ℤ pos period) ≤ℤ pos ts) × (pos ts <ℤ (offset +ℤ k *ℤ pos period +ℤ pos period))
