-- Which text spells which moment: the forms of ISO 8601's extended format, from a year to a
-- microsecond, as QuestDB's documentation on timestamps and intervals has them.
use Rattle.std.specs.Prelude.{◌≡◌, ⊤, ℕ, ◌+◌, ◌-◌, ◌*◌, ◌<◌, ◌≤◌, ◌⊎◌, min, List, [], ◌∷◌, ◌++◌}
use Rattle.std.specs.Str.Parse.{IsNumeral, digits_value}
use Rattle.qd_time.specs.Calendar.{Civil, civil_of, month_days, second_micros, minute_micros, hour_micros, day_micros}
use Rattle.qd_time.specs.Printed.{text_to}
use Rattle.qd_time.specs.Units.{start_of, end_of}
use Rattle.qd_base.specs.declared.limits.TheConstants.{MAX_SUFFIX_COUNT, MAX_TIME}
use Rattle.qd_base.specs.declared.unit.TimeUnit.{TimeUnit}
use Rattle.qd_base.specs.declared.unit.TimeUnit.TheVariants.{Micro, Milli, Second, Minute, Hour, Day, Month, Year}

-- `T` or a blank stands between the date and the time of day
abbrev pub IsMark : ℕ → Type 0
IsMark mark = (mark ≡ 84) ⊎ (mark ≡ 32)

-- a `Z` may stand after a time of day
abbrev pub IsZone : TimeUnit → List ℕ → Type 0
IsZone Year zone = zone ≡ []
IsZone Month zone = zone ≡ []
IsZone Day zone = zone ≡ []
IsZone Hour zone = (zone ≡ []) ⊎ (zone ≡ 90 ∷ [])
IsZone Minute zone = (zone ≡ []) ⊎ (zone ≡ 90 ∷ [])
IsZone Second zone = (zone ≡ []) ⊎ (zone ≡ 90 ∷ [])
IsZone Milli zone = (zone ≡ []) ⊎ (zone ≡ 90 ∷ [])
IsZone Micro zone = (zone ≡ []) ⊎ (zone ≡ 90 ∷ [])

-- the text spells what the calendar and the clock show, as far as the unit
pub record Spells (text : List ℕ) (unit : TimeUnit) (c : Civil) : Type 0 where
  pub mark : ℕ
  pub zone : List ℕ
  pub mark_is : IsMark mark
  pub zone_is : IsZone unit zone
  pub text_is : text ≡ text_to unit mark c ++ zone

-- the text spells the timestamp, which is the first of the unit that the text names
pub record SpellsAs (text : List ℕ) (unit : TimeUnit) (ts : ℕ) : Type 0 where
  pub spells : Spells text unit (civil_of ts)
  pub first : start_of unit ts ≡ ts
  pub in_range : ts ≤ MAX_TIME

-- a moment of the calendar and the clock
pub record IsCivil (c : Civil) : Type 0 where
  pub month_low : 1 ≤ c.date.month
  pub month_high : c.date.month ≤ 12
  pub day_low : 1 ≤ c.date.day
  pub day_high : c.date.day ≤ month_days c.date
  pub hour_high : c.hour < 24
  pub minute_high : c.minute < 60
  pub second_high : c.second < 60
  pub micro_high : c.micro < 1_000_000

-- the text spells, as far as some unit, a moment of the years 0 to 1969
pub record SpellsEarly (text : List ℕ) : Type 0 where
  pub unit : TimeUnit
  pub civil : Civil
  pub is_civil : IsCivil civil
  pub early : civil.date.year < 1970
  pub spells : Spells text unit civil

-- what a moment's text says: the first moment of the unit that it names
abbrev pub SpellsTime : List ℕ → ℕ → Type 0
SpellsTime text ts = (unit : TimeUnit) × SpellsAs text unit ts

-- it spells no moment at all
abbrev pub IsNoTime : List ℕ → Type 0
IsNoTime text = ((ts : ℕ) → ¬ (SpellsTime text ts)) × ¬ (SpellsEarly text)

-- a suffix moves an interval's end later by a number of seconds, minutes, hours or days
pub data Span : Type 0 where
  seconds : Span
  minutes : Span
  hours : Span
  days : Span

abbrev pub letter : Span → ℕ
letter seconds = 115
letter minutes = 109
letter hours = 104
letter days = 100

abbrev pub span_micros : Span → ℕ
span_micros seconds = second_micros
span_micros minutes = minute_micros
span_micros hours = hour_micros
span_micros days = day_micros

pub data Suffix : Type 0 where
  none : Suffix
  later : List ℕ → Span → Suffix

-- `;`, digits and a letter
abbrev pub suffix_text : Suffix → List ℕ
suffix_text none = []
suffix_text (later number span) = 59 ∷ number ++ (letter span ∷ [])

abbrev pub IsSuffix : Suffix → Type 0
IsSuffix none = ⊤
IsSuffix (later number span) = IsNumeral 10 number

abbrev pub suffix_count : Suffix → ℕ
suffix_count none = 0
suffix_count (later number span) = digits_value 10 number

abbrev pub suffix_micros : Suffix → ℕ
suffix_micros none = 0
suffix_micros (later number span) = digits_value 10 number * span_micros span

-- the text spells the interval from the first to the last microsecond of the unit that it names,
-- moved later by its suffix, to the last timestamp at most
pub record SpellsInterval (text : List ℕ) (first last : ℕ) : Type 0 where
  pub base : List ℕ
  pub suffix : Suffix
  pub unit : TimeUnit
  pub text_is : text ≡ base ++ suffix_text suffix
  pub is_suffix : IsSuffix suffix
  pub spells : SpellsAs base unit first
  pub count : suffix_count suffix ≤ MAX_SUFFIX_COUNT
  pub last_is : last ≡ min (end_of unit first - 1 + suffix_micros suffix) MAX_TIME

-- the text is a moment's text of the calendar with or without a suffix, but of a year below 1970 or
-- with a suffix above 1,000,000
pub record SpellsOutside (text : List ℕ) : Type 0 where
  pub base : List ℕ
  pub suffix : Suffix
  pub text_is : text ≡ base ++ suffix_text suffix
  pub is_suffix : IsSuffix suffix
  pub outside : SpellsEarly base ⊎ ((ts : ℕ) × SpellsTime base ts × (MAX_SUFFIX_COUNT < suffix_count suffix))

-- the text spells no interval at all
abbrev pub IsNoInterval : List ℕ → Type 0
IsNoInterval text = ((first last : ℕ) → ¬ (SpellsInterval text first last)) × ¬ (SpellsOutside text)
