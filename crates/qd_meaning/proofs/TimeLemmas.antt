-- The moment and the interval that a text names are those that it spells.
use Rattle.std.proofs.Common.{◌≡◌, ℕ, ◌<◌, ◌≤◌, ◌^◌, Bool, true, false, ◌&&◌, if◌then◌else◌, ltb, leb, List, [], ◌∷◌, Option, Some, None, Ok, Err, refl, sym, ◌∙◌, true≢false, arith}
use Rattle.std.proofs.lemmas.Bool.{ltb-true, ltb-false, leb-true, lt-ltb, le-leb}
use Rattle.qd_base.specs.declared.limits.TheConstants.{MAX_TIME}
use Rattle.qd_time.specs.declared.fault.TimeFault.TheVariants as fault
use Rattle.qd_time.specs.Calendar.{Civil, day_number, month_days}
use Rattle.qd_time.specs.Fields.{TimestampOf}
use Rattle.qd_time.specs.Reading.{Read, year_at, suffix_at, Answers, IsAnswer, AnswersInterval, IsInterval}
use Rattle.qd_time.specs.Spelled.{IsCivil}
use Rattle.qd_time.proofs.CivilLemmas.{civil_of-date, IsCalendarDate-from_civil, day_number-high}
use Rattle.qd_time.proofs.ReadingLemmas.{found_year}
use Rattle.qd_time.proofs.ParseLemmas as time
use Rattle.qd_time.proofs.IntervalLemmas as interval
use Rattle.qd_meaning.specs.TimeTexts.{is_civil, micros_to, timestamp_of, whole, time_read, time_of_text, lengthened, interval_read, interval_of_text}
use Rattle.qd_meaning.specs.Laws.{TimesAreRead}

civil-true : (c : Civil) → IsCivil c → is_civil c ≡ true
civil-true c is =
    rw (le-leb 1 c.date.month is.month_low, le-leb c.date.month 12 is.month_high, le-leb 1 c.date.day is.day_low, le-leb c.date.day (month_days c.date) is.day_high, lt-ltb c.hour 24 is.hour_high, lt-ltb c.minute 60 is.minute_high, lt-ltb c.second 60 is.second_high, lt-ltb c.micro 1000000 is.micro_high) refl

abbrev Eight : Bool → Bool → Bool → Bool → Bool → Bool → Bool → Bool → Type 0
Eight a b c d e f g h = (a ≡ true) × (b ≡ true) × (c ≡ true) × (d ≡ true) × (e ≡ true) × (f ≡ true) × (g ≡ true) × (h ≡ true)

all-true : (a b c d e f g h : Bool) → (a && b && c && d && e && f && g && h) ≡ true → Eight a b c d e f g h
all-true true true true true true true true true x = (refl, refl, refl, refl, refl, refl, refl, refl)
all-true true true true true true true true false x = absurd (true≢false (sym x))
all-true true true true true true true false h x = absurd (true≢false (sym x))
all-true true true true true true false g h x = absurd (true≢false (sym x))
all-true true true true true false f g h x = absurd (true≢false (sym x))
all-true true true true false e f g h x = absurd (true≢false (sym x))
all-true true true false d e f g h x = absurd (true≢false (sym x))
all-true true false c d e f g h x = absurd (true≢false (sym x))
all-true false b c d e f g h x = absurd (true≢false (sym x))

true-civil : (c : Civil) → is_civil c ≡ true → IsCivil c
true-civil c x =
    let t = all-true (leb 1 c.date.month) (leb c.date.month 12) (leb 1 c.date.day) (leb c.date.day (month_days c.date)) (ltb c.hour 24) (ltb c.minute 60) (ltb c.second 60) (ltb c.micro 1000000) x in
    record {
      month_low = leb-true 1 c.date.month t.0;
      month_high = leb-true c.date.month 12 t.1;
      day_low = leb-true 1 c.date.day t.2;
      day_high = leb-true c.date.day (month_days c.date) t.3;
      hour_high = ltb-true c.hour 24 t.4;
      minute_high = ltb-true c.minute 60 t.5;
      second_high = ltb-true c.second 60 t.6;
      micro_high = ltb-true c.micro 1000000 t.7;
    }

in-range : (c : Civil) → IsCivil c → 1970 ≤ c.date.year → c.date.year < 10 ^ 4 → micros_to c ≤ MAX_TIME
in-range c is low high =
    let date = IsCalendarDate-from_civil c is low in
    let bound = day_number-high c.date date (omega arith) in
    omega (arith, bound, is.hour_high, is.minute_high, is.second_high, is.micro_high)

-- a moment that a text of four digits of the year says
moment-read : (c : Civil) → c.date.year < 10 ^ 4 → TimestampOf c (timestamp_of c)
moment-read c high = go (is_civil c) refl
  where
    years : (b : Bool) → ltb c.date.year 1970 ≡ b → IsCivil c → TimestampOf c (if b then Err fault.Range else Ok (micros_to c))
    years true e is = (is, ltb-true c.date.year 1970 e)
    years false e is =
        let low = ltb-false c.date.year 1970 e in
        (civil_of-date c.date (day_number c.date) c.hour c.minute c.second c.micro (IsCalendarDate-from_civil c is low) refl is.hour_high is.minute_high is.second_high is.micro_high, in-range c is low high)

    go : (b : Bool) → is_civil c ≡ b → TimestampOf c (if b then (if ltb c.date.year 1970 then Err fault.Range else Ok (micros_to c)) else Err fault.Form)
    go true e = years (ltb c.date.year 1970) refl (true-civil c e)
    go false e = λ is. true≢false (sym (civil-true c is) ∙ e)

whole-read : (r : Read) (rest : List ℕ) → r.civil.date.year < 10 ^ 4 → IsAnswer r rest (whole r rest)
whole-read r [] high = moment-read r.civil high
whole-read r (b ∷ rest) high = refl

answers : (text : List ℕ) → Answers (year_at text) (time_of_text text)
answers text = go (year_at text) refl
  where
    go : (o : Option Read) → year_at text ≡ o → Answers o (time_read o)
    go None e = refl
    go (Some r) e = whole-read r r.rest (found_year text r e).year_high

later-read : (r : Read) (o : Option (ℕ × ℕ)) → r.civil.date.year < 10 ^ 4 → IsInterval r o (lengthened r o)
later-read r None high = refl
later-read r (Some later) high = (timestamp_of r.civil, moment-read r.civil high, refl)

answers-interval : (text : List ℕ) → AnswersInterval (year_at text) (interval_of_text text)
answers-interval text = go (year_at text) refl
  where
    go : (o : Option Read) → year_at text ≡ o → AnswersInterval o (interval_read o)
    go None e = refl
    go (Some r) e = later-read r (suffix_at r.rest) (found_year text r e).year_high

pub times-are-read : TimesAreRead
times-are-read =
    record {
      time = λ text ts. time.is_ok text (time_of_text text) (answers text) ts;
      early = λ text. time.is_range text (time_of_text text) (answers text);
      no_time = λ text. time.is_form text (time_of_text text) (answers text);
      interval = λ text first last. interval.is_ok text (interval_of_text text) (answers-interval text) first last;
      outside = λ text. interval.is_range text (interval_of_text text) (answers-interval text);
      no_interval = λ text. interval.is_form text (interval_of_text text) (answers-interval text);
    }
