-- A reading's answer is what the text spells.
use Rattle.std.proofs.Common.{◌↔◌, ℕ, ◌/◌, ◌<◌, ◌≤◌, ◌≡◌, inl, inr, Option, Some, None, Result, Ok, Err, List, [], ◌∷◌, ◌++◌, refl, sym, ap, ◌∙◌, arith, subst, pos}
use Rattle.std.proofs.lemmas.List.{append-nil}
use Rattle.std.proofs.lemmas.Option.{same_Some}
use Rattle.jiff_core.proofs.CalendarLemmas.{days_in_month_bounds}
use Rattle.qd_base.specs.declared.limits.TheConstants.{MAX_TIME}
use Rattle.qd_time.specs.Calendar.{Civil, civil_of, day_micros}
use Rattle.qd_time.specs.Fields.{TimestampOf}
use Rattle.qd_time.specs.Printed.{text_to, time_text}
use Rattle.qd_time.specs.Reading.{Read, read_as, year_at, IsAnswer, Answers}
use Rattle.qd_time.specs.Spelled.{IsZone, Spells, SpellsAs, SpellsTime, SpellsEarly, IsNoTime, IsCivil}
use Rattle.qd_time.specs.Units.{start_of}
use Rattle.qd_time.specs.declared.fault.TimeFault.{TimeFault}
use Rattle.qd_time.specs.declared.fault.TimeFault.TheVariants.{Form, Range}
use Rattle.qd_base.specs.declared.unit.TimeUnit.{TimeUnit}
use Rattle.qd_base.specs.declared.unit.TimeUnit.TheVariants.{Micro, Milli, Second, Minute, Hour, Day, Month, Year}
use Rattle.qd_time.proofs.DateLemmas.{date_of_day-is}
use Rattle.qd_time.proofs.ReadingLemmas.{Found, found_year, reads, cut, IsShort}
use Rattle.qd_time.proofs.CivilLemmas.{civil_of-injective, civil_of-is, civil_of-short, civil_of-start_of}

-- a whole reading spells what it reads
found_spells : (text : List ℕ) (r : Read) → Found text r → r.rest ≡ [] → Spells text r.unit r.civil
found_spells text r f e = record {
  mark = f.mark;
  zone = f.zone;
  mark_is = f.mark_is;
  zone_is = f.zone_is;
  text_is = f.text_is ∙ ap (λ x. text_to r.unit f.mark r.civil ++ x) (ap (λ x. f.zone ++ x) e ∙ append-nil f.zone);
}

-- a timestamp that shows what a reading has is the first of its unit
pub found_first : (text : List ℕ) (r : Read) (ts : ℕ) → Found text r → civil_of ts ≡ r.civil → start_of r.unit ts ≡ ts
found_first text r ts f e =
    civil_of-injective (start_of r.unit ts) ts (civil_of-start_of r.unit ts ∙ ap (cut r.unit) e ∙ f.least ∙ sym e)

-- a spelled text is read whole
spelled_reads : (text : List ℕ) (u : TimeUnit) (c : Civil) → IsShort c → Spells text u c → year_at text ≡ read_as u (cut u c) []
spelled_reads text u c short s =
    ap year_at (s.text_is ∙ ap (λ x. text_to u s.mark c ++ x) (sym (append-nil s.zone)))
    ∙ reads c short u s.mark s.zone [] s.mark_is s.zone_is (inl refl)

time_reads : (text : List ℕ) (u : TimeUnit) (ts : ℕ) → SpellsAs text u ts → year_at text ≡ read_as u (civil_of ts) []
time_reads text u ts s =
    spelled_reads text u (civil_of ts) (civil_of-short ts s.in_range) s.spells
    ∙ ap (λ c. read_as u c []) (sym (civil_of-start_of u ts) ∙ ap civil_of s.first)

pub early_short : (c : Civil) → IsCivil c → c.date.year < 1970 → IsShort c
early_short c is early = record {
  year_high = omega arith;
  month_high = omega (arith, is.month_high);
  day_high = omega (arith, is.day_high, days_in_month_bounds (pos c.date.year) c.date.month);
  hour_high = omega (arith, is.hour_high);
  minute_high = omega (arith, is.minute_high);
  second_high = omega (arith, is.second_high);
  micro_high = omega (arith, is.micro_high);
}

pub cut_is : (u : TimeUnit) (c : Civil) → IsCivil c → IsCivil (cut u c) × ((cut u c).date.year ≡ c.date.year)
cut_is Year c is =
    let long = days_in_month_bounds (pos c.date.year) 1 in
    (record { month_low = omega arith; month_high = omega arith; day_low = omega arith; day_high = omega arith; hour_high = omega arith; minute_high = omega arith; second_high = omega arith; micro_high = omega arith }, refl)
cut_is Month c is =
    let long = days_in_month_bounds (pos c.date.year) c.date.month in
    (record { month_low = is.month_low; month_high = is.month_high; day_low = omega arith; day_high = omega arith; hour_high = omega arith; minute_high = omega arith; second_high = omega arith; micro_high = omega arith }, refl)
cut_is Day c is =
    (record { month_low = is.month_low; month_high = is.month_high; day_low = is.day_low; day_high = is.day_high; hour_high = omega arith; minute_high = omega arith; second_high = omega arith; micro_high = omega arith }, refl)
cut_is Hour c is =
    (record { month_low = is.month_low; month_high = is.month_high; day_low = is.day_low; day_high = is.day_high; hour_high = is.hour_high; minute_high = omega arith; second_high = omega arith; micro_high = omega arith }, refl)
cut_is Minute c is =
    (record { month_low = is.month_low; month_high = is.month_high; day_low = is.day_low; day_high = is.day_high; hour_high = is.hour_high; minute_high = is.minute_high; second_high = omega arith; micro_high = omega arith }, refl)
cut_is Second c is =
    (record { month_low = is.month_low; month_high = is.month_high; day_low = is.day_low; day_high = is.day_high; hour_high = is.hour_high; minute_high = is.minute_high; second_high = is.second_high; micro_high = omega arith }, refl)
cut_is Milli c is =
    (record { month_low = is.month_low; month_high = is.month_high; day_low = is.day_low; day_high = is.day_high; hour_high = is.hour_high; minute_high = is.minute_high; second_high = is.second_high; micro_high = omega (arith, is.micro_high) }, refl)
cut_is Micro c is = (is, refl)

-- the calendar's moments are not before 1970
not_early : (ts : ℕ) → ¬ ((civil_of ts).date.year < 1970)
not_early ts h = omega (arith, (date_of_day-is (ts / day_micros)).0.year_low)

-- what an answer says of its text
whole_ok : (text : List ℕ) (r : Read) (rest : List ℕ) (ts : ℕ) → Found text r → r.rest ≡ rest → IsAnswer r rest (Ok ts) → SpellsTime text ts
whole_ok text r [] ts f e h = (
  r.unit,
  record {
    spells = subst (Spells text r.unit) (sym h.0) (found_spells text r f e);
    first = found_first text r ts f h.0;
    in_range = h.1;
  },
)
whole_ok text r (b ∷ rest) ts f e h = absurd cc

ok_spells : (text : List ℕ) (o : Option Read) (ts : ℕ) → year_at text ≡ o → Answers o (Ok ts) → SpellsTime text ts
ok_spells text None ts e h = absurd cc
ok_spells text (Some r) ts e h = whole_ok text r r.rest ts (found_year text r e) refl h

whole_range : (text : List ℕ) (r : Read) (rest : List ℕ) → Found text r → r.rest ≡ rest → IsAnswer r rest (Err Range) → SpellsEarly text
whole_range text r [] f e h = record { unit = r.unit; civil = r.civil; is_civil = h.0; early = h.1; spells = found_spells text r f e }
whole_range text r (b ∷ rest) f e h = absurd cc

range_spells : (text : List ℕ) (o : Option Read) → year_at text ≡ o → Answers o (Err Range) → SpellsEarly text
range_spells text None e h = absurd cc
range_spells text (Some r) e h = whole_range text r r.rest (found_year text r e) refl h

-- and what a text says of its answer
pub time_answer : (c : Civil) (ts : ℕ) (result : Result ℕ TimeFault) → civil_of ts ≡ c → TimestampOf c result → result ≡ Ok ts
time_answer c ts (Ok found) e h = ap Ok (civil_of-injective found ts (h.0 ∙ sym e))
time_answer c ts (Err Form) e h = absurd (h (subst IsCivil e (civil_of-is ts)))
time_answer c ts (Err Range) e h = absurd (not_early ts (subst (λ c. c.date.year < 1970) (sym e) h.1))

pub early_answer : (c : Civil) (result : Result ℕ TimeFault) → IsCivil c → c.date.year < 1970 → TimestampOf c result → result ≡ Err Range
early_answer c (Ok found) is early h = absurd (not_early found (subst (λ c. c.date.year < 1970) (sym h.0) early))
early_answer c (Err Form) is early h = absurd (h is)
early_answer c (Err Range) is early h = refl

pub answer_ok : (text : List ℕ) (result : Result ℕ TimeFault) (ts : ℕ) → Answers (year_at text) result → SpellsTime text ts → result ≡ Ok ts
answer_ok text result ts h (u, s) =
    time_answer (civil_of ts) ts result refl (subst (λ o. Answers o result) (time_reads text u ts s) h)

answer_range : (text : List ℕ) (result : Result ℕ TimeFault) → Answers (year_at text) result → SpellsEarly text → result ≡ Err Range
answer_range text result h s =
    let short = early_short s.civil s.is_civil s.early in
    let is = cut_is s.unit s.civil s.is_civil in
    let early : (cut s.unit s.civil).date.year < 1970 = rw is.1 s.early in
    early_answer (cut s.unit s.civil) result is.0 early (subst (λ o. Answers o result) (spelled_reads text s.unit s.civil short s.spells) h)

ok_answer : (text : List ℕ) (result : Result ℕ TimeFault) (ts : ℕ) → Answers (year_at text) result → result ≡ Ok ts → SpellsTime text ts
ok_answer text result ts h e = ok_spells text (year_at text) ts refl (subst (Answers (year_at text)) e h)

range_answer : (text : List ℕ) (result : Result ℕ TimeFault) → Answers (year_at text) result → result ≡ Err Range → SpellsEarly text
range_answer text result h e = range_spells text (year_at text) refl (subst (Answers (year_at text)) e h)

form_answer : (text : List ℕ) (result : Result ℕ TimeFault) → Answers (year_at text) result → result ≡ Err Form → IsNoTime text
form_answer text result h e =
    (λ ts s. let other = answer_ok text result ts h s in cc, λ s. let other = answer_range text result h s in cc)

answer_form : (text : List ℕ) (result : Result ℕ TimeFault) → Answers (year_at text) result → IsNoTime text → result ≡ Err Form
answer_form text (Ok ts) h none = absurd (none.0 ts (ok_answer text (Ok ts) ts h refl))
answer_form text (Err Form) h none = refl
answer_form text (Err Range) h none = absurd (none.1 (range_answer text (Err Range) h refl))

-- each answer is given exactly where the text spells it
pub is_ok : (text : List ℕ) (result : Result ℕ TimeFault) → Answers (year_at text) result → (ts : ℕ) → (result ≡ Ok ts) ↔ SpellsTime text ts
is_ok text result h ts = (ok_answer text result ts h, answer_ok text result ts h)

pub is_range : (text : List ℕ) (result : Result ℕ TimeFault) → Answers (year_at text) result → (result ≡ Err Range) ↔ SpellsEarly text
is_range text result h = (range_answer text result h, answer_range text result h)

pub is_form : (text : List ℕ) (result : Result ℕ TimeFault) → Answers (year_at text) result → (result ≡ Err Form) ↔ IsNoTime text
is_form text result h = (form_answer text result h, answer_form text result h)

-- a printed moment spells itself
pub printed_spells : (ts : ℕ) → ts ≤ MAX_TIME → SpellsTime (time_text ts) ts
printed_spells ts h = (
  Micro,
  record {
    spells = record { mark = 84; zone = 90 ∷ []; mark_is = inl refl; zone_is = inr refl; text_is = refl };
    first = refl;
    in_range = h;
  },
)

no_zone : (u : TimeUnit) → IsZone u []
no_zone Micro = inl refl
no_zone Milli = inl refl
no_zone Second = inl refl
no_zone Minute = inl refl
no_zone Hour = inl refl
no_zone Day = refl
no_zone Month = refl
no_zone Year = refl

-- texts that are alike as far as a unit are of moments of one unit
pub text_to-apart : (u : TimeUnit) (a b : ℕ) → a ≤ MAX_TIME → b ≤ MAX_TIME → text_to u 84 (civil_of a) ≡ text_to u 84 (civil_of b) → start_of u a ≡ start_of u b
text_to-apart u a b ha hb e =
    let read = λ (ts : ℕ) (h : ts ≤ MAX_TIME). spelled_reads (text_to u 84 (civil_of ts)) u (civil_of ts) (civil_of-short ts h) (record { mark = 84; zone = []; mark_is = inl refl; zone_is = no_zone u; text_is = sym (append-nil (text_to u 84 (civil_of ts))) }) in
    let same = sym (read a ha) ∙ ap year_at e ∙ read b hb in
    let cuts : cut u (civil_of a) ≡ cut u (civil_of b) = ap (λ r. r.civil) (same_Some _ _ same) in
    civil_of-injective (start_of u a) (start_of u b) (civil_of-start_of u a ∙ cuts ∙ sym (civil_of-start_of u b))
