-- An interval's answer is what the text spells.
use Rattle.std.proofs.Common.{◌↔◌, ℕ, ◌+◌, ◌-◌, ◌*◌, ◌<◌, ◌≤◌, ◌≡◌, inl, inr, min, nat_lt, cond, Option, Some, None, Result, Ok, Err, List, ◌++◌, refl, sym, ap, ◌∙◌, arith, subst, append_assoc}
use Rattle.std.proofs.lemmas.Bool.{cases_Bool, lt-ltb, ltb-true, le-ltb}
use Rattle.std.proofs.lemmas.Bool.Decides.{nat_tests}
use Rattle.qd_base.specs.declared.limits.TheConstants.{MAX_SUFFIX_COUNT, MAX_TIME}
use Rattle.qd_time.specs.Calendar.{Civil, civil_of}
use Rattle.qd_time.specs.Fields.{TimestampOf}
use Rattle.qd_time.specs.Printed.{text_to}
use Rattle.qd_time.specs.Reading.{Read, read_as, year_at, suffix_at, interval_of, IsInterval, AnswersInterval}
use Rattle.qd_time.specs.Spelled.{Spells, SpellsAs, SpellsEarly, Suffix, none, later, suffix_text, IsSuffix, suffix_count, suffix_micros, SpellsInterval, SpellsOutside, IsNoInterval}
use Rattle.qd_time.specs.Units.{end_of}
use Rattle.qd_time.specs.declared.fault.TimeFault.{TimeFault}
use Rattle.qd_time.specs.declared.fault.TimeFault.TheVariants.{Form, Range}
use Rattle.qd_base.specs.declared.unit.TimeUnit.{TimeUnit}
use Rattle.qd_time.proofs.ReadingLemmas.{Found, found_year, reads, cut, IsShort, IsStop}
use Rattle.qd_time.proofs.CivilLemmas.{civil_of-short, civil_of-start_of}
use Rattle.qd_time.proofs.ParseLemmas.{early_short, cut_is, time_answer, early_answer, found_first}
use Rattle.qd_time.proofs.SuffixLemmas.{FoundSuffix, suffix_at-some, suffix_reads, span_of}

suffix_stops : (s : Suffix) → IsStop (suffix_text s)
suffix_stops none = inl refl
suffix_stops (later number span) = inr (_, refl)

-- a spelled text and its suffix are read apart
reads_apart : (text base : List ℕ) (s : Suffix) (u : TimeUnit) (c : Civil) → IsShort c → Spells base u c → text ≡ base ++ suffix_text s → year_at text ≡ read_as u (cut u c) (suffix_text s)
reads_apart text base s u c short spells e =
    ap year_at (e ∙ ap (λ b. b ++ suffix_text s) spells.text_is ∙ append_assoc (text_to u spells.mark c) spells.zone (suffix_text s))
    ∙ reads c short u spells.mark spells.zone (suffix_text s) spells.mark_is spells.zone_is (suffix_stops s)

-- what is read with a suffix
IsRead : TimeUnit → Civil → Suffix → Result (ℕ × ℕ) TimeFault → Type 0
IsRead u c s result =
    (t : Result ℕ TimeFault) × TimestampOf c t × (result ≡ interval_of u (min (suffix_count s) (MAX_SUFFIX_COUNT + 1), span_of s) t)

answer_read : (text : List ℕ) (s : Suffix) (u : TimeUnit) (c : Civil) (result : Result (ℕ × ℕ) TimeFault) → IsSuffix s → year_at text ≡ read_as u c (suffix_text s) → AnswersInterval (year_at text) result → IsRead u c s result
unfolding IsRead
answer_read text s u c result is e h =
    let r : Read = record { unit = u; civil = c; rest = suffix_text s } in
    let here = subst (λ o. AnswersInterval o result) e h in
    subst (λ o. IsInterval r o result) (suffix_reads s is) here

micros_is : (s : Suffix) → suffix_count s ≤ MAX_SUFFIX_COUNT → min (suffix_count s) (MAX_SUFFIX_COUNT + 1) * span_of s ≡ suffix_micros s
micros_is none h = refl
micros_is (later number span) h =
    let whole : min (suffix_count (later number span)) (MAX_SUFFIX_COUNT + 1) ≡ suffix_count (later number span) = omega arith in
    ap (λ n. n * span_of (later number span)) whole

answer_ok : (text : List ℕ) (result : Result (ℕ × ℕ) TimeFault) (first last : ℕ) → AnswersInterval (year_at text) result → SpellsInterval text first last → result ≡ Ok (first, last)
unfolding IsRead
answer_ok text result first last h s =
    let c = civil_of first in
    let same : cut s.unit c ≡ c = sym (civil_of-start_of s.unit first) ∙ ap civil_of s.spells.first in
    let read = reads_apart text s.base s.suffix s.unit c (civil_of-short first s.spells.in_range) s.spells.spells s.text_is ∙ ap (λ c. read_as s.unit c (suffix_text s.suffix)) same in
    let is = answer_read text s.suffix s.unit c result s.is_suffix read h in
    let t_is = time_answer c first is.0 refl is.1 in
    let n = min (suffix_count s.suffix) (MAX_SUFFIX_COUNT + 1) in
    let few : n ≤ MAX_SUFFIX_COUNT = omega (arith, s.count) in
    let made = λ (micros : ℕ). min (end_of s.unit first - 1 + micros) MAX_TIME in
    is.2 ∙ ap (interval_of s.unit (n, span_of s.suffix)) t_is
    ∙ ap (λ b. cond b (Err Range) (Ok (first, made (n * span_of s.suffix)))) (le-ltb MAX_SUFFIX_COUNT n few)
    ∙ ap (λ m. Ok (first, made m)) (micros_is s.suffix s.count)
    ∙ ap (λ l. Ok (first, l)) (sym s.last_is)

outside_early : (text base : List ℕ) (s : Suffix) (result : Result (ℕ × ℕ) TimeFault) → AnswersInterval (year_at text) result → IsSuffix s → text ≡ base ++ suffix_text s → SpellsEarly base → result ≡ Err Range
unfolding IsRead
outside_early text base s result h is_suffix e early =
    let u = early.unit in
    let c = early.civil in
    let is = cut_is u c early.is_civil in
    let low : (cut u c).date.year < 1970 = rw is.1 early.early in
    let read = reads_apart text base s u c (early_short c early.is_civil early.early) early.spells e in
    let found = answer_read text s u (cut u c) result is_suffix read h in
    found.2 ∙ ap (interval_of u (min (suffix_count s) (MAX_SUFFIX_COUNT + 1), span_of s)) (early_answer (cut u c) found.0 is.0 low found.1)

outside_far : (text base : List ℕ) (s : Suffix) (result : Result (ℕ × ℕ) TimeFault) (u : TimeUnit) (ts : ℕ) → AnswersInterval (year_at text) result → IsSuffix s → text ≡ base ++ suffix_text s → SpellsAs base u ts → MAX_SUFFIX_COUNT < suffix_count s → result ≡ Err Range
unfolding IsRead
outside_far text base s result u ts h is_suffix e spells far =
    let c = civil_of ts in
    let same : cut u c ≡ c = sym (civil_of-start_of u ts) ∙ ap civil_of spells.first in
    let read = reads_apart text base s u c (civil_of-short ts spells.in_range) spells.spells e ∙ ap (λ c. read_as u c (suffix_text s)) same in
    let found = answer_read text s u c result is_suffix read h in
    let n = min (suffix_count s) (MAX_SUFFIX_COUNT + 1) in
    let many : MAX_SUFFIX_COUNT < n = omega arith in
    let last = min (end_of u ts - 1 + n * span_of s) MAX_TIME in
    found.2 ∙ ap (interval_of u (n, span_of s)) (time_answer c ts found.0 refl found.1)
    ∙ ap (λ b. cond b (Err Range) (Ok (ts, last))) (lt-ltb MAX_SUFFIX_COUNT n many)

answer_range : (text : List ℕ) (result : Result (ℕ × ℕ) TimeFault) → AnswersInterval (year_at text) result → SpellsOutside text → result ≡ Err Range
answer_range text result h s =
    elim s.outside [
      | inl early ↦ outside_early text s.base s.suffix result h s.is_suffix s.text_is early
      | inr (ts, (u, spells), far) ↦ outside_far text s.base s.suffix result u ts h s.is_suffix s.text_is spells far
    ]

-- the text before what a reading leaves
abbrev read_base : (text : List ℕ) (r : Read) → Found text r → List ℕ
read_base text r f = text_to r.unit f.mark r.civil ++ f.zone

base_spells : (text : List ℕ) (r : Read) (f : Found text r) → Spells (read_base text r f) r.unit r.civil
base_spells text r f =
    record { mark = f.mark; zone = f.zone; mark_is = f.mark_is; zone_is = f.zone_is; text_is = refl }

base_text : (text : List ℕ) (r : Read) (f : Found text r) (found : ℕ × ℕ) (s : FoundSuffix r.rest found) → text ≡ read_base text r f ++ suffix_text s.suffix
base_text text r f found s =
    f.text_is ∙ sym (append_assoc (text_to r.unit f.mark r.civil) f.zone r.rest) ∙ ap (λ x. read_base text r f ++ x) s.text_is

count_low : (s : Suffix) (n : ℕ) → n ≡ min (suffix_count s) (MAX_SUFFIX_COUNT + 1) → n ≤ MAX_SUFFIX_COUNT → suffix_count s ≤ MAX_SUFFIX_COUNT
count_low s n e h = omega arith

ok_injective : (a b : ℕ × ℕ) (x : Result (ℕ × ℕ) TimeFault) → x ≡ Ok a → x ≡ Ok b → a ≡ b
ok_injective a b x e h = cc

ok_pair : (a b c d : ℕ) (x : Result (ℕ × ℕ) TimeFault) → x ≡ Ok (a, b) → x ≡ Ok (c, d) → (c ≡ a) × (b ≡ d)
ok_pair a b c d x e h =
    let same = ok_injective (c, d) (a, b) x h e in
    (ap (λ q. q.0) same, sym (ap (λ q. q.1) same))

-- what an answer says of its text
found_ok : (text : List ℕ) (r : Read) (f : Found text r) (found : ℕ × ℕ) (s : FoundSuffix r.rest found) (ts first last : ℕ) → TimestampOf r.civil (Ok ts) → Ok (first, last) ≡ interval_of r.unit found (Ok ts) → SpellsInterval text first last
found_ok text r f found s ts first last t e =
    let made = min (end_of r.unit ts - 1 + found.0 * found.1) MAX_TIME in
    elim (cases_Bool (nat_lt MAX_SUFFIX_COUNT found.0)) [
      | inl far ↦ absurd (let bad : Ok (first, last) ≡ Err Range = e ∙ ap (λ b. cond b (Err Range) (Ok (ts, made))) far in cc)
      | inr near ↦
          let shown : Result (ℕ × ℕ) TimeFault = Ok (first, last) in
          let given : Result (ℕ × ℕ) TimeFault = Ok (ts, made) in
          let good : shown ≡ given = e ∙ ap (λ b. cond b (Err Range) (Ok (ts, made))) near in
          let pair = ok_pair first last ts made (Ok (first, last)) refl good in
          let first_is = pair.0 in
          let last_is = pair.1 in
          let few : found.0 ≤ MAX_SUFFIX_COUNT = grind (arith, nat_tests) in
          let low = count_low s.suffix found.0 s.count_is few in
          let moved : found.0 * found.1 ≡ suffix_micros s.suffix = ap (λ n. n * found.1) s.count_is ∙ ap (λ m. min (suffix_count s.suffix) (MAX_SUFFIX_COUNT + 1) * m) s.micros_is ∙ micros_is s.suffix low in
          let spells : SpellsAs (read_base text r f) r.unit ts = record {
            spells = subst (Spells (read_base text r f) r.unit) (sym t.0) (base_spells text r f);
            first = found_first text r ts f t.0;
            in_range = t.1;
          } in
          record {
            base = read_base text r f;
            suffix = s.suffix;
            unit = r.unit;
            text_is = base_text text r f found s;
            is_suffix = s.is_suffix;
            spells = subst (SpellsAs (read_base text r f) r.unit) first_is spells;
            count = low;
            last_is = last_is ∙ ap (λ m. min (end_of r.unit ts - 1 + m) MAX_TIME) moved ∙ ap (λ t. min (end_of r.unit t - 1 + suffix_micros s.suffix) MAX_TIME) first_is;
          }
    ]

ok_with : (text : List ℕ) (r : Read) (o : Option (ℕ × ℕ)) (first last : ℕ) → Found text r → suffix_at r.rest ≡ o → IsInterval r o (Ok (first, last)) → SpellsInterval text first last
ok_with text r None first last f e h = absurd cc
ok_with text r (Some found) first last f e (Ok ts, t, same) =
    found_ok text r f found (suffix_at-some r.rest found e) ts first last t same
ok_with text r (Some found) first last f e (Err fault, t, same) = absurd cc

ok_spells : (text : List ℕ) (o : Option Read) (first last : ℕ) → year_at text ≡ o → AnswersInterval o (Ok (first, last)) → SpellsInterval text first last
ok_spells text None first last e h = absurd cc
ok_spells text (Some r) first last e h = ok_with text r (suffix_at r.rest) first last (found_year text r e) refl h

found_far : (text : List ℕ) (r : Read) (f : Found text r) (found : ℕ × ℕ) (s : FoundSuffix r.rest found) (ts : ℕ) → TimestampOf r.civil (Ok ts) → Err Range ≡ interval_of r.unit found (Ok ts) → SpellsOutside text
found_far text r f found s ts t e =
    let made = min (end_of r.unit ts - 1 + found.0 * found.1) MAX_TIME in
    elim (cases_Bool (nat_lt MAX_SUFFIX_COUNT found.0)) [
      | inl far ↦
          let many : MAX_SUFFIX_COUNT < suffix_count s.suffix = omega (arith, ltb-true MAX_SUFFIX_COUNT found.0 far, s.count_is) in
          let spells : SpellsAs (read_base text r f) r.unit ts = record {
            spells = subst (Spells (read_base text r f) r.unit) (sym t.0) (base_spells text r f);
            first = found_first text r ts f t.0;
            in_range = t.1;
          } in
          record { base = read_base text r f; suffix = s.suffix; text_is = base_text text r f found s; is_suffix = s.is_suffix; outside = inr (ts, (r.unit, spells), many) }
      | inr near ↦ absurd (let bad : Err Range ≡ Ok (ts, made) = e ∙ ap (λ b. cond b (Err Range) (Ok (ts, made))) near in cc)
    ]

range_with : (text : List ℕ) (r : Read) (o : Option (ℕ × ℕ)) → Found text r → suffix_at r.rest ≡ o → IsInterval r o (Err Range) → SpellsOutside text
range_with text r None f e h = absurd cc
range_with text r (Some found) f e (Ok ts, t, same) = found_far text r f found (suffix_at-some r.rest found e) ts t same
range_with text r (Some found) f e (Err Form, t, same) = absurd cc
range_with text r (Some found) f e (Err Range, t, same) =
    let s = suffix_at-some r.rest found e in
    record {
      base = read_base text r f;
      suffix = s.suffix;
      text_is = base_text text r f found s;
      is_suffix = s.is_suffix;
      outside = inl (record { unit = r.unit; civil = r.civil; is_civil = t.0; early = t.1; spells = base_spells text r f });
    }

range_spells : (text : List ℕ) (o : Option Read) → year_at text ≡ o → AnswersInterval o (Err Range) → SpellsOutside text
range_spells text None e h = absurd cc
range_spells text (Some r) e h = range_with text r (suffix_at r.rest) (found_year text r e) refl h

ok_answer : (text : List ℕ) (result : Result (ℕ × ℕ) TimeFault) (first last : ℕ) → AnswersInterval (year_at text) result → result ≡ Ok (first, last) → SpellsInterval text first last
ok_answer text result first last h e =
    ok_spells text (year_at text) first last refl (subst (AnswersInterval (year_at text)) e h)

range_answer : (text : List ℕ) (result : Result (ℕ × ℕ) TimeFault) → AnswersInterval (year_at text) result → result ≡ Err Range → SpellsOutside text
range_answer text result h e =
    range_spells text (year_at text) refl (subst (AnswersInterval (year_at text)) e h)

form_answer : (text : List ℕ) (result : Result (ℕ × ℕ) TimeFault) → AnswersInterval (year_at text) result → result ≡ Err Form → IsNoInterval text
form_answer text result h e =
    (λ first last s. let other = answer_ok text result first last h s in cc, λ s. let other = answer_range text result h s in cc)

answer_form : (text : List ℕ) (result : Result (ℕ × ℕ) TimeFault) → AnswersInterval (year_at text) result → IsNoInterval text → result ≡ Err Form
answer_form text (Ok (first, last)) h never = absurd (never.0 first last (ok_answer text (Ok (first, last)) first last h refl))
answer_form text (Err Form) h never = refl
answer_form text (Err Range) h never = absurd (never.1 (range_answer text (Err Range) h refl))

-- each answer is given exactly where the text spells it
pub is_ok : (text : List ℕ) (result : Result (ℕ × ℕ) TimeFault) → AnswersInterval (year_at text) result → (first last : ℕ) → (result ≡ Ok (first, last)) ↔ SpellsInterval text first last
is_ok text result h first last = (ok_answer text result first last h, answer_ok text result first last h)

pub is_range : (text : List ℕ) (result : Result (ℕ × ℕ) TimeFault) → AnswersInterval (year_at text) result → (result ≡ Err Range) ↔ SpellsOutside text
is_range text result h = (range_answer text result h, answer_range text result h)

pub is_form : (text : List ℕ) (result : Result (ℕ × ℕ) TimeFault) → AnswersInterval (year_at text) result → (result ≡ Err Form) ↔ IsNoInterval text
is_form text result h = (form_answer text result h, answer_form text result h)
