-- What the readers find is what a text spells: each reading spells its text, and each spelling is
-- read.
use Rattle.std.proofs.Common.{ℕ, ◌+◌, ◌*◌, ◌/◌, ◌%◌, ◌^◌, ◌<◌, ◌≡◌, ◌⊎◌, inl, inr, false, ◌==◌, cond, Option, Some, None, List, [], ◌∷◌, ◌++◌, refl, sym, ap, ◌∙◌, arith, subst}
use Rattle.std.proofs.lemmas.Bool.{cases_Bool, eqb-true}
use Rattle.std.proofs.lemmas.Option.{same_Some}
use Rattle.qd_time.specs.Calendar.{Civil}
use Rattle.qd_time.specs.Printed.{digits, text_to}
use Rattle.qd_time.specs.Spelled.{IsMark, IsZone}
use Rattle.qd_time.specs.Reading.{◌>>=◌, Number, Read, read_as, goes_on, ends_at, after_zone, two_at, three_at, four_at, digit_at, fraction_at, micros_at, second_at, after_second, minute_at, after_minute, hour_at, after_hour, day_at, after_day, month_at, after_month, year_at, after_year, year_start, with_month, with_day}
use Rattle.qd_base.specs.declared.unit.TimeUnit.{TimeUnit}
use Rattle.qd_base.specs.declared.unit.TimeUnit.TheVariants.{Micro, Milli, Second, Minute, Hour, Day, Month, Year}
use Rattle.qd_time.proofs.DigitLemmas.{bind-some, two_at-digits, two_at-some, three_at-digits, three_at-some, four_at-digits, four_at-some}

-- a moment from its parts
abbrev pub at : ℕ → ℕ → ℕ → ℕ → ℕ → ℕ → ℕ → Civil
at y m d hour minute second micro = record { date = record { year = y; month = m; day = d }; hour = hour; minute = minute; second = second; micro = micro }

-- the first moment that is spelled alike as far as the unit
abbrev pub cut : TimeUnit → Civil → Civil
cut Year c = at c.date.year 1 1 0 0 0 0
cut Month c = at c.date.year c.date.month 1 0 0 0 0
cut Day c = at c.date.year c.date.month c.date.day 0 0 0 0
cut Hour c = at c.date.year c.date.month c.date.day c.hour 0 0 0
cut Minute c = at c.date.year c.date.month c.date.day c.hour c.minute 0 0
cut Second c = at c.date.year c.date.month c.date.day c.hour c.minute c.second 0
cut Milli c = at c.date.year c.date.month c.date.day c.hour c.minute c.second (c.micro / 1000 * 1000)
cut Micro c = c

-- what a reading says of its text
pub record Found (text : List ℕ) (r : Read) : Type 0 where
  pub mark : ℕ
  pub zone : List ℕ
  pub mark_is : IsMark mark
  pub zone_is : IsZone r.unit zone
  pub text_is : text ≡ text_to r.unit mark r.civil ++ (zone ++ r.rest)
  pub least : cut r.unit r.civil ≡ r.civil
  pub year_high : r.civil.date.year < 10 ^ 4
  pub month_high : r.civil.date.month < 10 ^ 2
  pub day_high : r.civil.date.day < 10 ^ 2
  pub micro_high : r.civil.micro < 10 ^ 6

-- a text goes on after its mark, or ends
goes_on-some : (mark : ℕ) (next ends : List ℕ → Option Read) (t : List ℕ) (r : Read) → goes_on mark next ends t ≡ Some r → ((t₂ : List ℕ) × (t ≡ mark ∷ t₂) × (next t₂ ≡ Some r)) ⊎ (ends t ≡ Some r)
goes_on-some mark next ends [] r e = inr e
goes_on-some mark next ends (b ∷ rest) r e =
    elim (cases_Bool (b == mark)) [
      | inl is ↦ inl (rest, ap (λ n. n ∷ rest) (eqb-true b mark is), sym (ap (λ t. cond t (next rest) (ends (b ∷ rest))) is) ∙ e)
      | inr apart ↦ inr (sym (ap (λ t. cond t (next rest) (ends (b ∷ rest))) apart) ∙ e)
    ]

-- what may stand after a time of day
abbrev IsAnyZone : List ℕ → Type 0
IsAnyZone zone = (zone ≡ []) ⊎ (zone ≡ 90 ∷ [])

zone_text : (t : List ℕ) → (zone : List ℕ) × IsAnyZone zone × (t ≡ zone ++ after_zone t)
zone_text [] = ([], inl refl, refl)
zone_text (b ∷ rest) =
    elim (cases_Bool (b == 90)) [
      | inl is ↦ (90 ∷ [], inr refl, ap (λ n. n ∷ rest) (eqb-true b 90 is) ∙ ap (λ t. 90 ∷ t) (sym (ap (λ t. cond t rest (b ∷ rest)) is)))
      | inr apart ↦ ([], inl refl, sym (ap (λ t. cond t rest (b ∷ rest)) apart))
    ]

-- the text so far, before a part and what follows it
abbrev pub before_month : ℕ → List ℕ → List ℕ
before_month y t = digits 4 y ++ (45 ∷ t)

abbrev pub before_day : ℕ → ℕ → List ℕ → List ℕ
before_day y m t = before_month y (digits 2 m ++ (45 ∷ t))

abbrev pub before_hour : ℕ → ℕ → ℕ → ℕ → List ℕ → List ℕ
before_hour mark y m d t = before_day y m (digits 2 d ++ (mark ∷ t))

abbrev pub before_minute : ℕ → ℕ → ℕ → ℕ → ℕ → List ℕ → List ℕ
before_minute mark y m d h t = before_hour mark y m d (digits 2 h ++ (58 ∷ t))

abbrev pub before_second : ℕ → ℕ → ℕ → ℕ → ℕ → ℕ → List ℕ → List ℕ
before_second mark y m d h n t = before_minute mark y m d h (digits 2 n ++ (58 ∷ t))

abbrev pub before_fraction : ℕ → ℕ → ℕ → ℕ → ℕ → ℕ → ℕ → List ℕ → List ℕ
before_fraction mark y m d h n s t = before_second mark y m d h n (digits 2 s ++ (46 ∷ t))

six_digits_of : (a b : ℕ) → a < 10 ^ 3 → b < 10 ^ 3 → digits 6 (a * 1000 + b) ≡ digits 3 a ++ digits 3 b
six_digits_of a b ha hb =
    let n = a * 1000 + b in
    let d5 : n / 10 ^ 5 ≡ a / 10 ^ 2 = omega arith in
    let d4 : n % 10 ^ 5 / 10 ^ 4 ≡ a % 10 ^ 2 / 10 ^ 1 = omega arith in
    let d3 : n % 10 ^ 5 % 10 ^ 4 / 10 ^ 3 ≡ a % 10 ^ 2 % 10 ^ 1 / 10 ^ 0 = omega arith in
    let low : n % 10 ^ 5 % 10 ^ 4 % 10 ^ 3 ≡ b = omega arith in
    rw (d5, d4, d3, low)

-- the year, the month, the day and the fraction fit their digits
abbrev FitDigits : Civil → Type 0
FitDigits c = (c.date.year < 10 ^ 4) × (c.date.month < 10 ^ 2) × (c.date.day < 10 ^ 2) × (c.micro < 10 ^ 6)

-- a text that is spelled as far as a unit, and ends there
found_end : (text : List ℕ) (u : TimeUnit) (c : Civil) (mark : ℕ) (zone rest : List ℕ) (r : Read) → IsMark mark → IsZone u zone → cut u c ≡ c → FitDigits c → text ≡ text_to u mark c ++ (zone ++ rest) → read_as u c rest ≡ Some r → Found text r
found_end text u c mark zone rest r mark_is zone_is least fit e ends =
    subst (Found text) (same_Some _ r ends) (record {
      mark = mark;
      zone = zone;
      mark_is = mark_is;
      zone_is = zone_is;
      text_is = e;
      least = least;
      year_high = fit.0;
      month_high = fit.1;
      day_high = fit.2;
      micro_high = fit.3;
    })

-- and with a `Z` that may stand there
found_zone : (text : List ℕ) (u : TimeUnit) (c : Civil) (mark : ℕ) (t : List ℕ) (r : Read) → IsMark mark → ((zone : List ℕ) → IsAnyZone zone → IsZone u zone) → cut u c ≡ c → FitDigits c → text ≡ text_to u mark c ++ t → ends_at u c t ≡ Some r → Found text r
found_zone text u c mark t r mark_is zoned least fit e ends =
    let z = zone_text t in
    found_end text u c mark z.0 (after_zone t) r mark_is (zoned z.0 z.1) least fit (e ∙ ap (λ x. text_to u mark c ++ x) z.2) ends

module _ (text : List ℕ) (y : ℕ) (year_high : y < 10 ^ 4) where
  module _ (m d mark : ℕ) (month_high : m < 10 ^ 2) (day_high : d < 10 ^ 2) (mark_is : IsMark mark) where
    found_milli : (h n s a : ℕ) (t : List ℕ) (r : Read) → a < 10 ^ 3 → text ≡ before_fraction mark y m d h n s (digits 3 a ++ t) → ends_at Milli (at y m d h n s (a * 1000)) t ≡ Some r → Found text r
    found_milli h n s a t r ha e ends =
        let back : a * 1000 / 1000 ≡ a = omega arith in
        let spelled = e ∙ ap (λ k. before_fraction mark y m d h n s (digits 3 k ++ t)) (sym back) in
        found_zone text Milli (at y m d h n s (a * 1000)) mark t r mark_is (λ zone z. z) (ap (λ k. at y m d h n s (k * 1000)) back) (year_high, month_high, day_high, omega arith) spelled ends

    found_micro : (h n s a b : ℕ) (t : List ℕ) (r : Read) → a < 10 ^ 3 → b < 10 ^ 3 → text ≡ before_fraction mark y m d h n s (digits 3 a ++ (digits 3 b ++ t)) → ends_at Micro (at y m d h n s (a * 1000 + b)) t ≡ Some r → Found text r
    found_micro h n s a b t r ha hb e ends =
        let spelled = e ∙ ap (λ k. before_fraction mark y m d h n s (k ++ t)) (sym (six_digits_of a b ha hb)) in
        found_zone text Micro (at y m d h n s (a * 1000 + b)) mark t r mark_is (λ zone z. z) refl (year_high, month_high, day_high, omega arith) spelled ends

    found_low : (h n s : ℕ) (high : Number) (o : Option Number) (r : Read) → high.0 < 10 ^ 3 → text ≡ before_fraction mark y m d h n s (digits 3 high.0 ++ high.1) → three_at high.1 ≡ o → micros_at (at y m d h n s 0) high o ≡ Some r → Found text r
    found_low h n s high None r ha e low ends = found_milli h n s high.0 high.1 r ha e ends
    found_low h n s high (Some b) r ha e low ends =
        let is = three_at-some high.1 b low in
        found_micro h n s high.0 b.0 b.1 r ha is.0 (e ∙ ap (λ x. before_fraction mark y m d h n s (digits 3 high.0 ++ x)) is.1) ends

    found_fraction : (h n s : ℕ) (t : List ℕ) (r : Read) → text ≡ before_fraction mark y m d h n s t → fraction_at (at y m d h n s 0) t ≡ Some r → Found text r
    unfolding fraction_at
    found_fraction h n s t r e reads =
        let x = bind-some (three_at t) (λ high. micros_at (at y m d h n s 0) high (three_at high.1)) r reads in
        let is = three_at-some t x.0 x.1 in
        found_low h n s x.0 (three_at x.0.1) r is.0 (e ∙ ap (before_fraction mark y m d h n s) is.1) refl x.2

    found_second : (h n : ℕ) (t : List ℕ) (r : Read) → text ≡ before_second mark y m d h n t → second_at (at y m d h n 0 0) t ≡ Some r → Found text r
    unfolding second_at
    found_second h n t r e reads =
        let x = bind-some (two_at t) (λ k. after_second (at y m d h n k.0 0) k.1) r reads in
        let is = two_at-some t x.0 x.1 in
        let so_far = e ∙ ap (before_second mark y m d h n) is.1 in
        elim (goes_on-some 46 (fraction_at (at y m d h n x.0.0 0)) (ends_at Second (at y m d h n x.0.0 0)) x.0.1 r x.2) [
          | inl (t₂, goes, reads₂) ↦ found_fraction h n x.0.0 t₂ r (so_far ∙ ap (λ k. before_second mark y m d h n (digits 2 x.0.0 ++ k)) goes) reads₂
          | inr ends ↦ found_zone text Second (at y m d h n x.0.0 0) mark x.0.1 r mark_is (λ zone z. z) refl (year_high, month_high, day_high, omega arith) so_far ends
        ]

    found_minute : (h : ℕ) (t : List ℕ) (r : Read) → text ≡ before_minute mark y m d h t → minute_at (at y m d h 0 0 0) t ≡ Some r → Found text r
    unfolding minute_at
    found_minute h t r e reads =
        let x = bind-some (two_at t) (λ k. after_minute (at y m d h k.0 0 0) k.1) r reads in
        let is = two_at-some t x.0 x.1 in
        let so_far = e ∙ ap (before_minute mark y m d h) is.1 in
        elim (goes_on-some 58 (second_at (at y m d h x.0.0 0 0)) (ends_at Minute (at y m d h x.0.0 0 0)) x.0.1 r x.2) [
          | inl (t₂, goes, reads₂) ↦ found_second h x.0.0 t₂ r (so_far ∙ ap (λ k. before_minute mark y m d h (digits 2 x.0.0 ++ k)) goes) reads₂
          | inr ends ↦ found_zone text Minute (at y m d h x.0.0 0 0) mark x.0.1 r mark_is (λ zone z. z) refl (year_high, month_high, day_high, omega arith) so_far ends
        ]

    found_hour : (t : List ℕ) (r : Read) → text ≡ before_hour mark y m d t → hour_at (at y m d 0 0 0 0) t ≡ Some r → Found text r
    unfolding hour_at
    found_hour t r e reads =
        let x = bind-some (two_at t) (λ k. after_hour (at y m d k.0 0 0 0) k.1) r reads in
        let is = two_at-some t x.0 x.1 in
        let so_far = e ∙ ap (before_hour mark y m d) is.1 in
        elim (goes_on-some 58 (minute_at (at y m d x.0.0 0 0 0)) (ends_at Hour (at y m d x.0.0 0 0 0)) x.0.1 r x.2) [
          | inl (t₂, goes, reads₂) ↦ found_minute x.0.0 t₂ r (so_far ∙ ap (λ k. before_hour mark y m d (digits 2 x.0.0 ++ k)) goes) reads₂
          | inr ends ↦ found_zone text Hour (at y m d x.0.0 0 0 0) mark x.0.1 r mark_is (λ zone z. z) refl (year_high, month_high, day_high, omega arith) so_far ends
        ]

  found_day : (m : ℕ) (t : List ℕ) (r : Read) → m < 10 ^ 2 → text ≡ before_day y m t → day_at (at y m 1 0 0 0 0) t ≡ Some r → Found text r
  unfolding day_at
  found_day m t r month_high e reads =
      let x = bind-some (two_at t) (λ k. after_day (at y m k.0 0 0 0 0) k.1) r reads in
      let is = two_at-some t x.0 x.1 in
      let so_far = e ∙ ap (before_day y m) is.1 in
      let c = at y m x.0.0 0 0 0 0 in
      elim (goes_on-some 84 (hour_at c) (goes_on 32 (hour_at c) (read_as Day c)) x.0.1 r x.2) [
        | inl (t₂, goes, reads₂) ↦ found_hour m x.0.0 84 month_high is.0 (inl refl) t₂ r (so_far ∙ ap (λ k. before_day y m (digits 2 x.0.0 ++ k)) goes) reads₂
        | inr other ↦ elim (goes_on-some 32 (hour_at c) (read_as Day c) x.0.1 r other) [
          | inl (t₂, goes, reads₂) ↦ found_hour m x.0.0 32 month_high is.0 (inr refl) t₂ r (so_far ∙ ap (λ k. before_day y m (digits 2 x.0.0 ++ k)) goes) reads₂
          | inr ends ↦ found_end text Day c 84 [] x.0.1 r (inl refl) refl refl (year_high, month_high, is.0, omega arith) so_far ends
        ]
      ]

  found_month : (t : List ℕ) (r : Read) → text ≡ before_month y t → month_at (at y 1 1 0 0 0 0) t ≡ Some r → Found text r
  unfolding month_at
  found_month t r e reads =
      let x = bind-some (two_at t) (λ k. after_month (at y k.0 1 0 0 0 0) k.1) r reads in
      let is = two_at-some t x.0 x.1 in
      let so_far = e ∙ ap (before_month y) is.1 in
      let c = at y x.0.0 1 0 0 0 0 in
      elim (goes_on-some 45 (day_at c) (read_as Month c) x.0.1 r x.2) [
        | inl (t₂, goes, reads₂) ↦ found_day x.0.0 t₂ r is.0 (so_far ∙ ap (λ k. before_month y (digits 2 x.0.0 ++ k)) goes) reads₂
        | inr ends ↦ found_end text Month c 84 [] x.0.1 r (inl refl) refl refl (year_high, is.0, omega arith, omega arith) so_far ends
      ]

-- what is read spells the text before what is left of it
pub found_year : (text : List ℕ) (r : Read) → year_at text ≡ Some r → Found text r
unfolding year_at
found_year text r reads =
    let x = bind-some (four_at text) (λ k. after_year (year_start k.0) k.1) r reads in
    let is = four_at-some text x.0 x.1 in
    let c = year_start x.0.0 in
    elim (goes_on-some 45 (month_at c) (read_as Year c) x.0.1 r x.2) [
      | inl (t₂, goes, reads₂) ↦ found_month text x.0.0 is.0 t₂ r (is.1 ∙ ap (λ k. digits 4 x.0.0 ++ k) goes) reads₂
      | inr ends ↦ found_end text Year c 84 [] x.0.1 r (inl refl) refl refl (is.0, omega arith, omega arith, omega arith) is.1 ends
    ]

-- what may follow a moment's text: nothing, or a suffix
abbrev pub IsStop : List ℕ → Type 0
IsStop rest = (rest ≡ []) ⊎ ((t : List ℕ) × (rest ≡ 59 ∷ t))

-- a text that stops doesn't go on
goes_on-stops : (mark : ℕ) (next ends : List ℕ → Option Read) (rest : List ℕ) → (59 == mark) ≡ false → IsStop rest → goes_on mark next ends rest ≡ ends rest
goes_on-stops mark next ends rest h (inl e) = rw e refl
goes_on-stops mark next ends rest h (inr (t, e)) = rw e (ap (λ b. cond b (next t) (ends (59 ∷ t))) h)

goes_on-ends : (mark : ℕ) (next : List ℕ → Option Read) (u : TimeUnit) (c : Civil) (zone rest : List ℕ) → (59 == mark) ≡ false → (90 == mark) ≡ false → IsAnyZone zone → IsStop rest → goes_on mark next (ends_at u c) (zone ++ rest) ≡ read_as u c rest
goes_on-ends mark next u c zone rest h k (inl none) stop =
    let ends : ends_at u c rest ≡ read_as u c rest = elim stop [ inl e ↦ rw e refl | inr (t, e) ↦ rw e refl ] in
    rw none (goes_on-stops mark next (ends_at u c) rest h stop ∙ ends)
goes_on-ends mark next u c zone rest h k (inr z) stop = rw z (ap (λ b. cond b (next rest) (ends_at u c (90 ∷ rest))) k)

year_at-step : (y : ℕ) (t : List ℕ) → y < 10 ^ 4 → year_at (digits 4 y ++ t) ≡ after_year (year_start y) t
unfolding year_at
year_at-step y t h = ap (λ o. o >>= λ n. after_year (year_start n.0) n.1) (four_at-digits y t h)

month_at-step : (c : Civil) (n : ℕ) (t : List ℕ) → n < 10 ^ 2 → month_at c (digits 2 n ++ t) ≡ after_month (with_month c n) t
unfolding month_at
month_at-step c n t h = ap (λ o. o >>= λ k. after_month (with_month c k.0) k.1) (two_at-digits n t h)

day_at-step : (c : Civil) (n : ℕ) (t : List ℕ) → n < 10 ^ 2 → day_at c (digits 2 n ++ t) ≡ after_day (with_day c n) t
unfolding day_at
day_at-step c n t h = ap (λ o. o >>= λ k. after_day (with_day c k.0) k.1) (two_at-digits n t h)

hour_at-step : (c : Civil) (n : ℕ) (t : List ℕ) → n < 10 ^ 2 → hour_at c (digits 2 n ++ t) ≡ after_hour (record c { hour = n }) t
unfolding hour_at
hour_at-step c n t h = ap (λ o. o >>= λ k. after_hour (record c { hour = k.0 }) k.1) (two_at-digits n t h)

minute_at-step : (c : Civil) (n : ℕ) (t : List ℕ) → n < 10 ^ 2 → minute_at c (digits 2 n ++ t) ≡ after_minute (record c { minute = n }) t
unfolding minute_at
minute_at-step c n t h = ap (λ o. o >>= λ k. after_minute (record c { minute = k.0 }) k.1) (two_at-digits n t h)

second_at-step : (c : Civil) (n : ℕ) (t : List ℕ) → n < 10 ^ 2 → second_at c (digits 2 n ++ t) ≡ after_second (record c { second = n }) t
unfolding second_at
second_at-step c n t h = ap (λ o. o >>= λ k. after_second (record c { second = k.0 }) k.1) (two_at-digits n t h)

fraction_at-step : (c : Civil) (n : ℕ) (t : List ℕ) → n < 10 ^ 3 → fraction_at c (digits 3 n ++ t) ≡ micros_at c (n, t) (three_at t)
unfolding fraction_at
fraction_at-step c n t h = ap (λ o. o >>= λ k. micros_at c k (three_at k.1)) (three_at-digits n t h)

-- no digit begins what may follow a moment's text
three_at-stops : (zone rest : List ℕ) → IsAnyZone zone → IsStop rest → three_at (zone ++ rest) ≡ None
unfolding three_at digit_at
three_at-stops zone rest (inl none) (inl e) = rw (none, e) refl
three_at-stops zone rest (inl none) (inr (t, e)) = rw (none, e) refl
three_at-stops zone rest (inr z) stop = rw z refl

ends_at-stops : (u : TimeUnit) (c : Civil) (zone rest : List ℕ) → IsAnyZone zone → IsStop rest → ends_at u c (zone ++ rest) ≡ read_as u c rest
ends_at-stops u c zone rest (inl none) (inl e) = rw (none, e) refl
ends_at-stops u c zone rest (inl none) (inr (t, e)) = rw (none, e) refl
ends_at-stops u c zone rest (inr z) stop = rw z refl

-- the parts fit their digits
pub record IsShort (c : Civil) : Type 0 where
  pub year_high : c.date.year < 10 ^ 4
  pub month_high : c.date.month < 10 ^ 2
  pub day_high : c.date.day < 10 ^ 2
  pub hour_high : c.hour < 10 ^ 2
  pub minute_high : c.minute < 10 ^ 2
  pub second_high : c.second < 10 ^ 2
  pub micro_high : c.micro < 10 ^ 6

module _ (c : Civil) (short : IsShort c) where
  -- the date alone is read so far
  read_month : (t : List ℕ) → year_at (before_month c.date.year t) ≡ month_at (cut Year c) t
  read_month t = year_at-step c.date.year (45 ∷ t) short.year_high

  read_day : (t : List ℕ) → year_at (before_day c.date.year c.date.month t) ≡ day_at (cut Month c) t
  read_day t =
      read_month (digits 2 c.date.month ++ (45 ∷ t))
      ∙ month_at-step (cut Year c) c.date.month (45 ∷ t) short.month_high

  read_hour : (mark : ℕ) (t : List ℕ) → IsMark mark → year_at (before_hour mark c.date.year c.date.month c.date.day t) ≡ hour_at (cut Day c) t
  read_hour mark t is =
      read_day (digits 2 c.date.day ++ (mark ∷ t))
      ∙ day_at-step (cut Month c) c.date.day (mark ∷ t) short.day_high
      ∙ elim is [ inl e ↦ rw e refl | inr e ↦ rw e refl ]

  read_minute : (mark : ℕ) (t : List ℕ) → IsMark mark → year_at (before_minute mark c.date.year c.date.month c.date.day c.hour t) ≡ minute_at (cut Hour c) t
  read_minute mark t is =
      read_hour mark (digits 2 c.hour ++ (58 ∷ t)) is
      ∙ hour_at-step (cut Day c) c.hour (58 ∷ t) short.hour_high

  read_second : (mark : ℕ) (t : List ℕ) → IsMark mark → year_at (before_second mark c.date.year c.date.month c.date.day c.hour c.minute t) ≡ second_at (cut Minute c) t
  read_second mark t is =
      read_minute mark (digits 2 c.minute ++ (58 ∷ t)) is
      ∙ minute_at-step (cut Hour c) c.minute (58 ∷ t) short.minute_high

  read_fraction : (mark : ℕ) (t : List ℕ) → IsMark mark → year_at (before_fraction mark c.date.year c.date.month c.date.day c.hour c.minute c.second t) ≡ fraction_at (cut Second c) t
  read_fraction mark t is =
      read_second mark (digits 2 c.second ++ (46 ∷ t)) is
      ∙ second_at-step (cut Minute c) c.second (46 ∷ t) short.second_high

  -- each spelling is read as far as it goes
  pub reads : (u : TimeUnit) (mark : ℕ) (zone rest : List ℕ) → IsMark mark → IsZone u zone → IsStop rest → year_at (text_to u mark c ++ (zone ++ rest)) ≡ read_as u (cut u c) rest
  reads Year mark zone rest is z stop =
      rw z (year_at-step c.date.year rest short.year_high
      ∙ goes_on-stops 45 (month_at (cut Year c)) (read_as Year (cut Year c)) rest refl stop)
  reads Month mark zone rest is z stop =
      rw z (read_month (digits 2 c.date.month ++ rest)
      ∙ month_at-step (cut Year c) c.date.month rest short.month_high
      ∙ goes_on-stops 45 (day_at (cut Month c)) (read_as Month (cut Month c)) rest refl stop)
  reads Day mark zone rest is z stop =
      rw z (read_day (digits 2 c.date.day ++ rest)
      ∙ day_at-step (cut Month c) c.date.day rest short.day_high
      ∙ goes_on-stops 84 (hour_at (cut Day c)) (goes_on 32 (hour_at (cut Day c)) (read_as Day (cut Day c))) rest refl stop
      ∙ goes_on-stops 32 (hour_at (cut Day c)) (read_as Day (cut Day c)) rest refl stop)
  reads Hour mark zone rest is z stop =
      read_hour mark (digits 2 c.hour ++ (zone ++ rest)) is
      ∙ hour_at-step (cut Day c) c.hour (zone ++ rest) short.hour_high
      ∙ goes_on-ends 58 (minute_at (cut Hour c)) Hour (cut Hour c) zone rest refl refl z stop
  reads Minute mark zone rest is z stop =
      read_minute mark (digits 2 c.minute ++ (zone ++ rest)) is
      ∙ minute_at-step (cut Hour c) c.minute (zone ++ rest) short.minute_high
      ∙ goes_on-ends 58 (second_at (cut Minute c)) Minute (cut Minute c) zone rest refl refl z stop
  reads Second mark zone rest is z stop =
      read_second mark (digits 2 c.second ++ (zone ++ rest)) is
      ∙ second_at-step (cut Minute c) c.second (zone ++ rest) short.second_high
      ∙ goes_on-ends 46 (fraction_at (cut Second c)) Second (cut Second c) zone rest refl refl z stop
  reads Milli mark zone rest is z stop =
      read_fraction mark (digits 3 (c.micro / 1000) ++ (zone ++ rest)) is
      ∙ fraction_at-step (cut Second c) (c.micro / 1000) (zone ++ rest) (omega (arith, short.micro_high))
      ∙ ap (micros_at (cut Second c) (c.micro / 1000, zone ++ rest)) (three_at-stops zone rest z stop)
      ∙ ends_at-stops Milli (cut Milli c) zone rest z stop
  reads Micro mark zone rest is z stop =
      let high = c.micro / 1000 in
      let low = c.micro % 1000 in
      let whole : high * 1000 + low ≡ c.micro = omega arith in
      let six : digits 6 c.micro ≡ digits 3 high ++ digits 3 low = ap (digits 6) (sym whole) ∙ six_digits_of high low (omega (arith, short.micro_high)) (omega arith) in
      ap (λ k. year_at (before_fraction mark c.date.year c.date.month c.date.day c.hour c.minute c.second (k ++ (zone ++ rest)))) six
      ∙ read_fraction mark (digits 3 high ++ (digits 3 low ++ (zone ++ rest))) is
      ∙ fraction_at-step (cut Second c) high (digits 3 low ++ (zone ++ rest)) (omega (arith, short.micro_high))
      ∙ ap (micros_at (cut Second c) (high, digits 3 low ++ (zone ++ rest))) (three_at-digits low (zone ++ rest) (omega arith))
      ∙ ends_at-stops Micro (record c { micro = high * 1000 + low }) zone rest z stop
      ∙ ap (λ k. read_as Micro (record c { micro = k }) rest) whole
