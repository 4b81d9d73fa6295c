-- Reading a suffix gives what it counts, and nothing else.
use Rattle.std.proofs.Common.{ℕ, ◌+◌, ◌-◌, ◌*◌, ◌<◌, ◌≡◌, ◌≢◌, inl, inr, min, false, ◌&&◌, ◌==◌, cond, Some, None, List, [], ◌∷◌, ◌++◌, length, refl, sym, ap, ◌∙◌, arith, subst}
use Rattle.std.specs.Prelude.{nat_le}
use Rattle.std.specs.Char.{digit_value}
use Rattle.std.specs.Int.{IsInRange}
use Rattle.std.specs.Str.Parse.{AllDigits, IsNumeral, digits_value, digits_value_after}
use Rattle.std.proofs.lemmas.Bool.{cases_Bool, eqb-true}
use Rattle.std.proofs.lemmas.Str.{digit_value_digit}
use Rattle.std.proofs.lemmas.Str.Parse.{digit_from_value}
use Rattle.qd_time.specs.Reading.{◌>>=◌, Number, digit_at, next_count, span_at, letter_at, count_at, later_at, suffix_at}
use Rattle.qd_time.proofs.DigitLemmas.{bind-some, digit_test, is_digit}
use Rattle.qd_time.specs.Spelled.{Span, seconds, minutes, hours, days, letter, span_micros, Suffix, none, later, suffix_text, IsSuffix, suffix_count}
use Rattle.qd_base.specs.declared.limits.TheConstants.{MAX_SUFFIX_COUNT}

-- a digit counts on
pub count_at-digit : (k : ℕ) (t : List ℕ) (n : Number) → digit_at t ≡ Some n → count_at k t ≡ count_at (min (10 * k + n.0) (MAX_SUFFIX_COUNT + 1)) n.1
unfolding digit_at count_at
count_at-digit k [] n e = absurd cc
count_at-digit k (b ∷ rest) n e =
    elim (cases_Bool (nat_le 48 b && nat_le b 57)) [
      | inl is ↦
          let found : Some (b - 48, rest) ≡ Some n = sym (ap (λ t. cond t (Some (b - 48, rest)) None) is) ∙ e in
          let number : b - 48 ≡ n.0 = cc in
          let after : rest ≡ n.1 = cc in
          ap (λ t. cond t (count_at (next_count k b) rest) (letter_at k (b ∷ rest))) is
          ∙ ap (λ d. count_at (min (10 * k + d) (MAX_SUFFIX_COUNT + 1)) rest) number ∙ ap (count_at (min (10 * k + n.0) (MAX_SUFFIX_COUNT + 1))) after
      | inr apart ↦ absurd (let missing : None ≡ Some n = sym (ap (λ t. cond t (Some (b - 48, rest)) None) apart) ∙ e in cc)
    ]

-- and what is no digit ends the count
pub count_at-none : (k : ℕ) (t : List ℕ) → digit_at t ≡ None → count_at k t ≡ letter_at k t
unfolding digit_at count_at
count_at-none k [] e = refl
count_at-none k (b ∷ rest) e =
    elim (cases_Bool (nat_le 48 b && nat_le b 57)) [
      | inl is ↦ absurd (let found : Some (b - 48, rest) ≡ None = sym (ap (λ t. cond t (Some (b - 48, rest)) None) is) ∙ e in cc)
      | inr apart ↦ ap (λ t. cond t (count_at (next_count k b) rest) (letter_at k (b ∷ rest))) apart
    ]

letter_no_digit : (span : Span) → (nat_le 48 (letter span) && nat_le (letter span) 57) ≡ false
letter_no_digit seconds = refl
letter_no_digit minutes = refl
letter_no_digit hours = refl
letter_no_digit days = refl

span_at-letter : (span : Span) → span_at (letter span) ≡ Some (span_micros span)
span_at-letter seconds = refl
span_at-letter minutes = refl
span_at-letter hours = refl
span_at-letter days = refl

-- a count that is held at 1,000,001 goes on as the number does
held : (n b d : ℕ) → d + 48 ≡ b → min (10 * min n (MAX_SUFFIX_COUNT + 1) + (b - 48)) (MAX_SUFFIX_COUNT + 1) ≡ min (n * 10 + d) (MAX_SUFFIX_COUNT + 1)
held n b d e = omega arith

-- digits and a letter are read
counts : (n : ℕ) (number : List ℕ) (span : Span) → AllDigits 10 number → count_at (min n (MAX_SUFFIX_COUNT + 1)) (number ++ (letter span ∷ [])) ≡ Some (min (digits_value_after 10 n number) (MAX_SUFFIX_COUNT + 1), span_micros span)
unfolding count_at
counts n [] span h =
    ap (λ t. cond t (count_at (next_count (min n (MAX_SUFFIX_COUNT + 1)) (letter span)) []) (letter_at (min n (MAX_SUFFIX_COUNT + 1)) (letter span ∷ []))) (letter_no_digit span)
    ∙ ap (λ o. o >>= λ micros. Some (min n (MAX_SUFFIX_COUNT + 1), micros)) (span_at-letter span)
counts n (b ∷ number) span h =
    let rest = number ++ (letter span ∷ []) in
    let is = digit_from_value b h.0 in
    ap (λ t. cond t (count_at (next_count (min n (MAX_SUFFIX_COUNT + 1)) b) rest) (letter_at (min n (MAX_SUFFIX_COUNT + 1)) (b ∷ rest))) (digit_test b is)
    ∙ ap (λ k. count_at k rest) (held n b (digit_value b) (digit_value_digit b is))
    ∙ counts (n * 10 + digit_value b) number span h.1

later_reads : (number : List ℕ) (span : Span) → IsNumeral 10 number → later_at (number ++ (letter span ∷ [])) ≡ Some (min (digits_value 10 number) (MAX_SUFFIX_COUNT + 1), span_micros span)
later_reads [] span h = absurd (omega (arith, h.0))
later_reads (b ∷ number) span h =
    let rest = b ∷ number ++ (letter span ∷ []) in
    ap (λ t. cond t (count_at 0 rest) None) (digit_test b (digit_from_value b h.1.0)) ∙ counts 0 (b ∷ number) span h.1

-- what a suffix is read as
abbrev pub span_of : Suffix → ℕ
span_of none = 0
span_of (later number span) = span_micros span

pub suffix_reads : (s : Suffix) → IsSuffix s → suffix_at (suffix_text s) ≡ Some (min (suffix_count s) (MAX_SUFFIX_COUNT + 1), span_of s)
suffix_reads none h = refl
suffix_reads (later number span) h = later_reads number span h

-- and what is read is a suffix
pub record FoundSuffix (text : List ℕ) (found : ℕ × ℕ) : Type 0 where
  pub suffix : Suffix
  pub is_suffix : IsSuffix suffix
  pub text_is : text ≡ suffix_text suffix
  pub count_is : found.0 ≡ min (suffix_count suffix) (MAX_SUFFIX_COUNT + 1)
  pub micros_is : found.1 ≡ span_of suffix

-- what a count finds: digits, a letter, and what they make of the count before
record FoundCount (n : ℕ) (text : List ℕ) (found : ℕ × ℕ) : Type 0 where
  number : List ℕ
  span : Span
  are_digits : AllDigits 10 number
  text_is : text ≡ number ++ (letter span ∷ [])
  count_is : found.0 ≡ min (digits_value_after 10 n number) (MAX_SUFFIX_COUNT + 1)
  micros_is : found.1 ≡ span_micros span

span_at-some : (b micros : ℕ) → span_at b ≡ Some micros → (span : Span) × (b ≡ letter span) × (micros ≡ span_micros span)
span_at-some b micros e =
    let d = cond (b == 100) (Some (span_micros days)) None in
    let h = cond (b == 104) (Some (span_micros hours)) d in
    let m = cond (b == 109) (Some (span_micros minutes)) h in
    elim (cases_Bool (b == 115)) [
      | inl is ↦ (seconds, eqb-true b 115 is, let found : Some (span_micros seconds) ≡ Some micros = sym (ap (λ t. cond t (Some (span_micros seconds)) m) is) ∙ e in cc)
      | inr n1 ↦ let e1 : m ≡ Some micros = sym (ap (λ t. cond t (Some (span_micros seconds)) m) n1) ∙ e in elim (cases_Bool (b == 109)) [
        | inl is ↦ (minutes, eqb-true b 109 is, let found : Some (span_micros minutes) ≡ Some micros = sym (ap (λ t. cond t (Some (span_micros minutes)) h) is) ∙ e1 in cc)
        | inr n2 ↦ let e2 : h ≡ Some micros = sym (ap (λ t. cond t (Some (span_micros minutes)) h) n2) ∙ e1 in elim (cases_Bool (b == 104)) [
          | inl is ↦ (hours, eqb-true b 104 is, let found : Some (span_micros hours) ≡ Some micros = sym (ap (λ t. cond t (Some (span_micros hours)) d) is) ∙ e2 in cc)
          | inr n3 ↦ let e3 : d ≡ Some micros = sym (ap (λ t. cond t (Some (span_micros hours)) d) n3) ∙ e2 in elim (cases_Bool (b == 100)) [
            | inl is ↦ (days, eqb-true b 100 is, let found : Some (span_micros days) ≡ Some micros = sym (ap (λ t. cond t (Some (span_micros days)) None) is) ∙ e3 in cc)
            | inr n4 ↦ absurd (let missing : None ≡ Some micros = sym (ap (λ t. cond t (Some (span_micros days)) None) n4) ∙ e3 in cc)
          ]
        ]
      ]
    ]

letter_at-some : (n : ℕ) (text : List ℕ) (found : ℕ × ℕ) → letter_at (min n (MAX_SUFFIX_COUNT + 1)) text ≡ Some found → FoundCount n text found
letter_at-some n [] found e = absurd cc
letter_at-some n (b ∷ []) found e =
    let x = bind-some (span_at b) (λ micros. Some (min n (MAX_SUFFIX_COUNT + 1), micros)) found e in
    let s = span_at-some b x.0 x.1 in
    let count : min n (MAX_SUFFIX_COUNT + 1) ≡ found.0 = cc (x.2) in
    let micros : x.0 ≡ found.1 = cc (x.2) in
    record { number = []; span = s.0; are_digits = tt; text_is = ap (λ b. b ∷ []) s.1; count_is = sym count; micros_is = sym micros ∙ s.2 }
letter_at-some n (b ∷ c ∷ rest) found e = absurd cc

count_at-some : (n : ℕ) (text : List ℕ) (found : ℕ × ℕ) → count_at (min n (MAX_SUFFIX_COUNT + 1)) text ≡ Some found → FoundCount n text found
unfolding count_at
count_at-some n [] found e = absurd cc
count_at-some n (b ∷ rest) found e =
    let yes_case = count_at (next_count (min n (MAX_SUFFIX_COUNT + 1)) b) rest in
    let no_case = letter_at (min n (MAX_SUFFIX_COUNT + 1)) (b ∷ rest) in
    elim (cases_Bool (nat_le 48 b && nat_le b 57)) [
      | inl is ↦
          let digit = is_digit b is in
          let value = digit_value_digit b digit in
          let f = count_at-some (n * 10 + digit_value b) rest found (ap (λ k. count_at k rest) (sym (held n b (digit_value b) value)) ∙ sym (ap (λ t. cond t yes_case no_case) is) ∙ e) in
          record { number = b ∷ f.number; span = f.span; are_digits = (omega (arith, digit.1), f.are_digits); text_is = ap (λ t. b ∷ t) f.text_is; count_is = f.count_is; micros_is = f.micros_is }
      | inr apart ↦ letter_at-some n (b ∷ rest) found (sym (ap (λ t. cond t yes_case no_case) apart) ∙ e)
    ]

not_letter : (span : Span) (b : ℕ) → IsInRange 48 57 b → b ≢ letter span
not_letter seconds b digit e = omega (arith, digit.1)
not_letter minutes b digit e = omega (arith, digit.1)
not_letter hours b digit e = omega (arith, digit.1)
not_letter days b digit e = omega (arith, digit.1)

some_digit : (b : ℕ) (rest number : List ℕ) (span : Span) → IsInRange 48 57 b → b ∷ rest ≡ number ++ (letter span ∷ []) → 0 < length number
some_digit b rest [] span digit e = absurd (not_letter span b digit cc)
some_digit b rest (c ∷ number) span digit e = omega arith

later_at-some : (text : List ℕ) (found : ℕ × ℕ) → later_at text ≡ Some found → FoundSuffix (59 ∷ text) found
later_at-some [] found e = absurd cc
later_at-some (b ∷ rest) found e =
    elim (cases_Bool (nat_le 48 b && nat_le b 57)) [
      | inl is ↦
          let f = count_at-some 0 (b ∷ rest) found (sym (ap (λ t. cond t (count_at 0 (b ∷ rest)) None) is) ∙ e) in
          record { suffix = later f.number f.span; is_suffix = (some_digit b rest f.number f.span (is_digit b is) f.text_is, f.are_digits); text_is = ap (λ t. 59 ∷ t) f.text_is; count_is = f.count_is; micros_is = f.micros_is }
      | inr apart ↦ absurd (let missing : None ≡ Some found = sym (ap (λ t. cond t (count_at 0 (b ∷ rest)) None) apart) ∙ e in cc)
    ]

pub suffix_at-some : (text : List ℕ) (found : ℕ × ℕ) → suffix_at text ≡ Some found → FoundSuffix text found
suffix_at-some [] found e =
    let count : 0 ≡ found.0 = cc in
    let micros : 0 ≡ found.1 = cc in
    record { suffix = none; is_suffix = tt; text_is = refl; count_is = sym count; micros_is = sym micros }
suffix_at-some (b ∷ rest) found e =
    elim (cases_Bool (b == 59)) [
      | inl is ↦ subst (λ c. FoundSuffix (c ∷ rest) found) (sym (eqb-true b 59 is)) (later_at-some rest found (sym (ap (λ t. cond t (later_at rest) None) is) ∙ e))
      | inr apart ↦ absurd (let missing : None ≡ Some found = sym (ap (λ t. cond t (later_at rest) None) apart) ∙ e in cc)
    ]
