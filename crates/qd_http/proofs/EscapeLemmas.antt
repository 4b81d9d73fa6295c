-- What is printed of a text reads back as the text.
use Rattle.std.proofs.Common.{◌≡◌, ℕ, ◌/◌, ◌%◌, ◌<◌, ◌==◌, nat_lt, nat_le, true, false, List, [], ◌∷◌, ◌++◌, flat_map, refl, ap, ◌∙◌, arith, inl, inr, rules, tests, append_assoc, Some}
use Rattle.std.specs.Char.{digit_value, encode_utf8}
use Rattle.std.specs.Fmt.{digit_glyph}
use Rattle.std.proofs.lemmas.Bool.{cases_eq, cases_lt, ne_eqb}
use Rattle.std.proofs.lemmas.Str.{digit_value-digit_char}
use Rattle.std.proofs.lemmas.Str.Ascii.{encode_ascii}
use Rattle.json.specs.Text.{content, plain, code_unit, short_escape}
use Rattle.qd_http.specs.Json.{escaped}

-- a byte that stands
stands : (b : ℕ) (rest text : List ℕ) → (b == 34) ≡ false → (b == 92) ≡ false → nat_lt b 32 ≡ false → content plain rest ≡ Some text → content plain (b ∷ rest) ≡ Some (b ∷ text)
unfolding content
stands b rest text no_quote no_slash no_control h = rw (no_quote, no_slash, no_control, h) refl

-- a quote or a backslash, behind a backslash
slashed : (b : ℕ) (rest text : List ℕ) → b ≡ 34 → content plain rest ≡ Some text → content plain (92 ∷ b ∷ rest) ≡ Some (b ∷ text)
unfolding content short_escape
slashed b rest text is h = rw (is, h) refl

slashed_slash : (b : ℕ) (rest text : List ℕ) → b ≡ 92 → content plain rest ≡ Some text → content plain (92 ∷ b ∷ rest) ≡ Some (b ∷ text)
unfolding content short_escape
slashed_slash b rest text is h = rw (is, h) refl

digit_of : (d : ℕ) → d < 16 → digit_value (digit_glyph false d) ≡ d
digit_of d small = digit_value-digit_char d (omega arith)

-- the code unit of a byte below 32
unit_of : (b : ℕ) → b < 32 → code_unit 48 48 (digit_glyph false (b / 16)) (digit_glyph false (b % 16)) ≡ Some b
unfolding code_unit
unit_of b small =
    let high : b / 16 < 16 = omega arith in
    let low : b % 16 < 16 = omega arith in
    let first : nat_lt (b / 16) 16 ≡ true = search (rules, tests) in
    let second : nat_lt (b % 16) 16 ≡ true = search (rules, tests) in
    rw (digit_of (b / 16) high, digit_of (b % 16) low, first, second) (ap (λ n. Some n) (omega arith))

-- a control byte, by its code
coded : (b : ℕ) (rest text : List ℕ) → b < 32 → content plain rest ≡ Some text → content plain (92 ∷ 117 ∷ 48 ∷ 48 ∷ digit_glyph false (b / 16) ∷ digit_glyph false (b % 16) ∷ rest) ≡ Some (b ∷ text)
unfolding content
coded b rest text small h =
    let high : nat_le 55296 b ≡ false = search (rules, tests) in
    let low : nat_le 56320 b ≡ false = search (rules, tests) in
    let one : encode_utf8 b ≡ b ∷ [] = encode_ascii b (omega arith) in
    rw (unit_of b small, h, high, low, one) refl

reads_byte : (b : ℕ) (rest text : List ℕ) → content plain rest ≡ Some text → content plain (escaped b ++ rest) ≡ Some (b ∷ text)
reads_byte b rest text h =
    elim (cases_lt b 32) [
      | inl control ↦ let yes_ : nat_lt b 32 ≡ true = search (rules, tests) in rw yes_ (coded b rest text control h)
      | inr above ↦
          let control : nat_lt b 32 ≡ false = search (rules, tests) in
          elim (cases_eq b 34) [
            | inl quote ↦ rw (control, quote) (slashed 34 rest text refl h)
            | inr no_quote ↦ elim (cases_eq b 92) [
              | inl slash ↦ rw (control, slash) (slashed_slash 92 rest text refl h)
              | inr no_slash ↦ rw (control, ne_eqb b 34 no_quote, ne_eqb b 92 no_slash) (stands b rest text (ne_eqb b 34 no_quote) (ne_eqb b 92 no_slash) control h)
            ]
          ]
    ]

closes : (rest : List ℕ) → content plain (34 ∷ rest) ≡ Some []
unfolding content
closes rest = refl

pub reads_back : (rest text : List ℕ) → content plain (flat_map escaped text ++ 34 ∷ rest) ≡ Some text
reads_back rest [] = closes rest
reads_back rest (b ∷ text) =
    ap (content plain) (append_assoc (escaped b) (flat_map escaped text) (34 ∷ rest)) ∙ reads_byte b (flat_map escaped text ++ 34 ∷ rest) text (reads_back rest text)
