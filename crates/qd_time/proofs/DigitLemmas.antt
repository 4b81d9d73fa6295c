-- Reading digits gives back the number that they print, and nothing else.
use Rattle.std.proofs.Common.{ℕ, ◌+◌, ◌-◌, ◌*◌, ◌/◌, ◌%◌, ◌^◌, ◌<◌, ◌≡◌, inl, inr, true, ◌&&◌, cond, Option, Some, None, List, [], ◌∷◌, ◌++◌, refl, sym, ap, ◌∙◌, arith, append_assoc}
use Rattle.std.specs.Prelude.{nat_le}
use Rattle.std.specs.Int.{IsInRange}
use Rattle.std.proofs.lemmas.Bool.{cases_Bool}
use Rattle.std.proofs.lemmas.Bool.Decides.{nat_tests}
use Rattle.qd_time.specs.Printed.{digits}
use Rattle.qd_time.specs.Reading.{◌>>=◌, Number, digit_at, two_at, three_at, four_at}

-- a step that gives something stands on one that gave something
pub bind-some : {A B : Type 0} (o : Option A) (f : A → Option B) (r : B) → (o >>= f) ≡ Some r → (x : A) × (o ≡ Some x) × (f x ≡ Some r)
bind-some None f r e = absurd cc
bind-some (Some x) f r e = (x, refl, e)

-- the test of a digit
pub digit_test : (b : ℕ) → IsInRange 48 57 b → (nat_le 48 b && nat_le b 57) ≡ true
digit_test b h = let low = h.0 in let high = h.1 in grind (arith, nat_tests)

pub is_digit : (b : ℕ) → (nat_le 48 b && nat_le b 57) ≡ true → IsInRange 48 57 b
is_digit b h = grind (arith, nat_tests)

-- what a number and the bytes after it say of a text
abbrev pub Found : (ℕ → List ℕ) → ℕ → List ℕ → Number → Type 0
Found print limit text n = (n.0 < limit) × (text ≡ print n.0 ++ n.1)

-- one digit as text
abbrev pub digit_text : ℕ → List ℕ
digit_text k = (48 + k) ∷ []

pub digit_at-digit : (k : ℕ) (rest : List ℕ) → k < 10 → digit_at (digit_text k ++ rest) ≡ Some (k, rest)
unfolding digit_at
digit_at-digit k rest h =
    let back : 48 + k - 48 ≡ k = omega arith in
    ap (λ b. cond b (Some (48 + k - 48, rest)) None) (digit_test (48 + k) (omega arith, omega arith)) ∙ ap (λ n. Some (n, rest)) back

found_digit : (b : ℕ) (rest : List ℕ) (n : Number) → IsInRange 48 57 b → Some (b - 48, rest) ≡ Some n → Found digit_text 10 (b ∷ rest) n
found_digit b rest n is e =
    let low = is.0 in
    let high = is.1 in
    let number : b - 48 ≡ n.0 = cc in
    let after : rest ≡ n.1 = cc in
    (omega arith, let same : b ≡ 48 + n.0 = omega arith in cc)

pub digit_at-some : (text : List ℕ) (n : Number) → digit_at text ≡ Some n → Found digit_text 10 text n
unfolding digit_at
digit_at-some [] n e = absurd cc
digit_at-some (b ∷ rest) n e =
    elim (cases_Bool (nat_le 48 b && nat_le b 57)) [
      | inl is ↦ found_digit b rest n (is_digit b is) (sym (ap (λ t. cond t (Some (b - 48, rest)) None) is) ∙ e)
      | inr apart ↦ absurd (let none : None ≡ Some n = sym (ap (λ t. cond t (Some (b - 48, rest)) None) apart) ∙ e in cc)
    ]

-- a number of two parts, the first of weight w, each read by its own reading
abbrev parts_at : (List ℕ → Option Number) → (List ℕ → Option Number) → ℕ → List ℕ → Option Number
parts_at read_high read_low w text =
    read_high text >>= λ high. read_low high.1 >>= λ low. Some (w * high.0 + low.0, low.1)

-- reading parts that are printed one after the other
parts-printed : (read_high read_low : List ℕ → Option Number) (w a b : ℕ) (high low rest : List ℕ) → read_high (high ++ (low ++ rest)) ≡ Some (a, low ++ rest) → read_low (low ++ rest) ≡ Some (b, rest) → parts_at read_high read_low w (high ++ (low ++ rest)) ≡ Some (w * a + b, rest)
parts-printed read_high read_low w a b high low rest e f =
    ap (λ o. o >>= λ x. read_low x.1 >>= λ y. Some (w * x.0 + y.0, y.1)) e
    ∙ ap (λ o. o >>= λ y. Some (w * a + y.0, y.1)) f

-- what is read in parts, from what each part is
parts-some : (read_high read_low : List ℕ → Option Number) (high low whole : ℕ → List ℕ) (w top limit : ℕ) → ((t : List ℕ) (n : Number) → read_high t ≡ Some n → Found high top t n) → ((t : List ℕ) (n : Number) → read_low t ≡ Some n → Found low w t n) → ((a b : ℕ) → a < top → b < w → (w * a + b < limit) × (whole (w * a + b) ≡ high a ++ low b)) → (text : List ℕ) (n : Number) → parts_at read_high read_low w text ≡ Some n → Found whole limit text n
parts-some read_high read_low high low whole w top limit high-some low-some whole_is text n e =
    let x = bind-some (read_high text) (λ x. read_low x.1 >>= λ y. Some (w * x.0 + y.0, y.1)) n e in
    let y = bind-some (read_low x.0.1) (λ y. Some (w * x.0.0 + y.0, y.1)) n x.2 in
    let a = high-some text x.0 x.1 in
    let b = low-some x.0.1 y.0 y.1 in
    let number : w * x.0.0 + y.0.0 ≡ n.0 = cc (y.2) in
    let after : y.0.1 ≡ n.1 = cc (y.2) in
    let is = whole_is x.0.0 y.0.0 a.0 b.0 in
    let printed : whole n.0 ≡ high x.0.0 ++ low y.0.0 = ap whole (sym number) ∙ is.1 in (
      omega (arith, is.0),
      a.1 ∙ ap (λ t. high x.0.0 ++ t) (b.1 ∙ ap (λ t. low y.0.0 ++ t) after) ∙ sym (append_assoc (high x.0.0) (low y.0.0) n.1) ∙ ap (λ t. t ++ n.1) (sym printed),
    )

two_digits_of : (a b : ℕ) → a < 10 → b < 10 → (10 * a + b < 10 ^ 2) × (digits 2 (10 * a + b) ≡ digit_text a ++ digit_text b)
two_digits_of a b ha hb =
    let n = 10 * a + b in
    let first : n / 10 ^ 1 ≡ a = omega arith in
    let second : n % 10 ^ 1 / 10 ^ 0 ≡ b = omega arith in
    (omega arith, rw (first, second))

three_digits_of : (a b : ℕ) → a < 10 → b < 10 ^ 2 → (100 * a + b < 10 ^ 3) × (digits 3 (100 * a + b) ≡ digit_text a ++ digits 2 b)
three_digits_of a b ha hb =
    let n = 100 * a + b in
    let first : n / 10 ^ 2 ≡ a = omega arith in
    let second : n % 10 ^ 2 ≡ b = omega arith in
    (omega arith, rw (first, second))

four_digits_of : (a b : ℕ) → a < 10 ^ 2 → b < 10 ^ 2 → (100 * a + b < 10 ^ 4) × (digits 4 (100 * a + b) ≡ digits 2 a ++ digits 2 b)
four_digits_of a b ha hb =
    let n = 100 * a + b in
    let first : n / 10 ^ 3 ≡ a / 10 ^ 1 = omega arith in
    let second : n % 10 ^ 3 / 10 ^ 2 ≡ a % 10 ^ 1 / 10 ^ 0 = omega arith in
    let third : n % 10 ^ 3 % 10 ^ 2 ≡ b = omega arith in
    (omega arith, rw (first, second, third))

pub two_at-some : (text : List ℕ) (n : Number) → two_at text ≡ Some n → Found (digits 2) (10 ^ 2) text n
unfolding two_at
two_at-some text n e =
    parts-some digit_at digit_at digit_text digit_text (digits 2) 10 10 (10 ^ 2) digit_at-some digit_at-some two_digits_of text n e

pub three_at-some : (text : List ℕ) (n : Number) → three_at text ≡ Some n → Found (digits 3) (10 ^ 3) text n
unfolding three_at
three_at-some text n e =
    parts-some digit_at two_at digit_text (digits 2) (digits 3) 100 10 (10 ^ 3) digit_at-some two_at-some three_digits_of text n e

pub four_at-some : (text : List ℕ) (n : Number) → four_at text ≡ Some n → Found (digits 4) (10 ^ 4) text n
unfolding four_at
four_at-some text n e =
    parts-some two_at two_at (digits 2) (digits 2) (digits 4) 100 (10 ^ 2) (10 ^ 4) two_at-some two_at-some four_digits_of text n e

pub two_at-digits : (n : ℕ) (rest : List ℕ) → n < 10 ^ 2 → two_at (digits 2 n ++ rest) ≡ Some (n, rest)
unfolding two_at
two_at-digits n rest h =
    let a = n / 10 ^ 1 in
    let b = n % 10 ^ 1 / 10 ^ 0 in
    let whole : 10 * a + b ≡ n = omega arith in
    parts-printed digit_at digit_at 10 a b (digit_text a) (digit_text b) rest (digit_at-digit a (digit_text b ++ rest) (omega arith)) (digit_at-digit b rest (omega arith))
    ∙ ap (λ k. Some (k, rest)) whole

pub three_at-digits : (n : ℕ) (rest : List ℕ) → n < 10 ^ 3 → three_at (digits 3 n ++ rest) ≡ Some (n, rest)
unfolding three_at
three_at-digits n rest h =
    let a = n / 10 ^ 2 in
    let b = n % 10 ^ 2 in
    let whole : 100 * a + b ≡ n = omega arith in
    parts-printed digit_at two_at 100 a b (digit_text a) (digits 2 b) rest (digit_at-digit a (digits 2 b ++ rest) (omega arith)) (two_at-digits b rest (omega arith))
    ∙ ap (λ k. Some (k, rest)) whole

pub four_at-digits : (n : ℕ) (rest : List ℕ) → n < 10 ^ 4 → four_at (digits 4 n ++ rest) ≡ Some (n, rest)
unfolding four_at
four_at-digits n rest h =
    let a = n / 100 in
    let b = n % 100 in
    let whole : 100 * a + b ≡ n = omega arith in
    ap (λ k. four_at (digits 4 k ++ rest)) (sym whole)
    ∙ ap (λ t. four_at (t ++ rest)) (four_digits_of a b (omega arith) (omega arith)).1
    ∙ parts-printed two_at two_at 100 a b (digits 2 a) (digits 2 b) rest (two_at-digits a (digits 2 b ++ rest) (omega arith)) (two_at-digits b rest (omega arith))
    ∙ ap (λ k. Some (k, rest)) whole
