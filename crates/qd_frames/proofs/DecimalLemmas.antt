-- Numbers in decimal: what their prefixes are, and where one ends.
use Rattle.std.proofs.Common.{◌≡◌, ℕ, ◌+◌, ◌-◌, ◌*◌, ◌/◌, ◌%◌, ◌^◌, ◌<◌, ◌≤◌, ◌⊎◌, inl, inr, true, false, List, [], ◌∷◌, ◌++◌, length, get_or, zero, suc, refl, sym, ap, ◌∙◌, arith, append_assoc}
use Rattle.std.specs.Fmt.{decimal}
use Rattle.std.specs.Char.{is_ascii_digit}
use Rattle.std.proofs.lemmas.Bool.Decides.{nat_tests}
use Rattle.std.proofs.lemmas.Bool.{cases_lt}
use Rattle.std.proofs.lemmas.Fmt.{decimal_digit, decimal_step, decimal_by_steps, first_decimal}
use Rattle.std.proofs.lemmas.List.{append-nil, same_from_push}

-- a decimal digit
abbrev pub IsDigit : ℕ → Type 0
IsDigit b = (48 ≤ b) × (b ≤ 57)

-- what std's test of a digit says
pub IsDigit-tested : (b : ℕ) → is_ascii_digit b ≡ true → IsDigit b
IsDigit-tested b e = grind (arith, nat_tests)

pub IsDigit-not : (b : ℕ) → is_ascii_digit b ≡ false → IsDigit b → ⊥
IsDigit-not b e digit = grind (arith, nat_tests)

pub not_zero : (n : ℕ) → (n ≡ 0 → ⊥) → 0 < n
not_zero zero other = absurd (other refl)
not_zero (suc n) other = omega arith

-- a byte is a digit or none
pub digit_or_none : (b : ℕ) → ((d : ℕ) × (d < 10) × (b ≡ 48 + d)) ⊎ (IsDigit b → ⊥)
digit_or_none b =
    elim (cases_lt b 48) [
      | inl under ↦ inr (λ digit. omega arith)
      | inr low ↦ elim (cases_lt 57 b) [ inl over ↦ inr (λ digit. omega arith) | inr high ↦ inl (b - 48, omega arith, omega arith) ]
    ]

-- each byte is a digit
abbrev pub Digits : List ℕ → Type 0
Digits [] = Unit {0}
Digits (b ∷ bs) = IsDigit b × Digits bs

pub Digits-push : (ds : List ℕ) (b : ℕ) → Digits ds → IsDigit b → Digits (ds ++ b ∷ [])
Digits-push [] b all one = (one, tt)
Digits-push (d ∷ ds) b all one = (all.0, Digits-push ds b all.1 one)

pub Digits-at : (ds : List ℕ) (b : ℕ) (bs : List ℕ) → Digits (ds ++ b ∷ bs) → IsDigit b
Digits-at [] b bs all = all.0
Digits-at (d ∷ ds) b bs all = Digits-at ds b bs all.1

pub Digits-decimal : (n : ℕ) → n < 2 ^ 64 → Digits (decimal n)
Digits-decimal n small = decimal_by_steps (λ m ds. Digits ds) (λ m h. ((omega arith, omega arith), tt)) (λ m ds h before. Digits-push ds (48 + m % 10) before (omega arith, omega arith)) n small

-- a list is empty, or has a last item
pub last_of : (xs : List ℕ) → (xs ≡ []) ⊎ ((ys : List ℕ) × (y : ℕ) × (xs ≡ ys ++ y ∷ []))
last_of [] = inl refl
last_of (x ∷ xs) = elim (last_of xs) [ inl e ↦ inr ([], x, ap (λ zs. x ∷ zs) e) | inr p ↦ inr (x ∷ p.0, p.1, ap (λ zs. x ∷ zs) p.2) ]

-- a prefix of these digits spells a number that is no greater than m
abbrev pub PrefixesSpell : ℕ → List ℕ → Type 0
PrefixesSpell m ds = (prefix back : List ℕ) → ds ≡ prefix ++ back → 0 < length prefix → (k : ℕ) × (k ≤ m) × (prefix ≡ decimal k)

abbrev pub SpelledPrefixes : ℕ → List ℕ → Type 0
SpelledPrefixes m ds = m < 2 ^ 64 → (ds ≡ decimal m) × PrefixesSpell m ds

prefix_of_one : (m : ℕ) → m < 10 → PrefixesSpell m ((48 + m) ∷ [])
prefix_of_one m h [] back e some = absurd (omega arith)
prefix_of_one m h (f ∷ []) back e some = (m, omega arith, (let g : f ≡ 48 + m = cc in ap (λ x. x ∷ []) g) ∙ sym (decimal_digit m h))
prefix_of_one m h (f ∷ g ∷ gs) back e some = absurd (cc)

prefix_of_more : (m : ℕ) (ds : List ℕ) → 10 ≤ m → SpelledPrefixes (m / 10) ds → m < 2 ^ 64 → PrefixesSpell m (ds ++ (48 + m % 10) ∷ [])
prefix_of_more m ds h before small prefix back e some =
    let small' : m / 10 < 2 ^ 64 = omega arith in
    let known = before small' in
    elim (last_of back) [
      | inl none ↦ (m, omega arith, sym (append-nil prefix) ∙ (ap (λ x. prefix ++ x) (sym none) ∙ (sym e ∙ (ap (λ x. x ++ (48 + m % 10) ∷ []) known.0 ∙ sym (decimal_step m h small)))))
      | inr p ↦
          let e' : ds ++ (48 + m % 10) ∷ [] ≡ (prefix ++ p.0) ++ p.1 ∷ [] = e ∙ (ap (λ x. prefix ++ x) p.2 ∙ sym (append_assoc prefix p.0 (p.1 ∷ []))) in
          let cut = same_from_push _ _ _ _ e' in
          let r = known.1 prefix p.0 cut.0 some in
          (r.0, omega arith, r.2)
    ]

-- a prefix of a number's digits spells a number that is no greater
pub prefix_spells : (m : ℕ) → m < 2 ^ 64 → PrefixesSpell m (decimal m)
prefix_spells m small =
    (decimal_by_steps SpelledPrefixes (λ n h s. (sym (decimal_digit n h), prefix_of_one n h)) (λ n ds h before s. (ap (λ x. x ++ (48 + n % 10) ∷ []) (before (omega arith)).0 ∙ sym (decimal_step n h s), prefix_of_more n ds h before s)) m small small).1

-- one digit more
pub decimal_push : (n d : ℕ) → 0 < n → d < 10 → 10 * n + d < 2 ^ 64 → decimal (10 * n + d) ≡ decimal n ++ (48 + d) ∷ []
decimal_push n d some low small =
    let q : (10 * n + d) / 10 ≡ n = omega arith in
    let r : (10 * n + d) % 10 ≡ d = omega arith in
    decimal_step (10 * n + d) (omega arith) small ∙ (ap (λ x. decimal x ++ (48 + (10 * n + d) % 10) ∷ []) q ∙ ap (λ x. decimal n ++ (48 + x) ∷ []) r)

-- a number of two digits or more doesn't begin with 0
pub no_leading_zero : (m b : ℕ) (back : List ℕ) → m < 2 ^ 64 → decimal m ≡ 48 ∷ b ∷ back → ⊥
no_leading_zero zero b back small e = let z = decimal_digit 0 (omega arith) in cc
no_leading_zero (suc m) b back small e =
    let f = first_decimal (suc m) (omega arith) small in
    let g : get_or (decimal (suc m)) 0 0 ≡ 48 = ap (λ x. get_or x 0 0) e in
    omega arith

-- digits before the first LF belong to the number that it ends
pub digits_within : (ds number rest tail : List ℕ) → Digits ds → ds ++ rest ≡ number ++ 10 ∷ tail → (more : List ℕ) × (number ≡ ds ++ more) × (rest ≡ more ++ 10 ∷ tail)
digits_within [] number rest tail all e = (number, refl, e)
digits_within (d ∷ ds) [] rest tail all e = let g : d ≡ 10 = cc in absurd (omega arith)
digits_within (d ∷ ds) (n ∷ number) rest tail all e =
    let same : ds ++ rest ≡ number ++ 10 ∷ tail = cc in
    let h = digits_within ds number rest tail all.1 same in
    let g : n ≡ d = cc in
    (h.0, cc (h.1), h.2)
