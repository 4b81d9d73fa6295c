-- Numbers that digits spell.
use Rattle.std.proofs.Common.{◌≡◌, ℕ, ◌+◌, ◌-◌, ◌*◌, ◌/◌, ◌<◌, ◌≤◌, Bool, true, false, List, [], ◌∷◌, ◌++◌, length, get_or, take, drop, refl, sym, ap, ◌∙◌, fold, arith, inl, inr}
use Rattle.std.specs.Prelude.{nat_lt, nat_le, if◌then◌else◌, min, ◌&&◌}
use Rattle.std.specs.List.{list_all}
use Rattle.std.proofs.lemmas.Bool.{cases_lt, lt-ltb, le-ltb, leb-true}
use Rattle.std.proofs.lemmas.List.Sums.{fold_more, fold-append}
use Rattle.std.proofs.lemmas.List.{take-append-drop, length-drop}
use Rattle.qd_ilp.specs.declared.value.TheConstants.{LIMIT, CAP}
use Rattle.qd_ilp.specs.Value.{is_digit, are_digits, number_of}

abbrev step : ℕ → ℕ → ℕ
step n b = if nat_lt n LIMIT then 10 * n + (b - 48) else CAP

abbrev pub capped : List ℕ → ℕ
capped ds = fold step 0 ds

pub capped_more : (ds : List ℕ) (i : ℕ) → i < length ds → capped (take (i + 1) ds) ≡ step (capped (take i ds)) (get_or ds i 0)
capped_more ds i h = fold_more step 0 ds i 0 h

low_step : (limit n b : ℕ) → n < limit → nat_lt (min (10 * limit) n) limit ≡ true
low_step limit n b h = lt-ltb _ _ (omega (arith, h))

step_is : (n b : ℕ) → b - 48 ≤ 9 → step (min CAP n) b ≡ min CAP (10 * n + (b - 48))
step_is n b digit =
    elim (cases_lt n LIMIT) [
      | inl low ↦
          let same : min CAP n ≡ n = omega (arith, low) in
          rw (same, lt-ltb n LIMIT low) (omega (arith, low))
      | inr high ↦
          let not : nat_lt (min CAP n) LIMIT ≡ false = le-ltb (min CAP n) LIMIT (omega (arith, high)) in
          rw not (omega (arith, high))
    ]

pub and_true : (p q : Bool) → (p && q) ≡ true → (p ≡ true) × (q ≡ true)
and_true true q h = (refl, h)
and_true false q h = absurd cc

pub digit_low : (b : ℕ) → is_digit b ≡ true → (48 ≤ b) × (b ≤ 57)
digit_low b h = let both = and_true (nat_le 48 b) (nat_le b 57) h in (leb-true 48 b both.0, leb-true b 57 both.1)

capped_from : (ds : List ℕ) (n : ℕ) → list_all is_digit ds ≡ true → fold step (min CAP n) ds ≡ min CAP (fold (λ n b. 10 * n + (b - 48)) n ds)
capped_from [] n all = refl
capped_from (d ∷ ds) n all =
    let both = and_true (is_digit d) (list_all is_digit ds) all in
    let low = digit_low d both.0 in
    ap (λ (m : ℕ). fold step m ds) (step_is n d (omega (arith, low))) ∙ capped_from ds (10 * n + (d - 48)) both.1

pub capped_is : (ds : List ℕ) → list_all is_digit ds ≡ true → capped ds ≡ min CAP (number_of ds)
capped_is ds all = capped_from ds 0 all

-- three digits less are the thousandth part
number_of_append : (a b : List ℕ) → number_of (a ++ b) ≡ fold (λ n b. 10 * n + (b - 48)) (number_of a) b
number_of_append a b = fold-append (λ n b. 10 * n + (b - 48)) 0 a b

list_all_right : (xs ys : List ℕ) → list_all is_digit (xs ++ ys) ≡ true → list_all is_digit ys ≡ true
list_all_right [] ys all = all
list_all_right (x ∷ xs) ys all = list_all_right xs ys (and_true (is_digit x) (list_all is_digit (xs ++ ys)) all).1

three_more : (n : ℕ) (ds : List ℕ) → length ds ≡ 3 → list_all is_digit ds ≡ true → fold (λ n b. 10 * n + (b - 48)) n ds / 1000 ≡ n
three_more n [] len all = absurd (omega (arith, len))
three_more n (x ∷ []) len all = absurd (omega (arith, len))
three_more n (x ∷ y ∷ []) len all = absurd (omega (arith, len))
three_more n (x ∷ y ∷ z ∷ []) len all =
    let all₁ = and_true (is_digit x) (list_all is_digit (y ∷ z ∷ [])) all in
    let all₂ = and_true (is_digit y) (list_all is_digit (z ∷ [])) all₁.1 in
    let all₃ = and_true (is_digit z) true all₂.1 in
    let x_low = digit_low x all₁.0 in
    let y_low = digit_low y all₂.0 in
    let z_low = digit_low z all₃.0 in
    omega (arith, x_low, y_low, z_low)
three_more n (x ∷ y ∷ z ∷ w ∷ ds) len all = absurd (omega (arith, len))

pub thousandth : (ds : List ℕ) → 3 ≤ length ds → list_all is_digit ds ≡ true → number_of ds / 1000 ≡ number_of (take (length ds - 3) ds)
thousandth ds h all =
    let k = length ds - 3 in
    let whole : take k ds ++ drop k ds ≡ ds = take-append-drop k ds in
    let all' : list_all is_digit (take k ds ++ drop k ds) ≡ true = ap (λ (l : List ℕ). list_all is_digit l) whole ∙ all in
    let len : length (drop k ds) ≡ 3 = omega (arith, length-drop k ds) in
    ap (λ (l : List ℕ). number_of l / 1000) (sym whole) ∙ ap (λ (n : ℕ). n / 1000) (number_of_append (take k ds) (drop k ds)) ∙ three_more (number_of (take k ds)) (drop k ds) len (list_all_right (take k ds) (drop k ds) all')

pub few_digits : (ds : List ℕ) → length ds < 3 → list_all is_digit ds ≡ true → number_of ds / 1000 ≡ 0
few_digits [] h all = refl
few_digits (x ∷ []) h all =
    let x_low = digit_low x (and_true (is_digit x) true all).0 in
    omega (arith, x_low)
few_digits (x ∷ y ∷ []) h all =
    let all₁ = and_true (is_digit x) (list_all is_digit (y ∷ [])) all in
    let x_low = digit_low x all₁.0 in
    let y_low = digit_low y (and_true (is_digit y) true all₁.1).0 in
    omega (arith, x_low, y_low)
few_digits (x ∷ y ∷ z ∷ ds) h all = absurd (omega (arith, h))

pub list_all_left : (xs ys : List ℕ) → list_all is_digit (xs ++ ys) ≡ true → list_all is_digit xs ≡ true
list_all_left [] ys all = refl
list_all_left (x ∷ xs) ys all =
    let both = and_true (is_digit x) (list_all is_digit (xs ++ ys)) all in
    rw (both.0) (list_all_left xs ys both.1)

pub list_all_take : (k : ℕ) (ds : List ℕ) → list_all is_digit ds ≡ true → list_all is_digit (take k ds) ≡ true
list_all_take k ds all = list_all_left (take k ds) (drop k ds) (ap (λ (l : List ℕ). list_all is_digit l) (take-append-drop k ds) ∙ all)

-- digits in two parts
and_parts : (p q r : Bool) → (p && (q && r)) ≡ ((p && q) && r)
and_parts true q r = refl
and_parts false q r = refl

all_parts : (xs ys : List ℕ) → list_all is_digit (xs ++ ys) ≡ (list_all is_digit xs && list_all is_digit ys)
all_parts [] ys = refl
all_parts (x ∷ xs) ys = ap (λ (b : Bool). is_digit x && b) (all_parts xs ys) ∙ and_parts (is_digit x) (list_all is_digit xs) (list_all is_digit ys)

pub all_split : (k : ℕ) (ds : List ℕ) → list_all is_digit ds ≡ (list_all is_digit (take k ds) && list_all is_digit (drop k ds))
all_split k ds = ap (list_all is_digit) (sym (take-append-drop k ds)) ∙ all_parts (take k ds) (drop k ds)

pub some_digits : (ds : List ℕ) → 0 < length ds → are_digits ds ≡ list_all is_digit ds
some_digits [] some = absurd (omega (arith, some))
some_digits (d ∷ ds) some = refl

pub no_digits : (ds : List ℕ) → length ds ≡ 0 → are_digits ds ≡ false
no_digits [] none = refl
no_digits (d ∷ ds) none = absurd (omega (arith, none))

pub micros_are : (ds front last : List ℕ) (n : ℕ) → 3 ≤ length ds → front ≡ take (length ds - 3) ds → last ≡ drop (length ds - 3) ds → list_all is_digit front ≡ true → list_all is_digit last ≡ true → n ≡ min CAP (number_of front)
    → (are_digits ds ≡ true) × (n ≡ min CAP (number_of ds / 1000))
micros_are ds front last n long left right first rest is =
    let k = length ds - 3 in
    let all : list_all is_digit ds ≡ true =
    all_split k ds ∙ ap (λ (b : Bool). b && list_all is_digit (drop k ds)) (ap (list_all is_digit) (sym left) ∙ first) ∙ (ap (list_all is_digit) (sym right) ∙ rest)
    in
    (some_digits ds (omega (arith, long)) ∙ all, is ∙ ap (λ (l : List ℕ). min CAP (number_of l)) left ∙ ap (λ (m : ℕ). min CAP m) (sym (thousandth ds long all)))
