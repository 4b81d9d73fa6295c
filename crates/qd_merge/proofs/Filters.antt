-- Filters one behind another.
use Rattle.std.proofs.Common.{◌≡◌, Bool, true, false, ◌&&◌, ◌||◌, cond, List, [], ◌∷◌, refl, sym, ap, ◌∙◌}
use Rattle.std.specs.List.{AllByRecursion, filter, list_any}

pub and_swap : (a b : Bool) → (a && b) ≡ (b && a)
and_swap true true = refl
and_swap true false = refl
and_swap false true = refl
and_swap false false = refl

pub and_parts : (a b : Bool) → (a && b) ≡ true → (a ≡ true) × (b ≡ true)
and_parts true true e = (refl, refl)
and_parts true false e = cc
and_parts false b e = cc

pub or_none : (a b : Bool) → (a || b) ≡ false → (a ≡ false) × (b ≡ false)
or_none true b e = cc
or_none false b e = (refl, e)

module _ {X : Type 0} (p q r : X → Bool) (both : (x : X) → r x ≡ (q x && p x)) where
  step : (b c d : Bool) → d ≡ (b && c) → (x : X) (us vs : List X) → p x ≡ c → filter p us ≡ vs → filter p (cond b (x ∷ us) us) ≡ cond d (x ∷ vs) vs
  step true c d is x us vs at rest = rw (at, rest, is) refl
  step false c d is x us vs at rest = rw (rest, is) refl

  -- what passes one test and another passes the test of both
  pub filter_both : (xs : List X) → filter p (filter q xs) ≡ filter r xs
  filter_both [] = refl
  filter_both (x ∷ xs) = step (q x) (p x) (r x) (both x) x (filter q xs) (filter r xs) refl (filter_both xs)

pub filter_swap : {X : Type 0} (p q : X → Bool) (xs : List X) → filter p (filter q xs) ≡ filter q (filter p xs)
filter_swap p q xs = filter_both p q (λ x. q x && p x) (λ x. refl) xs ∙ sym (filter_both q p (λ x. q x && p x) (λ x. and_swap (q x) (p x)) xs)

pub filter_all : {X : Type 0} (p : X → Bool) → ((x : X) → p x ≡ true) → (xs : List X) → filter p xs ≡ xs
filter_all p all [] = refl
filter_all p all (x ∷ xs) = rw (all x) (ap (λ l. x ∷ l) (filter_all p all xs))

pub filter_same : {X : Type 0} (p q : X → Bool) → ((x : X) → p x ≡ q x) → (xs : List X) → filter p xs ≡ filter q xs
filter_same p q same [] = refl
filter_same p q same (x ∷ xs) = ap (λ b. cond b (x ∷ filter p xs) (filter p xs)) (same x) ∙ ap (λ l. cond (q x) (x ∷ l) l) (filter_same p q same xs)

-- no element passes
pub none_passes : {X : Type 0} (p : X → Bool) (xs : List X) → list_any p xs ≡ false → AllByRecursion (λ x. p x ≡ false) xs
none_passes p [] none = tt
none_passes p (x ∷ xs) none = let parts = or_none (p x) (list_any p xs) none in (parts.0, none_passes p xs parts.1)
