-- Filters of lists and of ranges, and lists joined end to end.
use Rattle.std.proofs.Common.{◌≡◌, ℕ, zero, suc, ◌+◌, ◌<◌, ◌≤◌, Bool, true, false, cond, eqb, List, [], ◌∷◌, ◌++◌, length, map, filter, take, get_or, refl, sym, ap, ap₂, ◌∙◌, subst, arith, inl, inr}
use Rattle.std.specs.Prelude.{◌&&◌}
use Rattle.std.specs.List.{flat_map, range_with_len}
use Rattle.std.proofs.lemmas.Bool.{cases_eq, eq-eqb, ne_eqb}
use Rattle.std.proofs.lemmas.List.{take_more, map-append}
use Rattle.std.proofs.lemmas.List.Elements.{filter-append}

-- ---- filters

pub filter-filter : {X : Type 0} (p q : X → Bool) (xs : List X) → filter p (filter q xs) ≡ filter (λ x. q x && p x) xs
filter-filter p q [] = refl
filter-filter p q (x ∷ xs) = by (q x) (filter-filter p q xs)
  where
    by : (b : Bool) → filter p (filter q xs) ≡ filter (λ y. q y && p y) xs → filter p (cond b (x ∷ filter q xs) (filter q xs)) ≡ cond (b && p x) (x ∷ filter (λ y. q y && p y) xs) (filter (λ y. q y && p y) xs)
    by true rest = ap (λ l. cond (p x) (x ∷ l) l) rest
    by false rest = rest

pub filter_same : {X : Type 0} (p q : X → Bool) (xs : List X) (d : X) → ((i : ℕ) → i < length xs → p (get_or xs i d) ≡ q (get_or xs i d)) → filter p xs ≡ filter q xs
filter_same p q [] d same = refl
filter_same p q (x ∷ xs) d same = ap₂ (λ b l. cond b (x ∷ l) l) (same zero (omega arith)) (filter_same p q xs d (λ i low. same (suc i) (omega arith)))

pub filter_alike : {X : Type 0} (p q : X → Bool) → ((x : X) → p x ≡ q x) → (xs : List X) → filter p xs ≡ filter q xs
filter_alike p q same [] = refl
filter_alike p q same (x ∷ xs) = ap₂ (λ b l. cond b (x ∷ l) l) (same x) (filter_alike p q same xs)

pub filter_none : {X : Type 0} (p : X → Bool) (xs : List X) (d : X) → ((i : ℕ) → i < length xs → p (get_or xs i d) ≡ false) → filter p xs ≡ []
filter_none p [] d none = refl
filter_none p (x ∷ xs) d none = ap (λ b. cond b (x ∷ filter p xs) (filter p xs)) (none zero (omega arith)) ∙ filter_none p xs d (λ i low. none (suc i) (omega arith))

pub filter_some : {X : Type 0} (p : X → Bool) (xs : List X) (i : ℕ) (d : X) → i < length xs → p (get_or xs i d) ≡ true → 0 < length (filter p xs)
filter_some p [] i d low here = absurd (omega arith)
filter_some p (x ∷ xs) zero d low here = subst (λ (b : Bool). 0 < length (cond b (x ∷ filter p xs) (filter p xs))) (sym here) (omega arith)
filter_some p (x ∷ xs) (suc i) d low here = by (p x) (filter_some p xs i d (omega arith) here)
  where
    by : (b : Bool) → 0 < length (filter p xs) → 0 < length (cond b (x ∷ filter p xs) (filter p xs))
    by true rest = omega arith
    by false rest = rest

pub filter_more : {X : Type 0} (p : X → Bool) (xs : List X) (i : ℕ) (d : X) → i < length xs → filter p (take (i + 1) xs) ≡ filter p (take i xs) ++ cond (p (get_or xs i d)) (get_or xs i d ∷ []) []
filter_more p xs i d low = ap (filter p) (take_more xs i d low) ∙ filter-append p (take i xs) (get_or xs i d ∷ [])

-- ---- filters of ranges

pub range_none : (p : ℕ → Bool) (a n : ℕ) → ((x : ℕ) → a ≤ x → x < a + n → p x ≡ false) → filter p (range_with_len a n) ≡ []
range_none p a zero none = refl
range_none p a (suc n) none = ap (λ b. cond b (a ∷ filter p (range_with_len (a + 1) n)) (filter p (range_with_len (a + 1) n))) (none a (omega arith) (omega arith)) ∙ range_none p (a + 1) n (λ x low high. none x (omega arith) (omega arith))

-- one number passes
pub range_single : (p : ℕ → Bool) (g a n : ℕ) → a ≤ g → g < a + n → ((x : ℕ) → a ≤ x → x < a + n → p x ≡ eqb x g) → filter p (range_with_len a n) ≡ g ∷ []
range_single p g a zero low high is = absurd (omega arith)
range_single p g a (suc n) low high is = elim (cases_eq a g) [
  | inl here ↦
      (ap (λ b. cond b (a ∷ filter p (range_with_len (a + 1) n)) (filter p (range_with_len (a + 1) n))) (is a (omega arith) (omega arith) ∙ eq-eqb a g here)
      ∙ ap₂ (λ x l. x ∷ l) here (range_none p (a + 1) n (λ x more less. is x (omega arith) (omega arith) ∙ ne_eqb x g (λ e. omega arith))))
  | inr other ↦
      (ap (λ b. cond b (a ∷ filter p (range_with_len (a + 1) n)) (filter p (range_with_len (a + 1) n))) (is a (omega arith) (omega arith) ∙ ne_eqb a g other)
      ∙ range_single p g (a + 1) n (omega arith) (omega arith) (λ x more less. is x (omega arith) (omega arith)))
]

-- the first number that passes
pub range_head : (p : ℕ → Bool) (a n y : ℕ) (ys : List ℕ) → filter p (range_with_len a n) ≡ y ∷ ys → (p y ≡ true) × (y < a + n)
range_head p a zero y ys e = absurd (omega (arith, ap length e))
range_head p a (suc n) y ys e = by (p a) refl e (λ is. range_head p (a + 1) n y ys is)
  where
    by : (b : Bool) → p a ≡ b → cond b (a ∷ filter p (range_with_len (a + 1) n)) (filter p (range_with_len (a + 1) n)) ≡ y ∷ ys
        → (filter p (range_with_len (a + 1) n) ≡ y ∷ ys → (p y ≡ true) × (y < a + 1 + n)) → (p y ≡ true) × (y < a + suc n)
    by true here is rest = let same : a ≡ y = ap (λ l. get_or l 0 a) is in (subst (λ (x : ℕ). p x ≡ true) same here, omega arith)
    by false here is rest = let later = rest is in (later.0, omega (arith, later.1))

-- ---- lists joined end to end

pub filter-flat_map : {X Y : Type 0} (p : Y → Bool) (f : X → List Y) (xs : List X) → filter p (flat_map f xs) ≡ flat_map (λ x. filter p (f x)) xs
filter-flat_map p f [] = refl
filter-flat_map p f (x ∷ xs) = filter-append p (f x) (flat_map f xs) ∙ ap (λ l. filter p (f x) ++ l) (filter-flat_map p f xs)

pub map-flat_map : {X Y Z : Type 0} (g : Y → Z) (f : X → List Y) (xs : List X) → map g (flat_map f xs) ≡ flat_map (λ x. map g (f x)) xs
map-flat_map g f [] = refl
map-flat_map g f (x ∷ xs) = map-append g (f x) (flat_map f xs) ∙ ap (λ l. map g (f x) ++ l) (map-flat_map g f xs)

pub flat_range : {Y : Type 0} (f g : ℕ → List Y) (a n : ℕ) → ((k : ℕ) → a ≤ k → k < a + n → f k ≡ g k) → flat_map f (range_with_len a n) ≡ flat_map g (range_with_len a n)
flat_range f g a zero same = refl
flat_range f g a (suc n) same = ap₂ (λ u v. u ++ v) (same a (omega arith) (omega arith)) (flat_range f g (a + 1) n (λ k low high. same k (omega arith) (omega arith)))

pub map_range : {Y : Type 0} (f g : ℕ → Y) (a n : ℕ) → ((k : ℕ) → a ≤ k → k < a + n → f k ≡ g k) → map f (range_with_len a n) ≡ map g (range_with_len a n)
map_range f g a zero same = refl
map_range f g a (suc n) same = ap₂ (λ u v. u ∷ v) (same a (omega arith) (omega arith)) (map_range f g (a + 1) n (λ k low high. same k (omega arith) (omega arith)))

pub flat_none : {X Y : Type 0} (f : X → List Y) → ((x : X) → f x ≡ []) → (xs : List X) → flat_map f xs ≡ []
flat_none f none [] = refl
flat_none f none (x ∷ xs) = ap₂ (λ u v. u ++ v) (none x) (flat_none f none xs)
