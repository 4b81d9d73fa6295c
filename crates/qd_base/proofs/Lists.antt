-- Lemmas on lists: what a filter and joined lists keep of a fact of each element, or of each two.
use Rattle.std.proofs.Common.{◌≡◌, ℕ, zero, suc, ◌<◌, Bool, true, false, cond, List, [], ◌∷◌, ◌++◌, map, length, get_or, Some, slice_get, refl, sym, subst, true≢false, suc-le-suc, le_of_suc-le-suc, arith}
use Rattle.std.specs.List.{AllByRecursion, IsDistinct, filter, Contains}

module _ {X : Type 0} (P : X → Type 0) where
  one : (b : Bool) (x : X) (us : List X) → P x → AllByRecursion P us → AllByRecursion P (cond b (x ∷ us) us)
  one true x us f h = (f, h)
  one false x us f h = h

  pub each-filter : (p : X → Bool) (xs : List X) → AllByRecursion P xs → AllByRecursion P (filter p xs)
  each-filter p [] h = tt
  each-filter p (x ∷ xs) h = one (p x) x (filter p xs) h.0 (each-filter p xs h.1)

  pub each-append : (xs ys : List X) → AllByRecursion P xs → AllByRecursion P ys → AllByRecursion P (xs ++ ys)
  each-append [] ys h k = k
  each-append (x ∷ xs) ys h k = (h.0, each-append xs ys h.1 k)

  pub each-weaker : (Q : X → Type 0) → ((x : X) → P x → Q x) → (xs : List X) → AllByRecursion P xs → AllByRecursion Q xs
  each-weaker Q f [] h = tt
  each-weaker Q f (x ∷ xs) h = (f x h.0, each-weaker Q f xs h.1)

  pub each-both : (Q : X → Type 0) (xs : List X) → AllByRecursion P xs → AllByRecursion Q xs → AllByRecursion (λ x. P x × Q x) xs
  each-both Q [] h k = tt
  each-both Q (x ∷ xs) h k = ((h.0, k.0), each-both Q xs h.1 k.1)

  pub each-fact : ((x : X) → P x) → (xs : List X) → AllByRecursion P xs
  each-fact f [] = tt
  each-fact f (x ∷ xs) = (f x, each-fact f xs)

-- the last of a list
pub get-last : {X : Type 0} (xs : List X) (x : X) → slice_get (xs ++ x ∷ []) (length xs) ≡ Some x
get-last [] x = refl
get-last (y ∷ ys) x = get-last ys x

pub Contains-cons : {X : Type 0} (y : X) (xs : List X) (x : X) → Contains xs x → Contains (y ∷ xs) x
Contains-cons y xs x c = (suc c.0, suc-le-suc c.1, c.2)

module _ {X : Type 0} (p : X → Bool) where
  one_passes : (b : Bool) (x : X) (us : List X) → p x ≡ b → AllByRecursion (λ y. p y ≡ true) us → AllByRecursion (λ y. p y ≡ true) (cond b (x ∷ us) us)
  one_passes true x us e h = (e, h)
  one_passes false x us e h = h

  pub each-passes : (xs : List X) → AllByRecursion (λ y. p y ≡ true) (filter p xs)
  each-passes [] = tt
  each-passes (x ∷ xs) = one_passes (p x) x (filter p xs) refl (each-passes xs)

  within : (b c : Bool) → (b ≡ true → c ≡ true) → (x : X) (us vs : List X) → p x ≡ b → filter p vs ≡ us → filter p (cond c (x ∷ vs) vs) ≡ cond b (x ∷ us) us
  within true true f x us vs e h = rw (e, h) refl
  within true false f x us vs e h = absurd (true≢false (sym (f refl)))
  within false true f x us vs e h = rw (e, h) refl
  within false false f x us vs e h = h

  -- a filter by a narrower test, of what passed a wider one
  pub filter_within : (q : X → Bool) → ((x : X) → p x ≡ true → q x ≡ true) → (xs : List X) → filter p (filter q xs) ≡ filter p xs
  filter_within q f [] = refl
  filter_within q f (x ∷ xs) = within (p x) (q x) (f x) x (filter p xs) (filter q xs) refl (filter_within q f xs)

  none : (b c : Bool) → (b ≡ true → c ≡ false) → (x : X) (vs : List X) → p x ≡ b → filter p vs ≡ [] → filter p (cond c (x ∷ vs) vs) ≡ []
  none true true f x vs e h = absurd (true≢false (f refl))
  none true false f x vs e h = h
  none false true f x vs e h = rw (e, h) refl
  none false false f x vs e h = h

  -- a filter by a test that nothing passes which passed another
  pub filter_apart : (q : X → Bool) → ((x : X) → p x ≡ true → q x ≡ false) → (xs : List X) → filter p (filter q xs) ≡ []
  filter_apart q f [] = refl
  filter_apart q f (x ∷ xs) = none (p x) (q x) (f x) x (filter q xs) refl (filter_apart q f xs)

  kept : (b : Bool) (y : X) (us : List X) (x : X) → Contains us x → Contains (cond b (y ∷ us) us) x
  kept true y us x c = Contains-cons y us x c
  kept false y us x c = c

  kept_first : (b : Bool) (x : X) (us : List X) → b ≡ true → Contains (cond b (x ∷ us) us) x
  kept_first true x us e = (0, omega arith, refl)
  kept_first false x us e = absurd (true≢false (sym e))

  kept_at : (xs : List X) (x : X) (k : ℕ) → k < length xs → get_or xs k x ≡ x → p x ≡ true → Contains (filter p xs) x
  kept_at [] x k lt at e = absurd (omega arith)
  kept_at (y ∷ ys) x zero lt at e = let P : X → Type 0 = λ z. Contains (cond (p z) (z ∷ filter p ys) (filter p ys)) x in subst P (sym at) (kept_first (p x) x (filter p ys) e)
  kept_at (y ∷ ys) x (suc k) lt at e = kept (p y) y (filter p ys) x (kept_at ys x k (le_of_suc-le-suc lt) at e)

  pub Contains-filter : (xs : List X) (x : X) → Contains xs x → p x ≡ true → Contains (filter p xs) x
  Contains-filter xs x c e = kept_at xs x c.0 c.1 c.2 e

module _ {X : Type 0} (e : X → X → Bool) where
  one_distinct : (b : Bool) (x : X) (us : List X) → AllByRecursion (λ y. e x y ≡ false) us → IsDistinct e us → IsDistinct e (cond b (x ∷ us) us)
  unfolding IsDistinct
  one_distinct true x us h d = (h, d)
  one_distinct false x us h d = d

  pub IsDistinct-filter : (p : X → Bool) (xs : List X) → IsDistinct e xs → IsDistinct e (filter p xs)
  unfolding IsDistinct
  IsDistinct-filter p [] d = tt
  IsDistinct-filter p (x ∷ xs) d = one_distinct (p x) x (filter p xs) (each-filter (λ y. e x y ≡ false) p xs d.0) (IsDistinct-filter p xs d.1)

  pub IsDistinct-append : (xs ys : List X) → IsDistinct e xs → IsDistinct e ys → AllByRecursion (λ x. AllByRecursion (λ y. e x y ≡ false) ys) xs → IsDistinct e (xs ++ ys)
  unfolding IsDistinct
  IsDistinct-append [] ys d f h = f
  IsDistinct-append (x ∷ xs) ys d f h = (each-append (λ y. e x y ≡ false) xs ys d.0 h.0, IsDistinct-append xs ys d.1 f h.1)

  pub IsDistinct-cons : (x : X) (xs : List X) → AllByRecursion (λ y. e x y ≡ false) xs → IsDistinct e xs → IsDistinct e (x ∷ xs)
  unfolding IsDistinct
  IsDistinct-cons x xs h d = (h, d)

  pub IsDistinct-nil : IsDistinct e []
  unfolding IsDistinct
  IsDistinct-nil = tt

  apart : (b c : Bool) → (b ≡ true → c ≡ false) → (x : X) (us vs : List X) → AllByRecursion (λ y. e x y ≡ false) vs → AllByRecursion (λ z. e z x ≡ false) us → AllByRecursion (λ z. AllByRecursion (λ y. e z y ≡ false) vs) us → AllByRecursion (λ z. AllByRecursion (λ y. e z y ≡ false) (cond c (x ∷ vs) vs)) (cond b (x ∷ us) us)
  apart true true f x us vs h k ih = absurd (true≢false (f refl))
  apart true false f x us vs h k ih = (h, ih)
  apart false true f x us vs h k ih = each-both (λ z. e z x ≡ false) (λ z. AllByRecursion (λ y. e z y ≡ false) vs) us k ih
  apart false false f x us vs h k ih = ih

  -- In a list without equals, what passes one test has no equal among what passes another, where nothing passes both.
  pub parts_differ : ((x y : X) → e x y ≡ false → e y x ≡ false) → (p q : X → Bool) → ((x : X) → p x ≡ true → q x ≡ false) → (xs : List X) → IsDistinct e xs → AllByRecursion (λ x. AllByRecursion (λ y. e x y ≡ false) (filter q xs)) (filter p xs)
  unfolding IsDistinct
  parts_differ s p q f [] d = tt
  parts_differ s p q f (x ∷ xs) d =
      apart (p x) (q x) (f x) x (filter p xs) (filter q xs) (each-filter (λ y. e x y ≡ false) q xs d.0)
      (each-weaker (λ y. e x y ≡ false) (λ y. e y x ≡ false) (s x) (filter p xs) (each-filter (λ y. e x y ≡ false) p xs d.0))
      (parts_differ s p q f xs d.1)

-- A test of a part, and the same test over the parts.
module _ {X Y : Type 0} (f : X → Y) where
  pub each-from_map : (P : Y → Type 0) (xs : List X) → AllByRecursion P (map f xs) → AllByRecursion (λ x. P (f x)) xs
  each-from_map P [] h = tt
  each-from_map P (x ∷ xs) h = (h.0, each-from_map P xs h.1)

  pub each-map : (P : Y → Type 0) (xs : List X) → AllByRecursion (λ x. P (f x)) xs → AllByRecursion P (map f xs)
  each-map P [] h = tt
  each-map P (x ∷ xs) h = (h.0, each-map P xs h.1)

  pub IsDistinct-map : (e : Y → Y → Bool) (xs : List X) → IsDistinct (λ a b. e (f a) (f b)) xs → IsDistinct e (map f xs)
  unfolding IsDistinct
  IsDistinct-map e [] d = tt
  IsDistinct-map e (x ∷ xs) d = (each-map (λ y. e (f x) y ≡ false) xs d.0, IsDistinct-map e xs d.1)

  pub IsDistinct-from_map : (e : Y → Y → Bool) (xs : List X) → IsDistinct e (map f xs) → IsDistinct (λ a b. e (f a) (f b)) xs
  unfolding IsDistinct
  IsDistinct-from_map e [] d = tt
  IsDistinct-from_map e (x ∷ xs) d = (each-from_map (λ y. e (f x) y ≡ false) xs d.0, IsDistinct-from_map e xs d.1)

-- one element more, which equals none
pub IsDistinct-push : {X : Type 0} (e : X → X → Bool) (xs : List X) (y : X) → IsDistinct e xs → AllByRecursion (λ x. e x y ≡ false) xs → IsDistinct e (xs ++ y ∷ [])
IsDistinct-push e xs y d h =
    IsDistinct-append e xs (y ∷ []) d (IsDistinct-cons e y [] tt (IsDistinct-nil e))
    (each-weaker (λ x. e x y ≡ false) (λ x. AllByRecursion (λ z. e x z ≡ false) (y ∷ [])) (λ x g. (g, tt)) xs h)
