-- Lists read by `get_elem?`: one element is changed, or one comes behind.
use Rattle.std.proofs.Common.{◌≡◌, ◌≢◌, ◌⊎◌, ℕ, zero, suc, ◌+◌, ◌<◌, ◌≤◌, List, [], ◌∷◌, ◌++◌, length, get_or, set, refl, sym, ap, ◌∙◌, subst, inl, inr, ⊎_elim, arith, zero-le}
use Rattle.std.specs.Prelude.{sum_by, All}
use Rattle.std.proofs.lemmas.List.{append-nil, append_assoc, length-append}
use Rattle.std.proofs.lemmas.List.Sums.{sum_by-set, sum_by-cons}
use Rattle.std.proofs.lemmas.List.Elements.{All-weaker}
use mathlib.Core.Option.{some, some-injective, some-ne-none}
use mathlib.Core.List.{IsPrefix}
use lib.ListN.{get_elem?}

module _ {A : Type 0} where
  pub at_below : (l : List A) (i : ℕ) (v : A) → get_elem? l i ≡ some v → i < length l
  at_below [] i v e = absurd (some-ne-none v (sym e))
  at_below (x ∷ xs) zero v e = omega arith
  at_below (x ∷ xs) (suc i) v e = let h = at_below xs i v e in omega arith

  pub at_or : (l : List A) (i : ℕ) (v d : A) → get_elem? l i ≡ some v → get_or l i d ≡ v
  at_or [] i v d e = absurd (some-ne-none v (sym e))
  at_or (x ∷ xs) zero v d e = some-injective _ _ e
  at_or (x ∷ xs) (suc i) v d e = at_or xs i v d e

  pub each_set : (l : List A) (i : ℕ) (w : A) (P : ℕ → A → Type 0) → ((j : ℕ) (v : A) → j ≢ i → get_elem? l j ≡ some v → P j v) → P i w → (j : ℕ) (v : A) → get_elem? (set l i w) j ≡ some v → P j v
  each_set [] i w P others own j v e = absurd (some-ne-none v (sym e))
  each_set (x ∷ xs) zero w P others own zero v e = subst (P 0) (some-injective _ _ e) own
  each_set (x ∷ xs) zero w P others own (suc j) v e = others (suc j) v (λ h. omega arith) e
  each_set (x ∷ xs) (suc i) w P others own zero v e = others 0 v (λ h. omega arith) e
  each_set (x ∷ xs) (suc i) w P others own (suc j) v e = each_set xs i w (λ k. P (suc k)) (λ k u ne at. others (suc k) u (λ h. ne (omega arith)) at) own j v e

  pub each_push : (l : List A) (w : A) (P : ℕ → A → Type 0) → ((j : ℕ) (v : A) → get_elem? l j ≡ some v → P j v) → P (length l) w → (j : ℕ) (v : A) → get_elem? (l ++ w ∷ []) j ≡ some v → P j v
  each_push [] w P others own zero v e = subst (P 0) (some-injective _ _ e) own
  each_push [] w P others own (suc j) v e = absurd (some-ne-none v (sym e))
  each_push (x ∷ xs) w P others own zero v e = others 0 v e
  each_push (x ∷ xs) w P others own (suc j) v e = each_push xs w (λ k. P (suc k)) (λ k u at. others (suc k) u at) own j v e

  pub set_else : (l : List A) (i j : ℕ) (w : A) → j ≢ i → get_elem? (set l i w) j ≡ get_elem? l j
  set_else [] i j w ne = refl
  set_else (x ∷ xs) zero zero w ne = absurd (ne refl)
  set_else (x ∷ xs) zero (suc j) w ne = refl
  set_else (x ∷ xs) (suc i) zero w ne = refl
  set_else (x ∷ xs) (suc i) (suc j) w ne = set_else xs i j w (λ e. ne (ap suc e))

  pub sum_at : (f : A → ℕ) (l : List A) (i : ℕ) (v w : A) → get_elem? l i ≡ some v → sum_by f (set l i w) + f v ≡ sum_by f l + f w
  sum_at f l i v w e = let s = sum_by-set f l i w v (at_below l i v e) in let o : f (get_or l i v) ≡ f v = ap f (at_or l i v v e) in omega arith

  pub sum_at_le : (f : A → ℕ) (l : List A) (i : ℕ) (v : A) → get_elem? l i ≡ some v → f v ≤ sum_by f l
  sum_at_le f [] i v e = absurd (some-ne-none v (sym e))
  sum_at_le f (x ∷ xs) zero v e = let c = sum_by-cons f x xs in let o : f x ≡ f v = ap f (some-injective _ _ e) in omega arith
  sum_at_le f (x ∷ xs) (suc i) v e = let c = sum_by-cons f x xs in let h = sum_at_le f xs i v e in omega arith

  pub sum_none : (f : A → ℕ) (l : List A) → ((i : ℕ) (v : A) → get_elem? l i ≡ some v → f v ≡ 0) → sum_by f l ≡ 0
  sum_none f [] h = refl
  sum_none f (x ∷ xs) h = let c = sum_by-cons f x xs in let a = h 0 x refl in let b = sum_none f xs (λ i v e. h (suc i) v e) in omega arith

  pub sum_under : (f g : A → ℕ) (l : List A) → ((i : ℕ) (v : A) → get_elem? l i ≡ some v → f v ≤ g v) → sum_by f l ≤ sum_by g l
  sum_under f g [] h = zero-le
  sum_under f g (x ∷ xs) h = let c = sum_by-cons f x xs in let d = sum_by-cons g x xs in let a = h 0 x refl in let b = sum_under f g xs (λ i v e. h (suc i) v e) in omega arith

  -- beginnings of a list
  pub prefix_refl : (l : List A) → IsPrefix l l
  prefix_refl l = ([], append-nil l)

  pub prefix_trans : (a b c : List A) → IsPrefix a b → IsPrefix b c → IsPrefix a c
  prefix_trans a b c p q = (p.0 ++ q.0, sym (append_assoc a p.0 q.0) ∙ (ap (λ (x : List A). x ++ q.0) p.1 ∙ q.1))

  pub prefix_length : (a b : List A) → IsPrefix a b → length a ≤ length b
  prefix_length a b p = let l = length-append a p.0 in let e : length (a ++ p.0) ≡ length b = ap length p.1 in omega arith

  -- beginnings of a list begin one that goes on behind it
  pub met_further : (a b : List A) (met : List (List A)) → IsPrefix a b → All (λ xs. IsPrefix xs a) met → All (λ xs. IsPrefix xs b) met
  met_further a b met p h = All-weaker (λ xs. IsPrefix xs a) (λ xs. IsPrefix xs b) (λ xs q. prefix_trans xs a b q p) met h

  -- a list that begins one no longer is that one
  pub prefix_back : (xs ys r : List A) → xs ++ r ≡ ys → length ys ≤ length xs → IsPrefix ys xs
  prefix_back xs ys [] e le = ([], append-nil ys ∙ (sym e ∙ append-nil xs))
  prefix_back xs ys (x ∷ r) e le = let l = length-append xs (x ∷ r) in let m : length (xs ++ x ∷ r) ≡ length ys = ap length e in absurd (omega arith)

  -- of two beginnings of a list, one begins the other
  pub prefix_either : (a b l : List A) → IsPrefix a l → IsPrefix b l → IsPrefix a b ⊎ IsPrefix b a
  prefix_either [] b l p q = inl (b, refl)
  prefix_either (x ∷ a) [] l p q = inr (x ∷ a, refl)
  prefix_either (x ∷ a) (y ∷ b) [] p q = let e = p.1 in absurd (cc)
  prefix_either (x ∷ a) (y ∷ b) (z ∷ l) p q =
      let d = p.1 in
      let e = q.1 in
      let f : a ++ p.0 ≡ l = cc in
      let g : b ++ q.0 ≡ l = cc in
      let h : x ≡ y = cc in
      ⊎_elim (λ (r : IsPrefix a b). inl (r.0, λ k. h k ∷ r.1 k)) (λ (r : IsPrefix b a). inr (r.0, λ k. sym h k ∷ r.1 k)) (prefix_either a b l (p.0, f) (q.0, g))

  -- what two places add to a sum
  pub sum_two_le : (f : A → ℕ) (l : List A) (i j : ℕ) (v w empty : A) → j ≢ i → f empty ≡ 0 → get_elem? l i ≡ some v → get_elem? l j ≡ some w → f v + f w ≤ sum_by f l
  sum_two_le f l i j v w empty ne nothing at there = let a = sum_at f l i v empty at in let b = sum_at_le f (set l i empty) j w (set_else l i j empty ne ∙ there) in omega arith
