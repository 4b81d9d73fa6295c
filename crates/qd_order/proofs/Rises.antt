-- Items in order of a test that is a strict weak order: they are what a stable sort gives, and their first ones are known
-- from the first ones of fewer.
use Rattle.std.proofs.Common.{◌≡◌, ℕ, zero, suc, ◌+◌, ◌-◌, ◌≤◌, ◌<◌, inl, inr, Bool, true, false, not, ◌&&◌, cond, List, [], ◌∷◌, ◌++◌, length, take, get_or, filter, fold, refl, sym, ap, ap₂, subst, ◌∙◌, arith}
use Rattle.std.specs.Cmp.{IsStrictWeakOrder}
use Rattle.std.specs.List.{AllByRecursion}
use Rattle.std.specs.List.Sorted.{IsSortedBy, IsStableBy, ties}
use Rattle.std.proofs.lemmas.Bool.{cases_Bool, both_ways, and_parts, not-true, cond-true, cond-false}
use Rattle.std.proofs.lemmas.List.{append-nil, append_assoc, length-take, take-take}
use Rattle.std.proofs.lemmas.List.Elements.{filter-append, All-from_recursion, recursion_from_All}
use Rattle.std.proofs.lemmas.List.Sums.{fold-append}
use Rattle.std.proofs.lemmas.List.Sorted.{sorted_far}
use Rattle.qd_order.specs.Orders.{arranged, placed_by}

-- an item in front of the first that it stands before
abbrev pub inserted : {X : Type 0} → (X → X → Bool) → X → List X → List X
inserted lt x [] = x ∷ []
inserted lt x (y ∷ ys) = cond (lt x y) (x ∷ y ∷ ys) (y ∷ inserted lt x ys)

-- no item stands before an earlier one
abbrev pub Rises : {X : Type 0} → (X → X → Bool) → List X → Type 0
Rises lt [] = Unit {0}
Rises lt (x ∷ xs) = AllByRecursion (λ y. lt y x ≡ false) xs × Rises lt xs

module _ {X : Type 0} where
  all_map : (P Q : X → Type 0) → ((x : X) → P x → Q x) → (xs : List X) → AllByRecursion P xs → AllByRecursion Q xs
  all_map P Q f [] h = tt
  all_map P Q f (x ∷ xs) h = (f x h.0, all_map P Q f xs h.1)

  none_kept : (p : X → Bool) (xs : List X) → AllByRecursion (λ x. p x ≡ false) xs → filter p xs ≡ []
  none_kept p [] h = refl
  none_kept p (x ∷ xs) h = cond-false (p x) (x ∷ filter p xs) (filter p xs) h.0 ∙ none_kept p xs h.1

  all_kept : (p : X → Bool) (xs : List X) → AllByRecursion (λ x. p x ≡ true) xs → filter p xs ≡ xs
  all_kept p [] h = refl
  all_kept p (x ∷ xs) h = cond-true (p x) (x ∷ filter p xs) (filter p xs) h.0 ∙ ap (λ l. x ∷ l) (all_kept p xs h.1)

module _ {X : Type 0} (lt : X → X → Bool) (o : IsStrictWeakOrder lt) where
  level : (x : X) → lt x x ≡ false
  level x = elim (cases_Bool (lt x x)) [ inl e ↦ o.one_way x x e | inr e ↦ e ]

  -- what stands before an item stands before all that are not before that one
  past : (x y z : X) → lt x y ≡ true → lt z y ≡ false → lt x z ≡ true
  past x y z e h = elim (cases_Bool (lt x z)) [ inl t ↦ t | inr f ↦ absurd (both_ways (lt x y) (o.chain x z y f h) e) ]

  all_past : (x y : X) (ys : List X) → lt x y ≡ true → AllByRecursion (λ z. lt z y ≡ false) ys → AllByRecursion (λ z. lt x z ≡ true) ys
  all_past x y ys e h = all_map (λ z. lt z y ≡ false) (λ z. lt x z ≡ true) (λ z. past x y z e) ys h

  pub placed_inserted : (x : X) (xs : List X) → Rises lt xs → placed_by lt xs x ≡ inserted lt x xs
  placed_inserted x [] up = refl
  placed_inserted x (y ∷ ys) up = elim (cases_Bool (lt x y)) [
    | inl e ↦
        let later = all_past x y ys e up.0 in
        ap₂ (λ (a b : List X). a ++ x ∷ b)
        (cond-false (not (lt x y)) (y ∷ filter (λ z. not (lt x z)) ys) (filter (λ z. not (lt x z)) ys) (ap not e) ∙ none_kept (λ z. not (lt x z)) ys (all_map (λ z. lt x z ≡ true) (λ z. not (lt x z) ≡ false) (λ z t. ap not t) ys later))
        (cond-true (lt x y) (y ∷ filter (λ z. lt x z) ys) (filter (λ z. lt x z) ys) e ∙ ap (λ l. y ∷ l) (all_kept (λ z. lt x z) ys later))
        ∙ sym (cond-true (lt x y) (x ∷ y ∷ ys) (y ∷ inserted lt x ys) e)
    | inr e ↦
        ap₂ (λ (a b : List X). a ++ x ∷ b)
        (cond-true (not (lt x y)) (y ∷ filter (λ z. not (lt x z)) ys) (filter (λ z. not (lt x z)) ys) (ap not e))
        (cond-false (lt x y) (y ∷ filter (λ z. lt x z) ys) (filter (λ z. lt x z) ys) e)
        ∙ ap (λ l. y ∷ l) (placed_inserted x ys up.1)
        ∙ sym (cond-false (lt x y) (x ∷ y ∷ ys) (y ∷ inserted lt x ys) e)
  ]

  all_inserted : (P : X → Type 0) (x : X) (xs : List X) → P x → AllByRecursion P xs → AllByRecursion P (inserted lt x xs)
  all_inserted P x [] px h = (px, tt)
  all_inserted P x (y ∷ ys) px h = elim (lt x y) as (λ b. AllByRecursion P (cond b (x ∷ y ∷ ys) (y ∷ inserted lt x ys))) [ true ↦ (px, h) | false ↦ (h.0, all_inserted P x ys px h.1) ]

  pub rises-inserted : (x : X) (xs : List X) → Rises lt xs → Rises lt (inserted lt x xs)
  rises-inserted x [] up = (tt, tt)
  rises-inserted x (y ∷ ys) up = elim (cases_Bool (lt x y)) [
    | inl e ↦
        let back = o.one_way x y e in
        subst (Rises lt) (sym (cond-true (lt x y) (x ∷ y ∷ ys) (y ∷ inserted lt x ys) e)) ((back, all_map (λ z. lt z y ≡ false) (λ z. lt z x ≡ false) (λ z f. o.chain z y x f back) ys up.0), up)
    | inr e ↦ subst (Rises lt) (sym (cond-false (lt x y) (x ∷ y ∷ ys) (y ∷ inserted lt x ys) e)) (all_inserted (λ z. lt z y ≡ false) x ys e up.0, rises-inserted x ys up.1)
  ]

  pub rises-placed : (x : X) (xs : List X) → Rises lt xs → Rises lt (placed_by lt xs x)
  rises-placed x xs up = subst (Rises lt) (sym (placed_inserted x xs up)) (rises-inserted x xs up)

  rises-fold : (ys xs : List X) → Rises lt ys → Rises lt (fold (placed_by lt) ys xs)
  rises-fold ys [] up = up
  rises-fold ys (x ∷ xs) up = rises-fold (placed_by lt ys x) xs (rises-placed x ys up)

  pub rises-arranged : (xs : List X) → Rises lt (arranged lt xs)
  rises-arranged xs = rises-fold [] xs tt

  -- ---- the items that tie with one

  ties_itself : (x : X) → ties lt x x ≡ true
  ties_itself x = ap₂ (λ a b. not a && not b) (level x) (level x)

  -- what stands behind an item that ties with z doesn't tie with z
  untied : (z x y : X) → ties lt z x ≡ true → lt x y ≡ true → ties lt z y ≡ false
  untied z x y t e =
      let both = and_parts (not (lt z x)) (not (lt x z)) t in
      let behind : lt z y ≡ true = elim (cases_Bool (lt z y)) [ inl h ↦ h | inr h ↦ absurd (both_ways (lt x y) (o.chain x z y (not-true (lt x z) both.1) h) e) ] in
      ap (λ b. not b && not (lt y z)) behind

  behind : (b : Bool) (y : X) (ks ls ms : List X) → ks ≡ ls ++ ms → cond b (y ∷ ks) ks ≡ cond b (y ∷ ls) ls ++ ms
  behind true y ks ls ms e = ap (λ l. y ∷ l) e
  behind false y ks ls ms e = e

  kept_inserted : (z x : X) (xs : List X) → Rises lt xs → filter (ties lt z) (inserted lt x xs) ≡ filter (ties lt z) xs ++ filter (ties lt z) (x ∷ [])
  kept_inserted z x [] up = refl
  kept_inserted z x (y ∷ ys) up = elim (cases_Bool (lt x y)) [
    | inl e ↦
        ap (filter (ties lt z)) (cond-true (lt x y) (x ∷ y ∷ ys) (y ∷ inserted lt x ys) e)
        ∙ elim (cases_Bool (ties lt z x)) [
          | inl t ↦
              let none : filter (ties lt z) (y ∷ ys) ≡ [] = none_kept (ties lt z) (y ∷ ys) (untied z x y t e, all_map (λ w. lt x w ≡ true) (λ w. ties lt z w ≡ false) (λ w h. untied z x w t h) ys (all_past x y ys e up.0)) in
              cond-true (ties lt z x) (x ∷ filter (ties lt z) (y ∷ ys)) (filter (ties lt z) (y ∷ ys)) t
              ∙ ap (λ l. x ∷ l) none
              ∙ sym (ap₂ (λ (a b : List X). a ++ b) none (cond-true (ties lt z x) (x ∷ []) [] t))
          | inr f ↦
              cond-false (ties lt z x) (x ∷ filter (ties lt z) (y ∷ ys)) (filter (ties lt z) (y ∷ ys)) f
              ∙ sym (ap (λ l. filter (ties lt z) (y ∷ ys) ++ l) (cond-false (ties lt z x) (x ∷ []) [] f) ∙ append-nil (filter (ties lt z) (y ∷ ys)))
        ]
    | inr e ↦
        ap (filter (ties lt z)) (cond-false (lt x y) (x ∷ y ∷ ys) (y ∷ inserted lt x ys) e)
        ∙ behind (ties lt z y) y (filter (ties lt z) (inserted lt x ys)) (filter (ties lt z) ys) (filter (ties lt z) (x ∷ [])) (kept_inserted z x ys up.1)
  ]

  kept_fold : (z : X) (ys xs : List X) → Rises lt ys → filter (ties lt z) (fold (placed_by lt) ys xs) ≡ filter (ties lt z) ys ++ filter (ties lt z) xs
  kept_fold z ys [] up = sym (append-nil (filter (ties lt z) ys))
  kept_fold z ys (x ∷ xs) up =
      kept_fold z (placed_by lt ys x) xs (rises-placed x ys up)
      ∙ ap (λ l. l ++ filter (ties lt z) xs) (ap (filter (ties lt z)) (placed_inserted x ys up) ∙ kept_inserted z x ys up)
      ∙ append_assoc (filter (ties lt z) ys) (filter (ties lt z) (x ∷ [])) (filter (ties lt z) xs)
      ∙ ap (λ l. filter (ties lt z) ys ++ l) (sym (filter-append (ties lt z) (x ∷ []) xs))

  pub kept-arranged : (z : X) (xs : List X) → filter (ties lt z) (arranged lt xs) ≡ filter (ties lt z) xs
  kept-arranged z xs = kept_fold z [] xs tt

  -- an item that stands before the first one of some in order ties with none of them
  none_tied : (x y : X) (ys : List X) → Rises lt (y ∷ ys) → lt x y ≡ true → filter (ties lt x) (y ∷ ys) ≡ []
  none_tied x y ys up e =
      none_kept (ties lt x) (y ∷ ys) (ap (λ b. not b && not (lt y x)) e, all_map (λ w. lt x w ≡ true) (λ w. ties lt x w ≡ false) (λ w h. ap (λ b. not b && not (lt w x)) h) ys (all_past x y ys e up.0))

  yes : (z x : X) (xs : List X) → ties lt z x ≡ true → filter (ties lt z) (x ∷ xs) ≡ x ∷ filter (ties lt z) xs
  yes z x xs t = cond-true (ties lt z x) (x ∷ filter (ties lt z) xs) (filter (ties lt z) xs) t

  no : (z x : X) (xs : List X) → ties lt z x ≡ false → filter (ties lt z) (x ∷ xs) ≡ filter (ties lt z) xs
  no z x xs f = cond-false (ties lt z x) (x ∷ filter (ties lt z) xs) (filter (ties lt z) xs) f

  -- items in order that have the same ones that tie with each are the same items
  same_in_order : (xs ys : List X) → Rises lt xs → Rises lt ys → ((z : X) → filter (ties lt z) xs ≡ filter (ties lt z) ys) → xs ≡ ys
  same_in_order [] [] ux uy same = refl
  same_in_order [] (y ∷ ys) ux uy same = let e : [] ≡ y ∷ filter (ties lt y) ys = same y ∙ yes y y ys (ties_itself y) in cc
  same_in_order (x ∷ xs) [] ux uy same = let e : x ∷ filter (ties lt x) xs ≡ [] = sym (yes x x xs (ties_itself x)) ∙ same x in cc
  same_in_order (x ∷ xs) (y ∷ ys) ux uy same =
      let in_ys : filter (ties lt x) (y ∷ ys) ≡ x ∷ filter (ties lt x) xs = sym (same x) ∙ yes x x xs (ties_itself x) in
      let in_xs : filter (ties lt y) (x ∷ xs) ≡ y ∷ filter (ties lt y) ys = same y ∙ yes y y ys (ties_itself y) in
      let low : lt x y ≡ false = elim (cases_Bool (lt x y)) [ inl e ↦ (let f : [] ≡ x ∷ filter (ties lt x) xs = sym (none_tied x y ys uy e) ∙ in_ys in cc) | inr f ↦ f ] in
      let high : lt y x ≡ false = elim (cases_Bool (lt y x)) [ inl e ↦ (let f : [] ≡ y ∷ filter (ties lt y) ys = sym (none_tied y x xs ux e) ∙ in_xs in cc) | inr f ↦ f ] in
      let heads : x ∷ filter (ties lt x) xs ≡ y ∷ filter (ties lt x) ys = sym in_ys ∙ yes x y ys (ap₂ (λ a b. not a && not b) low high) in
      let head : x ≡ y = cc in
      let rest : (z : X) → filter (ties lt z) xs ≡ filter (ties lt z) ys = λ z.
      elim (cases_Bool (ties lt z x)) [
        | inl t ↦ (let h : x ∷ filter (ties lt z) xs ≡ y ∷ filter (ties lt z) ys = sym (yes z x xs t) ∙ same z ∙ yes z y ys (ap (ties lt z) (sym head) ∙ t) in cc)
        | inr f ↦ sym (no z x xs f) ∙ same z ∙ no z y ys (ap (ties lt z) (sym head) ∙ f)
      ] in
      let tails : xs ≡ ys = same_in_order xs ys ux.1 uy.1 rest in
      ap₂ (λ a l. a ∷ l) head tails

  -- what doesn't fall rises
  rises_from : (xs : List X) → ((i j : ℕ) (d : X) → i ≤ j → j < length xs → lt (get_or xs j d) (get_or xs i d) ≡ false) → Rises lt xs
  rises_from [] up = tt
  rises_from (x ∷ xs) up = (recursion_from_All (λ y. lt y x ≡ false) xs (λ k d low. up 0 (suc k) d (omega arith) (omega arith)), rises_from xs (λ i j d low high. up (suc i) (suc j) d (omega arith) (omega arith)))

  -- what a stable sort gives
  pub sorted_arranged : (xs ys : List X) → IsSortedBy lt ys → IsStableBy lt xs ys → ys ≡ arranged lt xs
  sorted_arranged xs ys up stable = same_in_order ys (arranged lt xs) (rises_from ys (λ i j d low high. sorted_far lt o ys up i j d low high)) (rises-arranged xs) (λ z. stable z ∙ sym (kept-arranged z xs))

  -- items in order stay
  pub arranged_rising : (xs : List X) → Rises lt xs → arranged lt xs ≡ xs
  arranged_rising xs up = same_in_order (arranged lt xs) xs (rises-arranged xs) up (λ z. kept-arranged z xs)

  -- ---- the first ones

  all_first : (P : X → Type 0) (n : ℕ) (xs : List X) → AllByRecursion P xs → AllByRecursion P (take n xs)
  all_first P zero xs h = tt
  all_first P (suc n) [] h = tt
  all_first P (suc n) (x ∷ xs) h = (h.0, all_first P n xs h.1)

  pub rises-take : (n : ℕ) (xs : List X) → Rises lt xs → Rises lt (take n xs)
  rises-take zero xs up = tt
  rises-take (suc n) [] up = tt
  rises-take (suc n) (x ∷ xs) up = (all_first (λ y. lt y x ≡ false) n xs up.0, rises-take n xs up.1)

  take-inserted : (n : ℕ) (x : X) (xs : List X) → take n (inserted lt x xs) ≡ take n (inserted lt x (take n xs))
  take-inserted zero x xs = refl
  take-inserted (suc n) x [] = refl
  take-inserted (suc n) x (y ∷ ys) =
      elim (lt x y) as (λ b. take (suc n) (cond b (x ∷ y ∷ ys) (y ∷ inserted lt x ys)) ≡ take (suc n) (cond b (x ∷ y ∷ take n ys) (y ∷ inserted lt x (take n ys)))) [
        | true ↦ ap (λ l. x ∷ l) (sym (take-take n (suc n) (y ∷ ys) (omega arith)))
        | false ↦ ap (λ l. y ∷ l) (take-inserted n x ys)
      ]

  pub arranged_more : (xs : List X) (x : X) → arranged lt (xs ++ x ∷ []) ≡ inserted lt x (arranged lt xs)
  arranged_more xs x = fold-append (placed_by lt) [] xs (x ∷ []) ∙ placed_inserted x (arranged lt xs) (rises-arranged xs)

  -- one item more among some whose first ones are those of others
  pub first_more : (n : ℕ) (x : X) (xs ys : List X) → take n (arranged lt xs) ≡ take n (arranged lt ys) → take n (arranged lt (xs ++ x ∷ [])) ≡ take n (arranged lt (ys ++ x ∷ []))
  first_more n x xs ys same =
      ap (take n) (arranged_more xs x)
      ∙ take-inserted n x (arranged lt xs)
      ∙ ap (λ l. take n (inserted lt x l)) same
      ∙ sym (take-inserted n x (arranged lt ys))
      ∙ ap (take n) (sym (arranged_more ys x))

  -- how many of some items an item doesn't stand before
  abbrev pub ahead : X → List X → ℕ
  ahead x xs = length (filter (λ y. not (lt x y)) xs)

  none_ahead : (x : X) (ys : List X) → AllByRecursion (λ z. lt x z ≡ true) ys → ahead x ys ≡ 0
  none_ahead x ys h = ap length (none_kept (λ y. not (lt x y)) ys (all_map (λ z. lt x z ≡ true) (λ z. not (lt x z) ≡ false) (λ z t. ap not t) ys h))

  -- an item that stands before none of the first ones isn't among them
  skipped : (n : ℕ) (x : X) (xs : List X) → Rises lt xs → n ≤ ahead x xs → take n (inserted lt x xs) ≡ take n xs
  skipped zero x xs up low = refl
  skipped (suc n) x [] up low = absurd (omega arith)
  skipped (suc n) x (y ∷ ys) up low = elim (cases_Bool (lt x y)) [
    | inl e ↦ absurd (let none = none_ahead x (y ∷ ys) (e, all_past x y ys e up.0) in omega arith)
    | inr e ↦
        let more : ahead x (y ∷ ys) ≡ suc (ahead x ys) = ap length (cond-true (not (lt x y)) (y ∷ filter (λ z. not (lt x z)) ys) (filter (λ z. not (lt x z)) ys) (ap not e)) in
        ap (take (suc n)) (cond-false (lt x y) (x ∷ y ∷ ys) (y ∷ inserted lt x ys) e) ∙ ap (λ l. y ∷ l) (skipped n x ys up.1 (omega arith))
  ]

  one_longer : (b : Bool) (x : X) (ks : List X) → length ks ≤ length (cond b (x ∷ ks) ks)
  one_longer true x ks = omega arith
  one_longer false x ks = omega arith

  longer : (b : Bool) (y : X) (ks ls : List X) → length ks ≤ length ls → length (cond b (y ∷ ks) ks) ≤ length (cond b (y ∷ ls) ls)
  longer true y ks ls low = omega arith
  longer false y ks ls low = low

  -- an item that doesn't stand before another stands before no more than that one
  ahead_less : (w x : X) (xs : List X) → lt x w ≡ false → ahead w xs ≤ ahead x xs
  ahead_less w x [] e = omega arith
  ahead_less w x (y ∷ ys) e =
      let rest = ahead_less w x ys e in
      elim (cases_Bool (lt w y)) [
        | inl t ↦
            let mine : ahead w (y ∷ ys) ≡ ahead w ys = ap length (cond-false (not (lt w y)) (y ∷ filter (λ z. not (lt w z)) ys) (filter (λ z. not (lt w z)) ys) (ap not t)) in
            let others = one_longer (not (lt x y)) y (filter (λ z. not (lt x z)) ys) in
            omega arith
        | inr f ↦
            let mine : ahead w (y ∷ ys) ≡ suc (ahead w ys) = ap length (cond-true (not (lt w y)) (y ∷ filter (λ z. not (lt w z)) ys) (filter (λ z. not (lt w z)) ys) (ap not f)) in
            let others : ahead x (y ∷ ys) ≡ suc (ahead x ys) = ap length (cond-true (not (lt x y)) (y ∷ filter (λ z. not (lt x z)) ys) (filter (λ z. not (lt x z)) ys) (ap not (o.chain x w y e f))) in
            omega arith
      ]

  -- so an item behind the last of so many is not among the first ones
  pub first_skipped : (n : ℕ) (w x : X) (xs ys : List X) → take n (arranged lt xs) ≡ take n (arranged lt ys) → n ≤ ahead w (arranged lt xs) → lt x w ≡ false → take n (arranged lt xs) ≡ take n (arranged lt (ys ++ x ∷ []))
  first_skipped n w x xs ys same low e =
      sym (ap (take n) (arranged_more xs x) ∙ skipped n x (arranged lt xs) (rises-arranged xs) (let least = ahead_less w x (arranged lt xs) e in omega arith))
      ∙ first_more n x xs ys same

  ahead-inserted : (w x : X) (xs : List X) → ahead w xs ≤ ahead w (inserted lt x xs)
  ahead-inserted w x [] = omega arith
  ahead-inserted w x (y ∷ ys) =
      elim (lt x y) as (λ b. ahead w (y ∷ ys) ≤ ahead w (cond b (x ∷ y ∷ ys) (y ∷ inserted lt x ys))) [
        | true ↦ one_longer (not (lt w x)) x (filter (λ z. not (lt w z)) (y ∷ ys))
        | false ↦ longer (not (lt w y)) y (filter (λ z. not (lt w z)) ys) (filter (λ z. not (lt w z)) (inserted lt x ys)) (ahead-inserted w x ys)
      ]

  pub ahead_more : (n : ℕ) (w x : X) (xs : List X) → n ≤ ahead w (arranged lt xs) → n ≤ ahead w (arranged lt (xs ++ x ∷ []))
  ahead_more n w x xs low = let more = ahead-inserted w x (arranged lt xs) in let same = ap (ahead w) (arranged_more xs x) in omega arith

  -- the first ones of some in order are all not behind the last of them
  all_ahead : (n : ℕ) (xs : List X) (d : X) → Rises lt xs → length xs ≡ suc n → ahead (get_or xs n d) xs ≡ suc n
  all_ahead n xs d up size =
      ap length (all_kept (λ y. not (lt (get_or xs n d) y)) xs (each n xs up size)) ∙ size
    where
      last_of : (n : ℕ) (x : X) (xs : List X) (P : X → Type 0) → AllByRecursion P xs → n < length xs → P (get_or xs n x)
      last_of n x xs P h low = All-from_recursion P xs h n x low

      each : (n : ℕ) (xs : List X) → Rises lt xs → length xs ≡ suc n → AllByRecursion (λ y. not (lt (get_or xs n d) y) ≡ true) xs
      each n [] up size = absurd (omega arith)
      each zero (x ∷ []) up size = (ap not (level x), tt)
      each zero (x ∷ y ∷ ys) up size = absurd (omega arith)
      each (suc n) (x ∷ xs) up size = (ap not (All-from_recursion (λ y. lt y x ≡ false) xs up.0 n d (omega arith)), each n xs up.1 (omega arith))

  pub cut_ahead : (n : ℕ) (xs : List X) (d : X) → 0 < n → n ≤ length (arranged lt xs) → n ≤ ahead (get_or (take n (arranged lt xs)) (n - 1) d) (arranged lt (take n (arranged lt xs)))
  cut_ahead n xs d some low =
      let up = rises-take n (arranged lt xs) (rises-arranged xs) in
      let size : length (take n (arranged lt xs)) ≡ suc (n - 1) = omega (arith, length-take n (arranged lt xs)) in
      let all = all_ahead (n - 1) (take n (arranged lt xs)) d up size in
      let same = ap (ahead (get_or (take n (arranged lt xs)) (n - 1) d)) (arranged_rising (take n (arranged lt xs)) up) in
      omega arith

  pub cut_same : (n : ℕ) (xs : List X) → take n (arranged lt (take n (arranged lt xs))) ≡ take n (arranged lt xs)
  cut_same n xs = ap (take n) (arranged_rising (take n (arranged lt xs)) (rises-take n (arranged lt xs) (rises-arranged xs))) ∙ take-take n n (arranged lt xs) (omega arith)

  length-inserted : (x : X) (xs : List X) → length (inserted lt x xs) ≡ suc (length xs)
  length-inserted x [] = refl
  length-inserted x (y ∷ ys) = elim (lt x y) as (λ b. length (cond b (x ∷ y ∷ ys) (y ∷ inserted lt x ys)) ≡ suc (suc (length ys))) [ true ↦ refl | false ↦ ap (λ n. suc n) (length-inserted x ys) ]

  pub length-fold : (ys xs : List X) → Rises lt ys → length (fold (placed_by lt) ys xs) ≡ length ys + length xs
  length-fold ys [] up = omega arith
  length-fold ys (x ∷ xs) up =
      let rest = length-fold (placed_by lt ys x) xs (rises-placed x ys up) in
      let one = ap length (placed_inserted x ys up) ∙ length-inserted x ys in
      omega arith

  pub length-arranged : (xs : List X) → length (arranged lt xs) ≡ length xs
  length-arranged xs = let whole = length-fold [] xs tt in omega arith
