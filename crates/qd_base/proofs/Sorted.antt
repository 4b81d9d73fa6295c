-- Rows in order of time that have the same rows of each time are the same rows. So what a stable sort by time gives is
-- what rows give that are put one after another.
use Rattle.std.proofs.Common.{◌≡◌, ◌≢◌, ℕ, suc, ◌<◌, ◌≤◌, inl, inr, Bool, true, false, not, ◌&&◌, eqb, List, [], ◌∷◌, length, map, get_or, Some, refl, sym, ap, ◌∙◌, arith, All}
use Rattle.std.specs.List.{AllByRecursion, IsAllAdjacentAnswer, filter, fold}
use Rattle.std.specs.List.Sorted.{IsNonDecreasingBy, IsStableByKey, ties}
use Rattle.std.specs.Ordering.{nat_cmp, is_le, is_lt, is_some_and}
use Rattle.std.specs.Bool.{OnTrue}
use Rattle.std.proofs.lemmas.Bool.{eq-eqb, ne_eqb, cases_lt}
use Rattle.std.proofs.lemmas.Bool.Decides.{eqb_tells, nat_tests}
use Rattle.std.proofs.lemmas.List.Elements.{filter_agree, recursion_from_All}
use Rattle.std.proofs.lemmas.List.Sorted.{IsNonDecreasingBy-from_all_adjacent}
use Rattle.qd_base.specs.Rows.{Row, put, time_of}
use Rattle.qd_base.specs.Laws.{IsInOrder, at_time}
use Rattle.qd_base.proofs.Lists.{each-map}
use Rattle.qd_base.proofs.Order.{at_time-fold, in_order-fold}

module _ (col : ℕ) where
  yes : (t : ℕ) (x : Row) (xs : List Row) → time_of col x ≡ t → at_time col t (x ∷ xs) ≡ x ∷ at_time col t xs
  yes t x xs e = rw (eq-eqb (time_of col x) t e) refl

  no : (t : ℕ) (x : Row) (xs : List Row) → time_of col x ≢ t → at_time col t (x ∷ xs) ≡ at_time col t xs
  no t x xs e = rw (ne_eqb (time_of col x) t e) refl

  none_later : (t : ℕ) (xs : List Row) → AllByRecursion (λ x. t < time_of col x) xs → at_time col t xs ≡ []
  none_later t [] h = refl
  none_later t (x ∷ xs) h = no t x xs (λ e. let lt = h.0 in absurd (omega arith)) ∙ none_later t xs h.1

  later : (t : ℕ) (x : Row) (xs : List Row) → t < time_of col x → AllByRecursion (λ y. time_of col x ≤ time_of col y) xs → AllByRecursion (λ y. t < time_of col y) xs
  later t x [] lt h = tt
  later t x (y ∷ ys) lt h = (let le = h.0 in omega arith, later t x ys lt h.1)

  first_is_least : (t : ℕ) (x : Row) (xs : List Row) → IsInOrder col (x ∷ xs) → 0 < length (at_time col t (x ∷ xs)) → time_of col x ≤ t
  first_is_least t x xs o some =
      elim (cases_lt t (time_of col x)) [ inl late ↦ (let none = none_later t (x ∷ xs) (late, later t x xs late o.0) in absurd (omega (arith, ap length none))) | inr low ↦ low ]

  pub same_in_order : (xs ys : List Row) → IsInOrder col xs → IsInOrder col ys → ((t : ℕ) → at_time col t xs ≡ at_time col t ys) → xs ≡ ys
  same_in_order [] [] ox oy same = refl
  same_in_order [] (y ∷ ys) ox oy same = let e : [] ≡ y ∷ at_time col (time_of col y) ys = same (time_of col y) ∙ yes (time_of col y) y ys refl in cc
  same_in_order (x ∷ xs) [] ox oy same = let e : x ∷ at_time col (time_of col x) xs ≡ [] = sym (yes (time_of col x) x xs refl) ∙ same (time_of col x) in cc
  same_in_order (x ∷ xs) (y ∷ ys) ox oy same =
      let tx = time_of col x in
      let ty = time_of col y in
      let in_ys : at_time col tx (y ∷ ys) ≡ x ∷ at_time col tx xs = sym (same tx) ∙ yes tx x xs refl in
      let in_xs : at_time col ty (x ∷ xs) ≡ y ∷ at_time col ty ys = same ty ∙ yes ty y ys refl in
      let below : ty ≤ tx = first_is_least tx y ys oy (rw in_ys (omega arith)) in
      let above : tx ≤ ty = first_is_least ty x xs ox (rw in_xs (omega arith)) in
      let time : tx ≡ ty = omega arith in
      let heads : x ∷ at_time col tx xs ≡ y ∷ at_time col tx ys = sym in_ys ∙ yes tx y ys (sym time) in
      let head : x ≡ y = cc in
      let rest : (t : ℕ) → at_time col t xs ≡ at_time col t ys = λ t.
      elim (eqb_tells tx t) [ inl is ↦ (let h : x ∷ at_time col t xs ≡ y ∷ at_time col t ys = sym (yes t x xs is.1) ∙ same t ∙ yes t y ys (sym time ∙ is.1) in cc) | inr isnt ↦ sym (no t x xs isnt.1) ∙ same t ∙ no t y ys (λ e. isnt.1 (time ∙ e)) ] in
      let tails : xs ≡ ys = same_in_order xs ys ox.1 oy.1 rest in
      cc

  pub stable_is_put : (sorted rows : List Row) → IsInOrder col sorted → ((t : ℕ) → at_time col t sorted ≡ at_time col t rows) → sorted ≡ fold (put col []) [] rows
  stable_is_put sorted rows o same = same_in_order sorted (fold (put col []) [] rows) o (in_order-fold col [] [] rows tt) (λ t. same t ∙ sym (at_time-fold col t [] rows))

-- The rows of things that have a time each, which is their row's.
module _ {X : Type 0} (col : ℕ) (row : X → Row) (time : X → ℕ) where
  abbrev IsTimeOf : X → Type 0
  IsTimeOf x = time_of col (row x) ≡ time x

  each_later : (x : X) (xs : List X) → IsNonDecreasingBy time (x ∷ xs) → IsTimeOf x → All IsTimeOf xs → AllByRecursion (λ r. time_of col (row x) ≤ time_of col r) (map row xs)
  each_later x xs rising at each =
      each-map row (λ r. time_of col (row x) ≤ time_of col r) xs
      (recursion_from_All (λ y. time_of col (row x) ≤ time_of col (row y)) xs (λ k d lt. let low : time x ≤ time (get_or xs k d) = rising 0 (suc k) d (omega arith) (omega arith) in let there = each k d lt in omega arith))

  -- where the times don't fall, the rows are in order
  pub images_in_order : (xs : List X) → IsNonDecreasingBy time xs → All IsTimeOf xs → IsInOrder col (map row xs)
  images_in_order [] rising each = tt
  images_in_order (x ∷ xs) rising each = (each_later x xs rising (each 0 x (omega arith)) (λ k d lt. each (suc k) d (omega arith)), images_in_order xs (λ i j d low high. rising (suc i) (suc j) d (omega arith) (omega arith)) (λ k d lt. each (suc k) d (omega arith)))

  -- the rows of one time
  pub images_of_time : (t : ℕ) (xs : List X) → All IsTimeOf xs → at_time col t (map row xs) ≡ map row (filter (λ x. eqb t (time x)) xs)
  images_of_time t [] each = refl
  images_of_time t (x ∷ xs) each =
      let at : time_of col (row x) ≡ time x = each 0 x (omega arith) in
      let rest = images_of_time t xs (λ k d lt. each (suc k) d (omega arith)) in
      elim (eqb_tells t (time x)) [
        | inl same ↦ yes col t (row x) (map row xs) (at ∙ sym same.1) ∙ ap (λ l. row x ∷ l) rest ∙ rw same.0 refl
        | inr other ↦ no col t (row x) (map row xs) (λ e. other.1 (sym e ∙ at)) ∙ rest ∙ rw other.0 refl
      ]

tied : (m n : ℕ) → eqb m n ≡ (not (is_lt (nat_cmp m n)) && not (is_lt (nat_cmp n m)))
tied m n = grind (arith, nat_tests)

tested : (m n : ℕ) → is_some_and is_le (Some (nat_cmp m n)) ≡ true → m ≤ n
tested m n e = grind (arith, nat_tests)

-- Elements by a number of each.
module _ {X : Type 0} (key : X → ℕ) where
  -- a stable sort by the number keeps those of one number in the order that they had
  pub same_of_key : (make : ℕ → X) → ((t : ℕ) → key (make t) ≡ t) → (xs ys : List X) → IsStableByKey key nat_cmp xs ys → (t : ℕ) → filter (λ x. eqb t (key x)) ys ≡ filter (λ x. eqb t (key x)) xs
  same_of_key make made xs ys stable t =
      let by : X → Bool = ties (λ (a b : X). is_lt (nat_cmp (key a) (key b))) (make t) in
      let is : X → Bool = λ x. eqb t (key x) in
      let same : (x : X) → is x ≡ by x = λ x. ap (λ k. eqb k (key x)) (sym (made t)) ∙ tied (key (make t)) (key x) in
      filter_agree is by same ys ∙ stable (make t) ∙ sym (filter_agree is by same xs)

  -- where `is_sorted_by_key` says so, the numbers don't fall
  pub rises_by_key : (xs : List X) (r : Bool) → IsAllAdjacentAnswer (λ x y b. b ≡ is_some_and is_le (Some (nat_cmp (key x) (key y)))) xs r → OnTrue r (IsNonDecreasingBy key xs)
  rises_by_key xs true h = IsNonDecreasingBy-from_all_adjacent key xs (λ k d l. tested _ _ (sym (h k d l)))
  rises_by_key xs false h = tt
