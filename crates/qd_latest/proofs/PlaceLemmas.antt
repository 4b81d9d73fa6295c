-- The rows of a set at some places, which stand in order.
use Rattle.std.proofs.Common.{◌≡◌, ℕ, zero, suc, ◌+◌, ◌-◌, ◌<◌, ◌≤◌, ◌⊎◌, Bool, true, false, cond, eqb, List, [], ◌∷◌, ◌++◌, Some, length, take, get_or, slice_get, refl, sym, ap, ◌∙◌, arith, subst, inl, inr, eq-eqb}
use Rattle.std.specs.List.{list_any}
use Rattle.std.specs.Ordering.{nat_cmp}
use Rattle.std.specs.List.Sorted.{IsSorted}
use Rattle.std.proofs.lemmas.Bool.{cases_eq, cases_lt, ne_eqb}
use Rattle.std.proofs.lemmas.List.{append-nil, get_or_default, take_all, take_more}
use Rattle.std.proofs.lemmas.List.Folds.{list_any_at, list_any_none}
use Rattle.std.proofs.lemmas.List.Sorted.{IsNonDecreasingBy-from_sort}
use Rattle.std.proofs.lemmas.Option.{get_or_from_slice_get}
use Rattle.qd_expr.specs.Passing.{with_places}
use Rattle.qd_meaning.specs.Latest.{latest}
use Rattle.qd_rows.specs.Sets.{Joined, ResultRows, row_of_place, rows_in, with_place, IsPlaced}
use Rattle.qd_latest.specs.Chains.{cells_of, no_place}
use Rattle.qd_latest.specs.Lasts.{places_where}
use Rattle.qd_latest.specs.Walks.{KeepsAll}
use Rattle.qd_latest.proofs.LastLemmas.{latest_where, where-map, where-push}
use Rattle.qd_latest.proofs.WalkLemmas.{kept_is_last}

length-front : {X : Type 0} (i : ℕ) (xs : List X) → i ≤ length xs → length (take i xs) ≡ i
length-front zero xs low = refl
length-front (suc i) [] low = absurd (omega (arith, low))
length-front (suc i) (x ∷ xs) low = ap (λ k. suc k) (length-front i xs (omega (arith, low)))

zero_add : (a : ℕ) → 0 + a ≡ a
zero_add a = omega arith

-- one item more, which passes or not
where_more : {X : Type 0} (test : ℕ → Bool) (xs : List X) (i : ℕ) (d : X) → i < length xs → places_where test 0 (take (i + 1) xs) ≡ places_where test 0 (take i xs) ++ cond (test i) (get_or xs i d ∷ []) []
where_more test xs i d low =
    ap (places_where test 0) (take_more xs i d low) ∙ where-push test 0 (take i xs) (get_or xs i d)
    ∙ ap (λ k. places_where test 0 (take i xs) ++ cond (test k) (get_or xs i d ∷ []) []) (zero_add (length (take i xs)) ∙ length-front i xs (omega (arith, low)))

-- items that don't pass
where_gap : {X : Type 0} (test : ℕ → Bool) (xs : List X) (d : X) (a n : ℕ) → a + n ≤ length xs → ((i : ℕ) → a ≤ i → i < a + n → test i ≡ false) → places_where test 0 (take (a + n) xs) ≡ places_where test 0 (take a xs)
where_gap test xs d a zero fits none = let e : a + 0 ≡ a = omega arith in ap (λ k. places_where test 0 (take k xs)) e
where_gap test xs d a (suc n) fits none =
    let e : a + suc n ≡ a + n + 1 = omega arith in
    ap (λ k. places_where test 0 (take k xs)) e ∙ where_more test xs (a + n) d (omega (arith, fits))
    ∙ ap (λ b. places_where test 0 (take (a + n) xs) ++ cond b (get_or xs (a + n) d ∷ []) []) (none (a + n) (omega arith) (omega arith))
    ∙ append-nil (places_where test 0 (take (a + n) xs)) ∙ where_gap test xs d a n (omega (arith, fits)) (λ i low high. none i low (omega (arith, high)))

module _ (s : ResultRows) (places : List ℕ) where
  is_one : ℕ → Bool
  is_one i = list_any (eqb i) places

  -- so many rows are gone over, and the first places are those of such rows, or of none
  pub record IsTaken (kept : ResultRows) (index next : ℕ) : Type 0 where
    pub within : next ≤ length s.places
    pub kept_is : kept ≡ with_places s (places_where (λ i. list_any (eqb i) places) 0 (take next s.places))
    pub before : (k : ℕ) → k < index → (get_or places k 0 < next) ⊎ (length s.places ≤ get_or places k 0)

  pub taken_none : (kept : ResultRows) → kept ≡ with_places s [] → IsTaken kept 0 0
  taken_none kept empty = record { within = omega arith; kept_is = empty; before = λ k low. absurd (omega (arith, low)) }

  rises : IsSorted nat_cmp places → (i j : ℕ) → i ≤ j → j < length places → get_or places i 0 ≤ get_or places j 0
  rises sorted i j low high = IsNonDecreasingBy-from_sort (λ (x : ℕ). x) places sorted i j 0 low high

  pub taken_passed : (kept : ResultRows) (index next : ℕ) → (get_or places index 0 < next) ⊎ (length s.places ≤ get_or places index 0) → IsTaken kept index next → IsTaken kept (index + 1) next
  taken_passed kept index next passed is = record {
    within = is.within;
    kept_is = is.kept_is;
    before = λ k low. elim (cases_eq k index) [ inl same ↦ subst (λ n. (get_or places n 0 < next) ⊎ (length s.places ≤ get_or places n 0)) (sym same) passed | inr other ↦ is.before k (omega (arith, low, other)) ];
  }

  -- between the rows that are gone over and the next place there is none
  none_between : (kept : ResultRows) (index next i : ℕ) → IsSorted nat_cmp places → IsTaken kept index next → next ≤ i → i < length s.places → (index < length places → i < get_or places index 0) → list_any (eqb i) places ≡ false
  none_between kept index next i sorted is low there high = list_any_none (eqb i) places (λ k d fits. ne_eqb i (get_or places k d) (λ e.
      let same : i ≡ get_or places k 0 = e ∙ get_or_default places k d 0 fits in
      elim (cases_lt k index) [
        | inl early ↦ elim (is.before k early) [ inl less ↦ omega (arith, same, less, low) | inr far ↦ omega (arith, same, far, there) ]
        | inr late ↦ (let h = high (omega (arith, late, fits)) in let r = rises sorted index k late fits in omega (arith, h, r, same))
      ]))

  pub taken_more : (kept new : ResultRows) (index next p : ℕ) (place : Joined) → IsSorted nat_cmp places → index < length places → p ≡ get_or places index 0 → next ≤ p → p < length s.places → slice_get s.places p ≡ Some place → new ≡ with_place kept place
      → IsTaken kept index next → IsTaken new (index + 1) (p + 1)
  taken_more kept new index next p place sorted low is_p from fits found new_is is = record {
    within = omega (arith, fits);
    kept_is = new_is ∙ ap (λ (x : ResultRows). with_place x place) is.kept_is ∙ ap (with_places s) (sym grown);
    before = λ k less. elim (cases_eq k index) [
      | inl same ↦ (let e : get_or places k 0 ≡ p = ap (λ n. get_or places n 0) same ∙ sym is_p in inl (omega (arith, e)))
      | inr other ↦ elim (is.before k (omega (arith, less, other))) [ inl early ↦ inl (omega (arith, early, from)) | inr far ↦ inr far ]
    ];
  }
    where
      gap : places_where (λ i. list_any (eqb i) places) 0 (take p s.places) ≡ places_where (λ i. list_any (eqb i) places) 0 (take next s.places)
      gap =
          let e : next + (p - next) ≡ p = omega (arith, from) in
          ap (λ n. places_where (λ i. list_any (eqb i) places) 0 (take n s.places)) (sym e)
          ∙ where_gap (λ i. list_any (eqb i) places) s.places no_place next (p - next) (omega (arith, e, fits)) (λ i above below. none_between kept index next i sorted is above (omega (arith, below, e, fits)) (λ there. omega (arith, below, e, is_p)))

      here : list_any (eqb p) places ≡ true
      here = list_any_at (eqb p) places index 0 low (eq-eqb p (get_or places index 0) is_p)

      grown : places_where (λ i. list_any (eqb i) places) 0 (take (p + 1) s.places) ≡ places_where (λ i. list_any (eqb i) places) 0 (take next s.places) ++ place ∷ []
      grown =
          where_more (λ i. list_any (eqb i) places) s.places p no_place fits
          ∙ ap (λ b. places_where (λ i. list_any (eqb i) places) 0 (take p s.places) ++ cond b (get_or s.places p no_place ∷ []) []) here
          ∙ ap (λ (q : Joined). places_where (λ i. list_any (eqb i) places) 0 (take p s.places) ++ q ∷ []) (get_or_from_slice_get s.places p place no_place found)
          ∙ ap (λ (l : List Joined). l ++ place ∷ []) gap

  pub taken_all : (kept : ResultRows) (index next : ℕ) → IsSorted nat_cmp places → length places ≤ index → IsTaken kept index next → kept ≡ with_places s (places_where (λ i. list_any (eqb i) places) 0 s.places)
  taken_all kept index next sorted done is =
      let n : ℕ = length s.places in
      let e : next + (length s.places - next) ≡ length s.places = omega (arith, is.within) in
      is.kept_is
      ∙ ap (with_places s)
      (sym (where_gap (λ i. list_any (eqb i) places) s.places no_place next (n - next) (omega (arith, e)) (λ i above below. none_between kept index next i sorted is above (omega (arith, below, e)) (λ there. absurd (omega (arith, there, done)))))
      ∙ ap (λ k. places_where (λ i. list_any (eqb i) places) 0 (take k s.places)) e
      ∙ ap (places_where (λ i. list_any (eqb i) places) 0) (take_all n s.places (omega arith)))

  pub placed_too : (kept : ResultRows) (index next : ℕ) (p : Joined) → IsTaken kept index next → IsPlaced s p → IsPlaced kept p
  placed_too kept index next p is there = subst (λ (k : ResultRows). IsPlaced k p) (sym is.kept_is) there

-- the rows at the last places of the cells of a column are the last ones by that column
pub kept_rows : (s set : ResultRows) (col : ℕ) (places : List ℕ) → KeepsAll (cells_of s col) places → set ≡ with_places s (places_where (λ i. list_any (eqb i) places) 0 s.places) → rows_in set ≡ latest (col ∷ []) (rows_in s)
kept_rows s set col places keeps is =
    ap rows_in is ∙ where-map (row_of_place s) (λ i. list_any (eqb i) places) 0 s.places
    ∙ latest_where (col ∷ []) (rows_in s) (λ i. list_any (eqb i) places) 0 (λ i low. ap (λ k. list_any (eqb k) places) (zero_add i) ∙ kept_is_last col (rows_in s) places keeps i low)
