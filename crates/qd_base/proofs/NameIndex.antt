-- What an index of keys finds, and that it stays one when a key is added.
use Rattle.std.proofs.Common.{◌≡◌, ℕ, zero, suc, ◌+◌, ◌-◌, ◌<◌, ◌≤◌, ◌≢◌, Bool, true, false, cond, not, ltb, List, [], ◌∷◌, ◌++◌, Option, Some, None, Result, Ok, Err, IfOk, IfErr, map, length, get_or, set, insert, position, Ordering, Less, Equal, Greater, nat_cmp, is_eq, is_lt, refl, sym, ap, ap₂, ◌∙◌, subst, subst₂, true≢false, inl, inr, lt_irrefl, le_of_eq, length-append, get_or-append-add, arith}
use Rattle.std.specs.Cmp.{IsTotalOrder}
use Rattle.std.specs.Cmp.Lexicographic.{slice_cmp, texts_ties, on_texts}
use Rattle.std.specs.List.{position_or_len, prefix_len}
use Rattle.std.specs.List.Sorted.{IsSearchInRange, IsBinarySearchResult, IsNonDecreasingBy}
use Rattle.std.specs.Ordering.{ordering_index, ordering_reverse}
use Rattle.std.specs.Str.{str_to_ascii_lowercase, str_eq_ignore_ascii_case}
use Rattle.std.proofs.lemmas.Bool.{cond-true, cond-false, lt-ltb, le-ltb, cases_lt}
use Rattle.std.proofs.lemmas.Cmp.{tied_back, tied_itself}
use Rattle.std.proofs.lemmas.List.{get_or_default, get_or_append_left, get_or-map, length-map, map_push, map-set, set-get_or}
use Rattle.std.proofs.lemmas.List.Edits.{length-insert, get_or-insert_below, get_or-insert_at, get_or-insert_above}
use Rattle.std.proofs.lemmas.List.Sorted.{searchable_from_sorted}
use Rattle.std.proofs.lemmas.List.Sums.{position_or_len_is}
use Rattle.qd_base.specs.NameIndex.{name_cmp, with_place, IsIndex, IsAt, IsGap}

-- ---- the first that passes

module _ {X : Type 0} (p : X → Bool) (xs : List X) where
  pub position-is : (i : ℕ) (d : X) → i < length xs → ((k : ℕ) → k < i → p (get_or xs k d) ≡ false) → p (get_or xs i d) ≡ true → position p xs ≡ Some i
  position-is i d lt before here =
      let e : position_or_len p xs ≡ i = position_or_len_is p xs i d (omega arith) before (λ _. here) in
      rw e (cond-true (ltb i (length xs)) (Some i) None (lt-ltb i (length xs) lt))

  pub position-none : (d : X) → ((k : ℕ) → k < length xs → p (get_or xs k d) ≡ false) → position p xs ≡ None
  position-none d fails =
      let e : position_or_len p xs ≡ length xs = position_or_len_is p xs (length xs) d (omega arith) fails (λ h. absurd (lt_irrefl (length xs) h)) in
      rw e (cond-false (ltb (length xs) (length xs)) (Some (length xs)) None (le-ltb (length xs) (length xs) (omega arith)))

not_equal : (r : Ordering) → (r ≢ Equal) → is_eq r ≡ false
not_equal Less f = refl
not_equal Equal f = absurd (f refl)
not_equal Greater f = refl

Less≢Equal : Less ≢ Equal
Less≢Equal e = true≢false (ap is_lt e)

Greater≢Equal : Greater ≢ Equal
Greater≢Equal e = true≢false (sym (ap is_eq e))

-- ---- what is found

module _ {K : Type 0} (cmp : K → K → Ordering) (o : IsTotalOrder cmp) (d : K) (keys : List K) (order : List ℕ) (index : IsIndex cmp d keys order) (x : K) where
  abbrev key : ℕ → K
  key k = get_or keys (get_or order k 0) d

  not_below : (a b : K) → cmp a b ≡ Less → is_lt (cmp b a) ≡ false
  not_below a b e = ap is_lt (o.antisymm b a ∙ ap ordering_reverse e)

  -- the comparisons with a key rise along the order, as a binary search asks
  comparisons_rise : IsNonDecreasingBy (λ at. ordering_index (cmp (get_or keys at d) x)) order
  comparisons_rise =
      searchable_from_sorted o (λ at. get_or keys at d) order x (λ k e _ lt.
      rw (get_or_default order (k + 1) e 0 lt, get_or_default order k e 0 (omega arith)) (not_below (key k) (key (k + 1)) (index.rises k (k + 1) (omega arith) lt)))

  -- a binary search ends where the order has the key, or in the gap for it
  pub searched : (r : Result ℕ ℕ) → IsSearchInRange r (length order) → IsBinarySearchResult (λ at. cmp (get_or keys at d) x) order r → record { found : IfOk r (IsAt cmp d keys order x); absent : IfErr r (IsGap cmp d keys order x) }
  searched (Ok k) in_range equal = record { found = record { in_range = in_range; has_key = equal 0 }; absent = tt }
  searched (Err k) in_range parted = record {
    found = tt;
    absent = record {
      in_range = in_range;
      less_before = λ j lt. (parted comparisons_rise).0 j 0 (omega arith) lt;
      greater_after = λ j le lt. (parted comparisons_rise).1 j 0 le lt;
    };
  }

  -- no two places of the order have the key
  apart : (j k : ℕ) → j < length order → k < length order → cmp (key j) x ≡ Equal → cmp (key k) x ≡ Equal → (j ≢ k) → ⊥
  apart j k jl kl e f differ =
      let g : cmp (key j) (key k) ≡ Equal = o.congr (key j) x (key k) e ∙ tied_back o (key k) x f in
      elim (cases_lt j k) [
        | inl lt ↦ Less≢Equal (sym (index.rises j k lt kl) ∙ g)
        | inr le ↦ Less≢Equal (sym (index.rises k j (omega arith) jl) ∙ tied_back o (key j) (key k) g)
      ]

  -- a place in the list that has the key is covered by one of the order
  covering : (i : ℕ) → i < length keys → cmp (get_or keys i d) x ≡ Equal → (k : ℕ) × (k < length order) × (get_or order k 0 ≤ i) × (cmp (key k) x ≡ Equal)
  covering i il e = let c = index.covers i il in (c.0, c.1, c.2, o.congr (key c.0) (get_or keys i d) x c.3 ∙ e)

  pub found_at : (k : ℕ) → IsAt cmp d keys order x k → position (λ y. is_eq (cmp y x)) keys ≡ Some (get_or order k 0)
  found_at k at =
      position-is (λ y. is_eq (cmp y x)) keys (get_or order k 0) d (index.in_range k at.in_range)
      (λ i lt. not_equal (cmp (get_or keys i d) x) (λ e.
      let c = covering i (omega (arith, index.in_range k at.in_range)) e in
      apart c.0 k c.1 at.in_range c.3 at.has_key (λ q. lt_irrefl (get_or order k 0) (subst (λ m. get_or order m 0 < get_or order k 0) q (omega (arith, c.2))))))
      (ap is_eq at.has_key)

  pub found_none : (k : ℕ) → IsGap cmp d keys order x k → position (λ y. is_eq (cmp y x)) keys ≡ None
  found_none k gap =
      position-none (λ y. is_eq (cmp y x)) keys d (λ i lt. not_equal (cmp (get_or keys i d) x) (λ e.
      let c = covering i lt e in
      elim (cases_lt c.0 k) [
        | inl h ↦ Less≢Equal (sym (gap.less_before c.0 h) ∙ c.3)
        | inr h ↦ Greater≢Equal (sym (gap.greater_after c.0 h c.1) ∙ c.3)
      ]))

-- ---- one key more

module _ {K : Type 0} (cmp : K → K → Ordering) (o : IsTotalOrder cmp) (d : K) (keys : List K) (order : List ℕ) (index : IsIndex cmp d keys order) (x : K) where
  abbrev old_key : ℕ → K
  old_key k = get_or keys (get_or order k 0) d

  abbrev more : List K
  more = keys ++ x ∷ []

  length_more : length more ≡ length keys + 1
  length_more = omega (arith, length-append keys (x ∷ []))

  more_below : (i : ℕ) → i < length keys → get_or more i d ≡ get_or keys i d
  more_below i lt = get_or_append_left keys (x ∷ []) d i lt

  more_last : (i : ℕ) → i ≡ length keys → get_or more i d ≡ x
  more_last i e = subst (λ n. get_or more n d ≡ x) {x = length keys + 0} (omega arith) (get_or-append-add keys (x ∷ []) 0 d)

  last_place : (i : ℕ) → i < length more → length keys ≤ i → i ≡ length keys
  last_place i lt le = omega (arith, length_more)

  -- the key was there already
  kept : (k : ℕ) → IsAt cmp d keys order x k → IsIndex cmp d more order
  kept k at = record {
    in_range = λ j lt. omega (arith, index.in_range j lt, length_more);
    rises = λ i j lt jl. ap₂ cmp (more_below (get_or order i 0) (index.in_range i (omega arith))) (more_below (get_or order j 0) (index.in_range j jl)) ∙ index.rises i j lt jl;
    covers = λ i lt. elim (cases_lt i (length keys)) [
      | inl h ↦ let c = index.covers i h in (c.0, c.1, c.2, ap₂ cmp (more_below (get_or order c.0 0) (index.in_range c.0 c.1)) (more_below i h) ∙ c.3)
      | inr h ↦ (k, at.in_range, omega (arith, index.in_range k at.in_range), ap₂ cmp (more_below (get_or order k 0) (index.in_range k at.in_range)) (more_last i (last_place i lt h)) ∙ at.has_key)
    ];
  }

  module _ (p : ℕ) (gap : IsGap cmp d keys order x p) where
    abbrev new : List ℕ
    new = insert order p (length keys)

    abbrev new_key : ℕ → K
    new_key k = get_or more (get_or new k 0) d

    length_new : length new ≡ length order + 1
    length_new = length-insert order p (length keys) gap.in_range

    place_below : (j : ℕ) → j < p → get_or new j 0 ≡ get_or order j 0
    place_below j lt = get_or-insert_below order p (length keys) 0 j lt gap.in_range

    place_here : (j : ℕ) → j ≡ p → get_or new j 0 ≡ length keys
    place_here j e = subst (λ n. get_or new n 0 ≡ length keys) (sym e) (get_or-insert_at order p (length keys) 0 gap.in_range)

    place_above : (j : ℕ) → p < j → get_or new j 0 ≡ get_or order (j - 1) 0
    place_above j lt = subst (λ n. get_or new n 0 ≡ get_or order (j - 1) 0) {x = j - 1 + 1} (omega arith) (get_or-insert_above order p (length keys) 0 (j - 1) (omega arith) gap.in_range)

    key_below : (j : ℕ) → j < p → new_key j ≡ old_key j
    key_below j lt = ap (λ i. get_or more i d) (place_below j lt) ∙ more_below (get_or order j 0) (index.in_range j (omega (arith, gap.in_range)))

    key_here : (j : ℕ) → j ≡ p → new_key j ≡ x
    key_here j e = more_last (get_or new j 0) (place_here j e)

    key_above : (j : ℕ) → p < j → j < length new → new_key j ≡ old_key (j - 1)
    key_above j lt jl = ap (λ i. get_or more i d) (place_above j lt) ∙ more_below (get_or order (j - 1) 0) (index.in_range (j - 1) (omega (arith, length_new)))

    above : (j : ℕ) → p ≤ j → j < length order → cmp x (old_key j) ≡ Less
    above j le lt = o.antisymm x (old_key j) ∙ ap ordering_reverse (gap.greater_after j le lt)

    inserted_rises : (i j : ℕ) → i < j → j < length new → cmp (new_key i) (new_key j) ≡ Less
    inserted_rises i j lt jl = elim (cases_lt j p) [
      | inl jb ↦ ap₂ cmp (key_below i (omega arith)) (key_below j jb) ∙ index.rises i j lt (omega (arith, gap.in_range))
      | inr jp ↦ elim (cases_lt p j) [
        | inr pj ↦ ap₂ cmp (key_below i (omega arith)) (key_here j (omega arith)) ∙ gap.less_before i (omega arith)
        | inl pj ↦ elim (cases_lt i p) [
          | inl ib ↦ ap₂ cmp (key_below i ib) (key_above j pj jl) ∙ index.rises i (j - 1) (omega arith) (omega (arith, length_new))
          | inr ip ↦ elim (cases_lt p i) [
            | inl pi ↦ ap₂ cmp (key_above i pi (omega arith)) (key_above j pj jl) ∙ index.rises (i - 1) (j - 1) (omega arith) (omega (arith, length_new))
            | inr pi ↦ ap₂ cmp (key_here i (omega arith)) (key_above j pj jl) ∙ above (j - 1) (omega arith) (omega (arith, length_new))
          ]
        ]
      ]
    ]

    inserted_in_range : (j : ℕ) → j < length new → get_or new j 0 < length more
    inserted_in_range j jl = elim (cases_lt j p) [
      | inl jb ↦ omega (arith, place_below j jb, index.in_range j (omega (arith, gap.in_range)), length_more)
      | inr jp ↦ elim (cases_lt p j) [
        | inl pj ↦ omega (arith, place_above j pj, index.in_range (j - 1) (omega (arith, length_new)), length_more)
        | inr pj ↦ omega (arith, place_here j (omega arith), length_more)
      ]
    ]

    inserted_covers : (i : ℕ) → i < length more → (k : ℕ) × (k < length new) × (get_or new k 0 ≤ i) × (cmp (new_key k) (get_or more i d) ≡ Equal)
    inserted_covers i lt = elim (cases_lt i (length keys)) [
      | inl h ↦ let c = index.covers i h in elim (cases_lt c.0 p) [
        | inl cb ↦ (c.0, omega (arith, length_new, c.1), omega (arith, place_below c.0 cb, c.2), ap₂ cmp (key_below c.0 cb) (more_below i h) ∙ c.3)
        | inr pc ↦ (c.0 + 1, omega (arith, length_new, c.1), omega (arith, get_or-insert_above order p (length keys) 0 c.0 pc gap.in_range, c.2), ap₂ cmp (ap (λ n. get_or more n d) (get_or-insert_above order p (length keys) 0 c.0 pc gap.in_range) ∙ more_below (get_or order c.0 0) (index.in_range c.0 c.1)) (more_below i h) ∙ c.3)
      ]
      | inr h ↦ (p, omega (arith, length_new, gap.in_range), omega (arith, place_here p refl), ap₂ cmp (key_here p refl) (more_last i (last_place i lt h)) ∙ tied_itself o x)
    ]

    inserted : IsIndex cmp d more new
    inserted = record { in_range = inserted_in_range; rises = inserted_rises; covers = inserted_covers }

  pub added : (r : Result ℕ ℕ) → IfOk r (IsAt cmp d keys order x) → IfErr r (IsGap cmp d keys order x) → IsIndex cmp d (keys ++ x ∷ []) (with_place order r (length keys))
  added (Ok k) at gap = kept k at
  added (Err k) at gap = inserted k gap

pub IsIndex-nil : {K : Type 0} (cmp : K → K → Ordering) (d : K) → IsIndex cmp d [] []
IsIndex-nil cmp d = record {
  in_range = λ k lt. absurd (omega arith);
  rises = λ j k lt kl. absurd (omega arith);
  covers = λ i lt. absurd (omega arith);
}

-- ---- names

pub names_total : IsTotalOrder name_cmp
names_total = on_texts str_to_ascii_lowercase

module _ {T : Type 0} (name_of : T → List ℕ) (name : List ℕ) where
  first_of : (xs : List T) → prefix_len (λ x. not (str_eq_ignore_ascii_case (name_of x) name)) xs ≡ prefix_len (λ n. not (is_eq (name_cmp n name))) (map name_of xs)
  first_of [] = refl
  first_of (x ∷ xs) = ap₂ (λ b n. cond (not b) (1 + n) 0) (texts_ties (str_to_ascii_lowercase (name_of x)) (str_to_ascii_lowercase name)) (first_of xs)

  -- the position of a name, by the test of names and by their order
  pub position-names : (xs : List T) → position (λ x. str_eq_ignore_ascii_case (name_of x) name) xs ≡ position (λ n. is_eq (name_cmp n name)) (map name_of xs)
  position-names xs = ap₂ (λ n m. cond (ltb n m) (Some n) None) (first_of xs) (sym (length-map xs name_of))

  module _ (xs : List T) (order : List ℕ) (index : IsIndex name_cmp [] (map name_of xs) order) where
    pub name_found : (k i : ℕ) → IsAt name_cmp [] (map name_of xs) order name k → i ≡ get_or order k i → Some i ≡ position (λ x. str_eq_ignore_ascii_case (name_of x) name) xs
    name_found k i at read =
        ap Some (read ∙ get_or_default order k i 0 at.in_range)
        ∙ sym (position-names xs ∙ found_at name_cmp names_total [] (map name_of xs) order index name k at)

    pub name_absent : (k : ℕ) → IsGap name_cmp [] (map name_of xs) order name k → None ≡ position (λ x. str_eq_ignore_ascii_case (name_of x) name) xs
    name_absent k gap = sym (position-names xs ∙ found_none name_cmp names_total [] (map name_of xs) order index name k gap)

    -- the index of one item more
    pub name_added : (x : T) (place : Result ℕ ℕ) → name ≡ name_of x → IfOk place (IsAt name_cmp [] (map name_of xs) order name) → IfErr place (IsGap name_cmp [] (map name_of xs) order name) → IsIndex name_cmp [] (map name_of (xs ++ x ∷ [])) (with_place order place (length xs))
    name_added x place e at gap =
        subst₂ (λ (keys : List (List ℕ)) (n : ℕ). IsIndex name_cmp [] keys (with_place order place n))
        (ap (λ n. map name_of xs ++ n ∷ []) e ∙ sym (map_push name_of xs x)) (length-map xs name_of)
        (added name_cmp names_total [] (map name_of xs) order index name place at gap)

-- an item in place of one of its name leaves the names as they are
pub names_kept : {T : Type 0} (name_of : T → List ℕ) (xs : List T) (i : ℕ) (x y : T) → i < length xs → x ≡ get_or xs i x → name_of y ≡ name_of x → map name_of (set xs i y) ≡ map name_of xs
names_kept name_of xs i x y lt at same =
    map-set name_of xs i y
    ∙ ap (set (map name_of xs) i) (same ∙ ap name_of at ∙ sym (get_or-map name_of xs i x (name_of x) lt))
    ∙ set-get_or (map name_of xs) i (name_of x)
