-- The first of each kind among numbers below a bound.
use Rattle.std.proofs.Common.{◌≡◌, ℕ, zero, suc, ◌+◌, ◌<◌, Bool, true, false, cond, eqb, List, [], ◌∷◌, ◌++◌, Option, Some, None, length, get_or, refl, sym, ap, ap₂, ◌∙◌, subst, arith, add-one, inl, inr, length-append}
use Rattle.std.specs.Prelude.{unwrap_or}
use Rattle.std.specs.List.{list_any}
use Rattle.std.specs.Cmp.{IsEquivalence, both_ways}
use Rattle.std.proofs.lemmas.Bool.{cases_lt, eq-eqb, ne_eqb, eqb-true, cond-true, cond-false, true≢false}
use Rattle.std.proofs.lemmas.List.{get_or_append_left, get_or_push}
use Rattle.std.proofs.lemmas.Option.{same_Some}
use Rattle.qd_group.specs.Grouping.{leaders, spot, AreGroups}
use Rattle.qd_group.proofs.Spots.{or_last, spot-push, spot-some, spot-none, spot-any, spot-same, any-same, none_at}

leaders-more : (same : ℕ → ℕ → Bool) (n : ℕ) → leaders same (n + 1) ≡ cond (list_any (λ i. same i n) (leaders same n)) (leaders same n) (leaders same n ++ n ∷ [])
leaders-more same n = ap (leaders same) (add-one n)

pub leader_below : (same : ℕ → ℕ → Bool) (n k d : ℕ) → k < length (leaders same n) → get_or (leaders same n) k d < n
leader_below same zero k d low = absurd (omega arith)
leader_below same (suc n) k d low = by (list_any (λ i. same i n) (leaders same n)) low (λ h. leader_below same n k d h)
  where
    by : (b : Bool) → k < length (cond b (leaders same n) (leaders same n ++ n ∷ [])) → (k < length (leaders same n) → get_or (leaders same n) k d < n) → get_or (cond b (leaders same n) (leaders same n ++ n ∷ [])) k d < suc n
    by true h before = omega (arith, before h)
    by false h before = elim (cases_lt k (length (leaders same n))) [
      | inl less ↦ subst (λ (x : ℕ). x < suc n) (sym (get_or_append_left (leaders same n) (n ∷ []) d k less)) (omega (arith, before less))
      | inr more ↦
          (let at : length (leaders same n) ≡ k = omega (arith, length-append (leaders same n) (n ∷ []), h, more) in
          subst (λ (x : ℕ). x < suc n) (sym (get_or_push (leaders same n) n d k at)) (omega arith))
    ]

-- no two leaders are the same
pub leaders_apart : (same : ℕ → ℕ → Bool) (n a b d : ℕ) → a < b → b < length (leaders same n) → same (get_or (leaders same n) a d) (get_or (leaders same n) b d) ≡ false
leaders_apart same zero a b d less low = absurd (omega arith)
leaders_apart same (suc n) a b d less low = by (list_any (λ i. same i n) (leaders same n)) refl low (λ h. leaders_apart same n a b d less h)
  where
    by : (t : Bool) → list_any (λ i. same i n) (leaders same n) ≡ t → b < length (cond t (leaders same n) (leaders same n ++ n ∷ []))
        → (b < length (leaders same n) → same (get_or (leaders same n) a d) (get_or (leaders same n) b d) ≡ false)
        → same (get_or (cond t (leaders same n) (leaders same n ++ n ∷ [])) a d) (get_or (cond t (leaders same n) (leaders same n ++ n ∷ [])) b d) ≡ false
    by true any h before = before h
    by false any h before = elim (cases_lt b (length (leaders same n))) [
      | inl early ↦
          (let a_is : get_or (leaders same n ++ n ∷ []) a d ≡ get_or (leaders same n) a d = get_or_append_left (leaders same n) (n ∷ []) d a (omega arith) in
          let b_is : get_or (leaders same n ++ n ∷ []) b d ≡ get_or (leaders same n) b d = get_or_append_left (leaders same n) (n ∷ []) d b early in
          ap₂ same a_is b_is ∙ before early)
      | inr late ↦
          (let at : length (leaders same n) ≡ b = omega (arith, length-append (leaders same n) (n ∷ []), h, late) in
          let front : a < length (leaders same n) = omega arith in
          ap₂ same (get_or_append_left (leaders same n) (n ∷ []) d a front) (get_or_push (leaders same n) n d b at)
          ∙ none_at (λ i. same i n) (leaders same n) a d any front)
    ]

-- two ways of telling numbers apart that agree below a bound
pub leaders_same : (s t : ℕ → ℕ → Bool) (n : ℕ) → ((i j : ℕ) → i < n → j < n → s i j ≡ t i j) → leaders s n ≡ leaders t n
leaders_same s t zero agree = refl
leaders_same s t (suc n) agree =
    let before : leaders s n ≡ leaders t n = leaders_same s t n (λ i j i_low j_low. agree i j (omega arith) (omega arith)) in
    ap₂ (λ b l. cond b l (l ++ n ∷ []))
    (any-same (λ i. s i n) (λ i. t i n) (leaders s n) (λ k d low. agree (get_or (leaders s n) k d) n (let l = leader_below s n k d low in omega arith) (omega arith))
    ∙ ap (list_any (λ i. t i n)) before)
    before

-- ---- rows by groups

pub groups_none : (same : ℕ → ℕ → Bool) → AreGroups same 0 [] []
groups_none same = record { lead = refl; count = refl; each = λ i low. absurd (omega arith) }

-- one row more, of a group that is there or of the next one
pub groups_more : (same : ℕ → ℕ → Bool) (n number : ℕ) (ns fs more_ns more_fs : List ℕ) → same n n ≡ true → AreGroups same n ns fs → number ≡ unwrap_or (spot (λ f. same f n) fs) (length fs)
    → more_ns ≡ ns ++ number ∷ [] → more_fs ≡ cond (eqb number (length fs)) (fs ++ length ns ∷ []) fs → AreGroups same (n + 1) more_ns more_fs
groups_more same n number ns fs more_ns more_fs self are number_is ns_is fs_is = by (spot (λ f. same f n) fs) refl number_is
  where
    count : length more_ns ≡ n + 1
    count = omega (arith, ap length ns_is, length-append ns (number ∷ []), are.count)

    early : (i : ℕ) → i < n → get_or more_ns i 0 ≡ get_or ns i 0
    early i low = ap (λ (l : List ℕ). get_or l i 0) ns_is ∙ get_or_append_left ns (number ∷ []) 0 i (omega (arith, are.count))

    late : get_or more_ns n 0 ≡ number
    late = ap (λ (l : List ℕ). get_or l n 0) ns_is ∙ get_or_push ns number 0 n are.count

    by : (o : Option ℕ) → spot (λ f. same f n) fs ≡ o → number ≡ unwrap_or o (length fs) → AreGroups same (n + 1) more_ns more_fs
    by None at is =
        let whole : more_fs ≡ fs ++ n ∷ [] = fs_is ∙ cond-true (eqb number (length fs)) (fs ++ length ns ∷ []) fs (eq-eqb number (length fs) is) ∙ ap (λ m. fs ++ m ∷ []) are.count in
        record {
          lead = whole ∙ ap (λ (l : List ℕ). l ++ n ∷ []) are.lead ∙ sym (leaders-more same n ∙ cond-false (list_any (λ i. same i n) (leaders same n)) (leaders same n) (leaders same n ++ n ∷ []) (sym (ap (list_any (λ i. same i n)) are.lead) ∙ spot-none (λ f. same f n) fs at));
          count = count;
          each = λ i low. elim (cases_lt i n) [
            | inl less ↦ ap (spot (λ f. same f i)) whole ∙ spot-push (λ f. same f i) fs n ∙ ap (λ o. or_last o (same n i) (length fs)) (are.each i less) ∙ ap Some (sym (early i less))
            | inr more ↦
                (let here : i ≡ n = omega arith in
                ap (λ j. spot (λ f. same f j) more_fs) here
                ∙ ap (spot (λ f. same f n)) whole ∙ spot-push (λ f. same f n) fs n ∙ ap₂ (λ o b. or_last o b (length fs)) at self ∙ ap Some (sym is) ∙ ap Some (sym (ap (λ j. get_or more_ns j 0) here ∙ late)))
          ];
        }
    by (Some k) at is =
        let there = spot-some (λ f. same f n) fs k 0 at in
        let apart : (number ≡ length fs) → ⊥ = λ e. omega (arith, there.0, is, e) in
        let whole : more_fs ≡ fs = fs_is ∙ cond-false (eqb number (length fs)) (fs ++ length ns ∷ []) fs (ne_eqb number (length fs) apart) in
        record {
          lead = whole ∙ are.lead ∙ sym (leaders-more same n ∙ cond-true (list_any (λ i. same i n) (leaders same n)) (leaders same n) (leaders same n ++ n ∷ []) (sym (ap (list_any (λ i. same i n)) are.lead) ∙ spot-any (λ f. same f n) fs k at));
          count = count;
          each = λ i low. elim (cases_lt i n) [
            | inl less ↦ ap (spot (λ f. same f i)) whole ∙ are.each i less ∙ ap Some (sym (early i less))
            | inr more ↦
                (let here : i ≡ n = omega arith in
                ap (λ j. spot (λ f. same f j) more_fs) here
                ∙ ap (spot (λ f. same f n)) whole ∙ at ∙ ap Some (sym is) ∙ ap Some (sym (ap (λ j. get_or more_ns j 0) here ∙ late)))
          ];
        }

pub first_below : (same : ℕ → ℕ → Bool) (n : ℕ) (ns fs : List ℕ) (k d : ℕ) → AreGroups same n ns fs → k < length fs → get_or fs k d < n
first_below same n ns fs k d are low =
    subst (λ (x : ℕ). x < n) (sym (ap (λ (l : List ℕ). get_or l k d) are.lead)) (leader_below same n k d (omega (arith, ap length are.lead)))

pub number_below : (same : ℕ → ℕ → Bool) (n : ℕ) (ns fs : List ℕ) (i : ℕ) → AreGroups same n ns fs → i < n → get_or ns i 0 < length fs
number_below same n ns fs i are low = (spot-some (λ f. same f i) fs (get_or ns i 0) 0 (are.each i low)).0

-- the same groups, told otherwise
pub groups_turned : (s t : ℕ → ℕ → Bool) (n m : ℕ) (ns fs : List ℕ) → n ≡ m → ((i j : ℕ) → i < n → j < n → s i j ≡ t i j) → AreGroups s n ns fs → AreGroups t m ns fs
groups_turned s t n m ns fs size agree are =
    subst (λ (k : ℕ). AreGroups t k ns fs) size (record {
      lead = are.lead ∙ leaders_same s t n agree;
      count = are.count;
      each = λ i low. spot-same (λ f. t f i) (λ f. s f i) fs (λ k d there. sym (agree (get_or fs k d) i (first_below s n ns fs k d are there) low)) ∙ are.each i low;
    })

module _ (same : ℕ → ℕ → Bool) (laws : IsEquivalence same) (n : ℕ) (ns fs : List ℕ) (are : AreGroups same n ns fs) where
  leads : (i : ℕ) → i < n → same (get_or fs (get_or ns i 0) 0) i ≡ true
  leads i low = (spot-some (λ f. same f i) fs (get_or ns i 0) 0 (are.each i low)).1

  -- rows have one number exactly where they are the same
  pub tells : (i j : ℕ) → i < n → j < n → eqb (get_or ns i 0) (get_or ns j 0) ≡ same i j
  tells i j i_low j_low = both_ways (eqb (get_or ns i 0) (get_or ns j 0)) (same i j) forward backward
    where
      forward : eqb (get_or ns i 0) (get_or ns j 0) ≡ true → same i j ≡ true
      forward e =
          let one : get_or ns i 0 ≡ get_or ns j 0 = eqb-true (get_or ns i 0) (get_or ns j 0) e in
          let mine : same (get_or fs (get_or ns j 0) 0) i ≡ true = ap (λ k. same (get_or fs k 0) i) (sym one) ∙ leads i i_low in
          sym (laws.congr (get_or fs (get_or ns j 0) 0) i j mine) ∙ leads j j_low

      backward : same i j ≡ true → eqb (get_or ns i 0) (get_or ns j 0) ≡ true
      backward e =
          let agree : spot (λ f. same f i) fs ≡ spot (λ f. same f j) fs = spot-same (λ f. same f i) (λ f. same f j) fs (λ k d low. laws.symm (get_or fs k d) i ∙ laws.congr i j (get_or fs k d) e ∙ laws.symm j (get_or fs k d)) in
          eq-eqb (get_or ns i 0) (get_or ns j 0) (same_Some (get_or ns i 0) (get_or ns j 0) (sym (are.each i i_low) ∙ agree ∙ are.each j j_low))

  -- a row is of a group exactly where it is the same as the group's first row
  pub told : (i k : ℕ) → i < n → k < length fs → eqb (get_or ns i 0) k ≡ same (get_or fs k 0) i
  told i k i_low k_low = both_ways (eqb (get_or ns i 0) k) (same (get_or fs k 0) i) forward backward
    where
      forward : eqb (get_or ns i 0) k ≡ true → same (get_or fs k 0) i ≡ true
      forward e = ap (λ m. same (get_or fs m 0) i) (sym (eqb-true (get_or ns i 0) k e)) ∙ leads i i_low

      never : (x y : ℕ) → x < y → y < length fs → same (get_or fs x 0) (get_or fs y 0) ≡ false
      never x y less low = ap (λ (l : List ℕ). same (get_or l x 0) (get_or l y 0)) are.lead ∙ leaders_apart same n x y 0 less (omega (arith, ap length are.lead))

      backward : same (get_or fs k 0) i ≡ true → eqb (get_or ns i 0) k ≡ true
      backward e =
          let alike : same (get_or fs k 0) (get_or fs (get_or ns i 0) 0) ≡ true = laws.congr (get_or fs k 0) i (get_or fs (get_or ns i 0) 0) e ∙ laws.symm i (get_or fs (get_or ns i 0) 0) ∙ leads i i_low in
          let other : same (get_or fs (get_or ns i 0) 0) (get_or fs k 0) ≡ true = laws.symm (get_or fs (get_or ns i 0) 0) (get_or fs k 0) ∙ alike in
          let there : get_or ns i 0 < length fs = number_below same n ns fs i are i_low in
          eq-eqb (get_or ns i 0) k (elim (cases_lt (get_or ns i 0) k) [
            | inl less ↦ absurd (true≢false (sym other ∙ never (get_or ns i 0) k less k_low))
            | inr high ↦ elim (cases_lt k (get_or ns i 0)) [
              | inl more ↦ absurd (true≢false (sym alike ∙ never k (get_or ns i 0) more there))
              | inr low ↦ omega arith
            ]
          ])
