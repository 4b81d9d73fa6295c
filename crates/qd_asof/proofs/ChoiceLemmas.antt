-- The last position that passes a test, and one pass over both sides.
use Rattle.std.proofs.Common.{◌≡◌, ◌≢◌, ℕ, zero, suc, ◌+◌, ◌-◌, ◌<◌, ◌≤◌, Bool, true, false, cond, eqb, List, [], ◌∷◌, ◌++◌, Option, Some, None, length, map, get_or, set, refl, sym, ap, ap₂, ◌∙◌, arith, add-one, subst, All, inl, inr, get_or-set_other, get_or-set_same}
use Rattle.std.specs.Prelude.{◌&&◌, nat_le, nat_lt, replicate}
use Rattle.std.specs.List.{range_with_len}
use Rattle.std.proofs.lemmas.Bool.{cases_eq, cases_lt, eq-eqb, ne_eqb, eqb-true, leb-true, ltb-true, le-leb, lt-ltb, true≢false}
use Rattle.std.proofs.lemmas.List.{get_or_default, get_or-replicate, length-set}
use Rattle.std.proofs.lemmas.List.FromFn.{map-range_with_len_more}
use Rattle.qd_meaning.specs.Joined.{is_early}
use Rattle.qd_asof.specs.Choices.{choice, last_spot, AreLast, IsRising}

-- ---- the last position that passes

pub spot_same : (p q : ℕ → Bool) (n : ℕ) → ((j : ℕ) → j < n → p j ≡ q j) → last_spot p n ≡ last_spot q n
spot_same p q zero same = refl
spot_same p q (suc n) same = ap₂ (λ b o. cond b (Some n) o) (same n (omega arith)) (spot_same p q n (λ j low. same j (omega arith)))

-- positions behind that don't pass
pub spot_short : (p : ℕ → Bool) (n m : ℕ) → n ≤ m → ((j : ℕ) → n ≤ j → j < m → p j ≡ false) → last_spot p m ≡ last_spot p n
spot_short p n zero within none = let same : zero ≡ n = omega arith in ap (last_spot p) same
spot_short p n (suc m) within none = elim (cases_lt n (suc m)) [
  | inl less ↦ ap (λ b. cond b (Some m) (last_spot p m)) (none m (omega arith) (omega arith)) ∙ spot_short p n m (omega arith) (λ j low high. none j low (omega arith))
  | inr more ↦ let same : suc m ≡ n = omega arith in ap (last_spot p) same
]

pub spot_below : (p : ℕ → Bool) (n j : ℕ) → last_spot p n ≡ Some j → j < n
spot_below p zero j e = cc
spot_below p (suc n) j e = by (p n) (last_spot p n) (λ h. spot_below p n j h) e
  where
    by : (b : Bool) (o : Option ℕ) → (o ≡ Some j → j < n) → cond b (Some n) o ≡ Some j → j < suc n
    by true o before e = let same : n ≡ j = cc in omega (arith, same)
    by false o before e = let low = before e in omega (arith, low)

-- ---- the last position of each number

pub last_none : (numbers : List ℕ) (bound : ℕ) (last : List (Option ℕ)) → last ≡ replicate bound None → length last ≡ bound → AreLast numbers 0 last
last_none numbers bound last is size k low = ap (λ (l : List (Option ℕ)). get_or l k None) is ∙ get_or-replicate bound k None None (omega (arith, size))

pub last_more : (numbers : List ℕ) (n : ℕ) (last : List (Option ℕ)) → get_or numbers n 0 < length last → AreLast numbers n last → AreLast numbers (n + 1) (set last (get_or numbers n 0) (Some n))
last_more numbers n last fits are k low = elim (cases_eq k (get_or numbers n 0)) [
  | inl same ↦
      ap (λ (x : ℕ). get_or (set last (get_or numbers n 0) (Some n)) x None) same
      ∙ get_or-set_same last (get_or numbers n 0) (Some n) None fits
      ∙ sym (ap (last_spot (λ j. eqb k (get_or numbers j 0))) (add-one n) ∙ ap (λ b. cond b (Some n) (last_spot (λ j. eqb k (get_or numbers j 0)) n)) (eq-eqb k (get_or numbers n 0) same))
  | inr other ↦
      get_or-set_other last (get_or numbers n 0) k (Some n) None other
      ∙ are k (subst (λ (m : ℕ). k < m) (length-set last (get_or numbers n 0) (Some n)) low)
      ∙ sym (ap (last_spot (λ j. eqb k (get_or numbers j 0))) (add-one n) ∙ ap (λ b. cond b (Some n) (last_spot (λ j. eqb k (get_or numbers j 0)) n)) (ne_eqb k (get_or numbers n 0) other))
]

-- ---- times

-- what is early for a time is early for a later one
pub early_later : (strict : Bool) (t u r : ℕ) → t ≤ u → is_early strict t r ≡ true → is_early strict u r ≡ true
early_later true t u r rise e = lt-ltb r u (let h = ltb-true r t e in omega (arith, h))
early_later false t u r rise e = le-leb r u (let h = leb-true r t e in omega (arith, h))

-- what is behind a time that isn't early isn't early
pub late_behind : (strict : Bool) (t r s : ℕ) → r ≤ s → is_early strict t r ≡ false → is_early strict t s ≡ false
late_behind strict t r s rise e = by (is_early strict t s) refl
  where
    back : (strict : Bool) → is_early strict t s ≡ true → is_early strict t r ≡ true
    back true h = lt-ltb r t (let k = ltb-true s t h in omega (arith, k))
    back false h = le-leb r t (let k = leb-true s t h in omega (arith, k))

    by : (b : Bool) → is_early strict t s ≡ b → is_early strict t s ≡ false
    by false h = h
    by true h = absurd (true≢false (sym (back strict h) ∙ e))

-- ---- one pass

-- before a position all is early for the left rows from one on, and the last of it is known
pub record ArePassed (strict : Bool) (left_times right_numbers right_times : List ℕ) (i next : ℕ) (last : List (Option ℕ)) : Type 0 where
  pub within : next ≤ length right_times
  pub known : AreLast right_numbers next last
  pub early : (j k : ℕ) → j < next → i ≤ k → k < length left_times → is_early strict (get_or left_times k 0) (get_or right_times j 0) ≡ true

pub passed_none : (strict : Bool) (left_times right_numbers right_times : List ℕ) (bound : ℕ) (last : List (Option ℕ)) → last ≡ replicate bound None → length last ≡ bound → ArePassed strict left_times right_numbers right_times 0 0 last
passed_none strict left_times right_numbers right_times bound last is size = record { within = omega arith; known = last_none right_numbers bound last is size; early = λ j k low i_low k_low. absurd (omega arith) }

module _ (strict : Bool) (left_numbers left_times right_numbers right_times : List ℕ) (rising : IsRising left_times) (right_rising : IsRising right_times)
    (i from next : ℕ) (old last : List (Option ℕ)) (here : i < length left_times) (before : ArePassed strict left_times right_numbers right_times i from old) (more : from ≤ next) (within : next ≤ length right_times)
    (known : AreLast right_numbers next last)
    (passed : (j : ℕ) → from ≤ j → j < next → is_early strict (get_or left_times i 0) (get_or right_times j 0) ≡ true)
    (stops : next < length right_times → is_early strict (get_or left_times i 0) (get_or right_times next 0) ≡ false) where
  early_here : (j : ℕ) → j < next → is_early strict (get_or left_times i 0) (get_or right_times j 0) ≡ true
  early_here j low = elim (cases_lt j from) [
    | inl less ↦ before.early j i less (omega arith) here
    | inr high ↦ passed j high low
  ]

  pub passed_more : ArePassed strict left_times right_numbers right_times (i + 1) next last
  passed_more = record {
    within = within;
    known = known;
    early = λ j k low i_low k_low. early_later strict (get_or left_times i 0) (get_or left_times k 0) (get_or right_times j 0) (rising i k (omega arith) k_low) (early_here j low);
  }

  late_here : (j : ℕ) → next ≤ j → j < length right_times → is_early strict (get_or left_times i 0) (get_or right_times j 0) ≡ false
  late_here j low high = late_behind strict (get_or left_times i 0) (get_or right_times next 0) (get_or right_times j 0) (right_rising next j low high) (stops (omega arith))

  and_true : (a b : Bool) → b ≡ true → (a && b) ≡ a
  and_true true b e = e
  and_true false b e = refl

  and_false : (a b : Bool) → b ≡ false → (a && b) ≡ false
  and_false true b e = e
  and_false false b e = refl

  -- what is known of the left row's number is the row that it takes
  pub taken_here : (d : Option ℕ) → get_or left_numbers i 0 < length last → get_or last (get_or left_numbers i 0) d ≡ choice strict left_numbers left_times right_numbers right_times i
  taken_here d fits =
      get_or_default last (get_or left_numbers i 0) d None fits
      ∙ known (get_or left_numbers i 0) fits
      ∙ spot_same (λ j. eqb (get_or left_numbers i 0) (get_or right_numbers j 0)) (λ j. eqb (get_or left_numbers i 0) (get_or right_numbers j 0) && is_early strict (get_or left_times i 0) (get_or right_times j 0)) next (λ j low. sym (and_true (eqb (get_or left_numbers i 0) (get_or right_numbers j 0)) (is_early strict (get_or left_times i 0) (get_or right_times j 0)) (early_here j low)))
      ∙ sym (spot_short (λ j. eqb (get_or left_numbers i 0) (get_or right_numbers j 0) && is_early strict (get_or left_times i 0) (get_or right_times j 0)) next (length right_times) within (λ j low high. and_false (eqb (get_or left_numbers i 0) (get_or right_numbers j 0)) (is_early strict (get_or left_times i 0) (get_or right_times j 0)) (late_here j low high)))
