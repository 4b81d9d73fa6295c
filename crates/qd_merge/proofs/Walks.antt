-- Shares by where parts begin and end, and that they are those by owners.
use Rattle.std.proofs.Common.{◌≡◌, ◌≢◌, ◌⊎◌, ℕ, zero, suc, ◌+◌, ◌-◌, ◌<◌, ◌≤◌, min, max, Bool, true, false, not, ◌&&◌, cond, eqb, ltb, leb, List, [], ◌∷◌, ◌++◌, length, map, take, drop, get_or, refl, sym, ap, ap₂, ◌∙◌, arith, All, Option, Some, None, is_some, subst, inl, inr, slice_range, length-drop, append_assoc}
use Rattle.std.specs.List.{filter}
use Rattle.std.specs.List.Sorted.{IsNonDecreasing}
use Rattle.std.specs.Option.{option_or}
use Rattle.std.proofs.lemmas.Bool.{lt-ltb, le-ltb, le-leb, lt-leb, eq-eqb, ne_eqb, cases_lt}
use Rattle.std.proofs.lemmas.List.{length-take}
use Rattle.std.proofs.lemmas.Option.{none-some, same_Some}
use Rattle.qd_base.specs.declared.limits.TheConstants.{MAX_TIME}
use Rattle.qd_base.specs.declared.part.Part.{Part}
use Rattle.qd_base.specs.declared.unit.TimeUnit.{TimeUnit}
use Rattle.qd_time.specs.Units.{start_of, unit_of}
use Rattle.qd_time.proofs.UnitLemmas.{in_unit}
use Rattle.qd_merge.specs.declared.shares.Rules.{Rules}
use Rattle.qd_merge.specs.declared.shares.Share.{Share}
use Rattle.qd_merge.specs.declared.shares.Share.TheVariants as share
use Rattle.qd_merge.specs.Acts.{before, between, partition_end, partitions, part_end}
use Rattle.qd_merge.specs.Owners.{is_number, no_part, owned, owner, strays, AreInOrder}
use Rattle.qd_merge.specs.Shares.{new_share, place_of, share_of, share_on, shares, shares_behind}
use Rattle.qd_merge.proofs.Filters.{filter_both}
use Rattle.qd_merge.proofs.Plans.{Splits, before_splits, between_slice}
use Rattle.qd_merge.proofs.OwnerLemmas.{owner_from, early_owner, own_owner, late_owner, owner_low, end_later}

-- the shares of the parts from a number on, and of the partitions from a moment on
abbrev pub walk : Rules → List ℕ → List ℕ → ℕ → ℕ → List Part → List Share
walk r written times done n [] = map (new_share (unit_of r.unit) times) (partitions (unit_of r.unit) (filter (leb done) times))
walk r written times done n (p ∷ ps) =
    map (new_share (unit_of r.unit) times) (partitions (unit_of r.unit) (between done (max done (start_of (unit_of r.unit) p.lo)) times))
    ++ share_on r n p (get_or written n 0) times (before (max done (start_of (unit_of r.unit) p.lo)) times) (before (part_end (unit_of r.unit) p ps) times)
    ∷ walk r written times (part_end (unit_of r.unit) p ps) (suc n) ps

-- ---- filters

pub filter_same_on : {T : Type 0} (p q : T → Bool) (xs : List T) → All (λ x. p x ≡ q x) xs → filter p xs ≡ filter q xs
filter_same_on p q [] h = refl
filter_same_on p q (x ∷ xs) h = ap₂ (λ b l. cond b (x ∷ l) l) (h zero x (omega arith)) (filter_same_on p q xs (λ k d lt. h (suc k) d (omega arith)))

-- the first that passes
pub place_at : (f : ℕ → Bool) (xs : List ℕ) (n : ℕ) → n < length xs → ((k : ℕ) → k < n → f (get_or xs k 0) ≡ false) → f (get_or xs n 0) ≡ true → place_of f xs ≡ n
place_at f [] n low front there = absurd (omega arith)
place_at f (x ∷ xs) zero low front there = rw there refl
place_at f (x ∷ xs) (suc n) low front there = rw (front zero (omega arith)) (ap suc (place_at f xs n (omega arith) (λ k lt. front (suc k) (omega arith)) there))

-- ---- what is known of the parts that are passed

-- The parts before a number are passed, and they and no others own what is before a moment; `low` is where the last of
-- them begins.
pub record Passed (u : TimeUnit) (all : List Part) (low done n : ℕ) (rest : List Part) : Type 0 where
  pub ordered : AreInOrder rest
  pub begin : All (λ p. p.lo ≤ MAX_TIME) rest
  pub reached : low ≤ done
  pub before : (k : ℕ) → k < length rest → done ≤ (get_or rest k no_part).lo
  pub later : (t : ℕ) → done ≤ t → t ≤ MAX_TIME → owner u all t ≡ owner_from u t n rest
  pub earlier : (t : ℕ) → t < done → t ≤ MAX_TIME → (k : ℕ) → owner u all t ≡ Some k → k < n
  pub taken : (t : ℕ) → low ≤ t → t < done → t ≤ MAX_TIME → is_some (owner u all t) ≡ true

pub none_passed : (u : TimeUnit) (parts : List Part) → AreInOrder parts → All (λ p. p.lo ≤ MAX_TIME) parts → Passed u parts 0 0 0 parts
none_passed u parts ordered begin = record {
  ordered = ordered;
  begin = begin;
  reached = omega arith;
  before = λ k lt. omega arith;
  later = λ t a b. refl;
  earlier = λ t lt m k e. absurd (omega arith);
  taken = λ t a b m. absurd (omega arith);
}

module _ (u : TimeUnit) (all : List Part) (low done n : ℕ) (p : Part) (ps : List Part) (passed : Passed u all low done n (p ∷ ps)) where
  abbrev to : ℕ
  to = part_end u p ps

  abbrev from : ℕ
  from = max done (start_of u p.lo)

  moment : p.lo ≤ MAX_TIME
  moment = passed.begin zero no_part (omega arith)

  done_low : done ≤ p.lo
  done_low = passed.before zero (omega arith)

  to_high : p.lo < to
  to_high = ends ps passed.ordered
    where
      ends : (qs : List Part) → AreInOrder (p ∷ qs) → p.lo < part_end u p qs
      ends [] o = end_later u p.lo moment
      ends (q ∷ qs) o = let up = o zero 1 (omega arith) (omega arith) in let e = end_later u p.lo moment in omega arith

  starts : start_of u p.lo ≤ p.lo
  starts = let i = in_unit u p.lo in i.0

  pub early : (t : ℕ) → done ≤ t → t < start_of u p.lo → t ≤ MAX_TIME → owner u all t ≡ None
  early t a b m = passed.later t a m ∙ early_owner u t n p ps passed.ordered m moment b

  pub own : (t : ℕ) → done ≤ t → start_of u p.lo ≤ t → t < to → t ≤ MAX_TIME → owner u all t ≡ Some n
  own t a b c m = passed.later t a m ∙ own_owner u t n p ps passed.ordered m moment b c

  pub late : (t : ℕ) → to ≤ t → t ≤ MAX_TIME → owner u all t ≡ owner_from u t (suc n) ps
  late t a m = let up = to_high in let d = done_low in passed.later t (omega arith) m ∙ late_owner u t n p ps passed.ordered m moment a

  pub one_passed : Passed u all p.lo to (suc n) ps
  one_passed = record {
    ordered = λ i j a b. passed.ordered (suc i) (suc j) (omega arith) (omega arith);
    begin = λ k d lt. passed.begin (suc k) d (omega arith);
    reached = let up = to_high in omega arith;
    before = behind ps passed.ordered;
    later = λ t a m. late t a m;
    earlier = λ t lt m k e. sooner t lt m k e;
    taken = λ t a b m. (let d = done_low in let s = starts in ap is_some (own t (omega arith) (omega arith) b m));
  }
    where
      behind : (qs : List Part) → AreInOrder (p ∷ qs) → (k : ℕ) → k < length qs → part_end u p qs ≤ (get_or qs k no_part).lo
      behind [] o k lt = absurd (omega arith)
      behind (q ∷ qs) o zero lt = omega arith
      behind (q ∷ qs) o (suc k) lt = let up = o 1 (suc (suc k)) (omega arith) (omega arith) in omega arith

      sooner : (t : ℕ) → t < to → t ≤ MAX_TIME → (k : ℕ) → owner u all t ≡ Some k → k < suc n
      sooner t lt m k e = elim (cases_lt t done) [
        | inl passed_by ↦ (let l = passed.earlier t passed_by m k e in omega arith)
        | inr left ↦ elim (cases_lt t (start_of u p.lo)) [
          | inl front ↦ absurd (none-some k (sym (early t left front m) ∙ e))
          | inr inside ↦ (let same = same_Some n k (sym (own t left inside lt m) ∙ e) in omega arith)
        ]
      ]

  -- what the part owns lies between two moments
  pub owned_between : (t : ℕ) → t ≤ MAX_TIME → is_number n (owner u all t) ≡ (leb from t && ltb t to)
  owned_between t m = elim (cases_lt t done) [
    | inl passed_by ↦ (not_this (owner u all t) (λ k e. passed.earlier t passed_by m k e) ∙ sym (first_no (leb from t) (ltb t to) (lt-leb from t (omega arith))))
    | inr left ↦ elim (cases_lt t (start_of u p.lo)) [
      | inl front ↦ (ap (is_number n) (early t left front m) ∙ sym (first_no (leb from t) (ltb t to) (lt-leb from t (omega arith))))
      | inr inside ↦ elim (cases_lt t to) [
        | inl mine ↦ (ap (is_number n) (own t left inside mine m) ∙ eq-eqb n n refl ∙ sym (ap₂ (λ a b. a && b) (le-leb from t (omega arith)) (lt-ltb t to mine)))
        | inr gone ↦ (other (owner u all t) (λ k e. owner_low u t (suc n) ps k (sym (late t gone m) ∙ e)) ∙ sym (no_second (leb from t) (ltb t to) (le-ltb t to gone)))
      ]
    ]
  ]
    where
      first_no : (a b : Bool) → a ≡ false → (a && b) ≡ false
      first_no a b e = rw e refl

      no_second : (a b : Bool) → b ≡ false → (a && b) ≡ false
      no_second true b e = e
      no_second false b e = refl

      not_this : (x : Option ℕ) → ((k : ℕ) → x ≡ Some k → k < n) → is_number n x ≡ false
      not_this None h = refl
      not_this (Some k) h = let lt = h k refl in ne_eqb n k (λ e. absurd (omega arith))

      other : (x : Option ℕ) → ((k : ℕ) → x ≡ Some k → suc n ≤ k) → is_number n x ≡ false
      other None h = refl
      other (Some k) h = let lt = h k refl in ne_eqb n k (λ e. absurd (omega arith))

  -- what no part owns, between where the part before begins and where this one does
  pub gap_between : (t : ℕ) → t ≤ MAX_TIME → (not (is_some (owner u all t)) && (leb low t && ltb t p.lo)) ≡ (leb done t && ltb t from)
  gap_between t m = elim (cases_lt t done) [
    | inl passed_by ↦ (nothing t passed_by m ∙ sym (first_no (leb done t) (ltb t from) (lt-leb done t passed_by)))
    | inr left ↦ elim (cases_lt t (start_of u p.lo)) [
      | inl front ↦
          (let d = passed.reached in
          let s = starts in
          ap₂ (λ a b. not (is_some a) && b) (early t left front m) (ap₂ (λ a b. a && b) (le-leb low t (omega arith)) (lt-ltb t p.lo (omega arith)))
          ∙ sym (ap₂ (λ a b. a && b) (le-leb done t left) (lt-ltb t from (omega arith))))
      | inr inside ↦ (no_gap t left inside m ∙ sym (no_second (leb done t) (ltb t from) (le-ltb t from (omega arith))))
    ]
  ]
    where
      first_no : (a b : Bool) → a ≡ false → (a && b) ≡ false
      first_no a b e = rw e refl

      no_second : (a b : Bool) → b ≡ false → (a && b) ≡ false
      no_second true b e = e
      no_second false b e = refl

      nothing : (t : ℕ) → t < done → t ≤ MAX_TIME → (not (is_some (owner u all t)) && (leb low t && ltb t p.lo)) ≡ false
      nothing t lt m = elim (cases_lt t low) [
        | inl lower ↦ no_second (not (is_some (owner u all t))) (leb low t && ltb t p.lo) (first_no (leb low t) (ltb t p.lo) (lt-leb low t lower))
        | inr held ↦ first_no (not (is_some (owner u all t))) (leb low t && ltb t p.lo) (ap not (passed.taken t held lt m))
      ]

      no_gap : (t : ℕ) → done ≤ t → start_of u p.lo ≤ t → t ≤ MAX_TIME → (not (is_some (owner u all t)) && (leb low t && ltb t p.lo)) ≡ false
      no_gap t left inside m = elim (cases_lt t to) [
        | inl mine ↦ first_no (not (is_some (owner u all t))) (leb low t && ltb t p.lo) (ap (λ x. not (is_some x)) (own t left inside mine m))
        | inr gone ↦ (let up = to_high in no_second (not (is_some (owner u all t))) (leb low t && ltb t p.lo) (no_second (leb low t) (ltb t p.lo) (le-ltb t p.lo (omega arith))))
      ]

  module _ (times : List ℕ) (rising : IsNonDecreasing times) (moments : All (λ t. t ≤ MAX_TIME) times) where
    pub owned_slice : owned u all n times ≡ between from to times
    owned_slice = filter_same_on (λ t. is_number n (owner u all t)) (λ t. leb from t && ltb t to) times (λ k d lt. owned_between (get_or times k d) (moments k d lt))

    pub gap_slice : between low p.lo (strays u all times) ≡ between done from times
    gap_slice = filter_both (λ t. leb low t && ltb t p.lo) (λ t. not (is_some (owner u all t))) (λ t. not (is_some (owner u all t)) && (leb low t && ltb t p.lo)) (λ t. refl) times
        ∙ filter_same_on (λ t. not (is_some (owner u all t)) && (leb low t && ltb t p.lo)) (λ t. leb done t && ltb t from) times (λ k d lt. gap_between (get_or times k d) (moments k d lt))

    -- the places where the part's rows begin and end
    pub ends_rise : before from times ≤ before to times
    ends_rise =
        let a = before_splits from times rising in
        let b = before_splits to times rising in
        let up = to_high in
        let d = done_low in
        let s = starts in
        elim (cases_lt (before to times) (before from times)) [
          | inl less ↦ (let x = a.earlier (before to times) 0 less in let y = b.others (before to times) 0 (omega arith) (let w = a.within in omega arith) in absurd (omega arith))
          | inr fine ↦ fine
        ]

    pub count_owned : length (owned u all n times) ≡ before to times - before from times
    count_owned =
        let b = before_splits to times rising in
        let w = b.within in
        ap length (owned_slice ∙ between_slice from to times rising) ∙ omega (arith, length-take (before to times - before from times) (drop (before from times) times), length-drop (before from times) times, ends_rise)

    pub first_place : before from times < before to times → place_of (λ t. is_number n (owner u all t)) times ≡ before from times
    first_place some =
        let a = before_splits from times rising in
        let b = before_splits to times rising in
        let w = b.within in
        let here : before from times < length times = omega arith in
        place_at (λ t. is_number n (owner u all t)) times (before from times) here
        (λ k lt. owned_between (get_or times k 0) (moments k 0 (omega arith)) ∙ (let e = a.earlier k 0 lt in ap (λ x. x && ltb (get_or times k 0) to) (lt-leb from (get_or times k 0) e)))
        (owned_between (get_or times (before from times) 0) (moments (before from times) 0 here) ∙ ap₂ (λ x y. x && y) (le-leb from (get_or times (before from times) 0) (a.others (before from times) 0 (omega arith) here)) (lt-ltb (get_or times (before from times) 0) to (b.earlier (before from times) 0 some)))

-- ---- shares

kept : (r : Rules) (n : ℕ) (p : Part) (written : ℕ) (times : List ℕ) (a b : ℕ) → b ≤ a → share_on r n p written times a b ≡ share.Keep n
kept r n p written times a b le = rw (le-leb b a le) refl

pub share_same : (r : Rules) (all : List Part) (written times : List ℕ) → IsNonDecreasing times → All (λ t. t ≤ MAX_TIME) times → (low done n : ℕ) (p : Part) (ps : List Part) → Passed (unit_of r.unit) all low done n (p ∷ ps)
    → share_of r all written times n p ≡ share_on r n p (get_or written n 0) times (before (max done (start_of (unit_of r.unit) p.lo)) times) (before (part_end (unit_of r.unit) p ps) times)
share_same r all written times rising moments low done n p ps passed =
    let u = unit_of r.unit in
    let a = before (max done (start_of u p.lo)) times in
    let b = before (part_end u p ps) times in
    let place = place_of (λ t. is_number n (owner u all t)) times in
    let count = count_owned u all low done n p ps passed times rising moments in
    let up = ends_rise u all low done n p ps passed times rising moments in
    elim (cases_lt a b) [
      | inl some ↦
          (let at = first_place u all low done n p ps passed times rising moments some in
          let end : place + length (owned u all n times) ≡ b = omega arith in
          ap₂ (share_on r n p (get_or written n 0) times) at end)
      | inr none ↦
          (let nothing : place + length (owned u all n times) ≤ place = omega arith in
          kept r n p (get_or written n 0) times place (place + length (owned u all n times)) nothing ∙ sym (kept r n p (get_or written n 0) times a b none))
    ]

-- what no part owns, behind all of them
last_gap : (u : TimeUnit) (all : List Part) (low done n : ℕ) → Passed u all low done n [] → (t : ℕ) → t ≤ MAX_TIME → (not (is_some (owner u all t)) && leb low t) ≡ leb done t
last_gap u all low done n passed t m = elim (cases_lt t done) [
  | inl passed_by ↦ elim (cases_lt t low) [
    | inl lower ↦ (no_second (not (is_some (owner u all t))) (leb low t) (lt-leb low t lower) ∙ sym (lt-leb done t passed_by))
    | inr held ↦ (ap (λ x. not x && leb low t) (passed.taken t held passed_by m) ∙ sym (lt-leb done t passed_by))
  ]
  | inr left ↦ (let r = passed.reached in ap₂ (λ x y. not (is_some x) && y) (passed.later t left m) (le-leb low t (omega arith)) ∙ sym (le-leb done t left))
]
  where
    no_second : (a b : Bool) → b ≡ false → (a && b) ≡ false
    no_second true b e = e
    no_second false b e = refl

pub walk_same : (r : Rules) (all : List Part) (written times : List ℕ) → IsNonDecreasing times → All (λ t. t ≤ MAX_TIME) times → (low done n : ℕ) (rest : List Part) → Passed (unit_of r.unit) all low done n rest
    → shares_behind r all written times low n rest ≡ walk r written times done n rest
walk_same r all written times rising moments low done n [] passed =
    let u = unit_of r.unit in
    ap (λ l. map (new_share u times) (partitions u l))
    (filter_both (leb low) (λ t. not (is_some (owner u all t))) (λ t. not (is_some (owner u all t)) && leb low t) (λ t. refl) times
    ∙ filter_same_on (λ t. not (is_some (owner u all t)) && leb low t) (leb done) times (λ k d lt. last_gap u all low done n passed (get_or times k d) (moments k d lt)))
walk_same r all written times rising moments low done n (p ∷ ps) passed =
    let u = unit_of r.unit in
    let to = part_end u p ps in
    ap₂ (λ l m. map (new_share u times) (partitions u l) ++ m)
    (gap_slice u all low done n p ps passed times rising moments)
    (ap₂ (λ s l. s ∷ l) (share_same r all written times rising moments low done n p ps passed)
    (walk_same r all written times rising moments p.lo to (suc n) ps (one_passed u all low done n p ps passed)))

-- the shares of a table are those by where its parts begin and end
pub shares_walked : (r : Rules) (parts : List Part) (written times : List ℕ) → AreInOrder parts → All (λ p. p.lo ≤ MAX_TIME) parts → IsNonDecreasing times → All (λ t. t ≤ MAX_TIME) times → shares r parts written times ≡ walk r written times 0 0 parts
shares_walked r parts written times ordered begin rising moments = walk_same r parts written times rising moments 0 0 0 parts (none_passed (unit_of r.unit) parts ordered begin)

-- ---- steps of a loop

drop_next : (xs : List Part) (i : ℕ) (d : Part) → i < length xs → drop i xs ≡ get_or xs i d ∷ drop (i + 1) xs
drop_next [] i d lt = absurd (omega arith)
drop_next (x ∷ xs) zero d lt = refl
drop_next (x ∷ xs) (suc i) d lt = let e : suc i + 1 ≡ suc (i + 1) = omega arith in rw e (drop_next xs i d (omega arith))

pub walk_next : (r : Rules) (written times : List ℕ) (done n : ℕ) (parts : List Part) (d : Part) → n < length parts
    → walk r written times done n (drop n parts)
    ≡ map (new_share (unit_of r.unit) times) (partitions (unit_of r.unit) (between done (max done (start_of (unit_of r.unit) (get_or parts n d).lo)) times))
    ++ share_on r n (get_or parts n d) (get_or written n 0) times (before (max done (start_of (unit_of r.unit) (get_or parts n d).lo)) times) (before (part_end (unit_of r.unit) (get_or parts n d) (drop (n + 1) parts)) times)
    ∷ walk r written times (part_end (unit_of r.unit) (get_or parts n d) (drop (n + 1) parts)) (n + 1) (drop (n + 1) parts)
walk_next r written times done n parts d lt =
    let e : suc n ≡ n + 1 = omega arith in
    let p = get_or parts n d in
    let u = unit_of r.unit in
    ap (walk r written times done n) (drop_next parts n d lt)
    ∙ ap (λ m. map (new_share u times) (partitions u (between done (max done (start_of u p.lo)) times)) ++ share_on r n p (get_or written n 0) times (before (max done (start_of u p.lo)) times) (before (part_end u p (drop (n + 1) parts)) times) ∷ walk r written times (part_end u p (drop (n + 1) parts)) m (drop (n + 1) parts)) e

pub walk_step : (before gap : List Share) (one : Share) (rest : List Share) → ((before ++ gap) ++ one ∷ []) ++ rest ≡ before ++ (gap ++ one ∷ rest)
walk_step before gap one rest = append_assoc (before ++ gap) (one ∷ []) rest ∙ append_assoc before gap (one ∷ rest)
