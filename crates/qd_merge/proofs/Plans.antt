-- The times of a batch, partition by partition.
use Rattle.std.proofs.Common.{◌≡◌, ◌≢◌, ◌⊎◌, ℕ, zero, suc, ◌+◌, ◌-◌, ◌<◌, ◌≤◌, min, max, Bool, true, false, not, ◌&&◌, ◌||◌, cond, eqb, ltb, leb, List, [], ◌∷◌, ◌++◌, length, map, take, drop, get_or, refl, sym, ap, ap₂, ◌∙◌, arith, append-nil, append_assoc, All, slice_range, subst, inl, inr, ⊎_elim, count_by, length-drop}
use Rattle.std.specs.List.{filter}
use Rattle.std.specs.List.Sorted.{IsNonDecreasing}
use Rattle.std.proofs.lemmas.Bool.{lt-ltb, le-ltb, le-leb, lt-leb, eq-eqb, ne_eqb, ltb-true, leb-true, cases_lt}
use Rattle.std.proofs.lemmas.List.{length-take-le, get_or-take, get_or-drop, take_all}
use Rattle.qd_base.specs.declared.limits.TheConstants.{MAX_TIME}
use Rattle.qd_base.specs.declared.part.Part.{Part}
use Rattle.qd_base.specs.declared.unit.TimeUnit.{TimeUnit}
use Rattle.qd_time.specs.Units.{start_of, end_of}
use Rattle.qd_time.proofs.UnitLemmas.{in_unit, start_of-within, start_of-end_of}
use Rattle.qd_merge.specs.declared.plan.Act.{Act}
use Rattle.qd_merge.specs.Acts.{before, between, partition_end, partitions, new_part, part_end, on_part, acts_from}
use Rattle.qd_merge.proofs.Filters.{filter_swap, filter_both, filter_all}
use Rattle.std.proofs.lemmas.List.Elements.{filter-append}
use Rattle.std.proofs.lemmas.Bool.Decides.{leb_tells}
use Rattle.qd_merge.proofs.Parts.{part_joined, one_part, whole_part, all-part, got_any}

-- a test that holds of the first items and of no other
pub count_front : {T : Type 0} (p : T → Bool) (xs : List T) (n : ℕ) → n ≤ length xs → ((k : ℕ) (d : T) → k < n → p (get_or xs k d) ≡ true) → ((k : ℕ) (d : T) → n ≤ k → k < length xs → p (get_or xs k d) ≡ false) → length (filter p xs) ≡ n
count_front p [] n low front back = let e : 0 ≡ n = omega arith in e
count_front p (x ∷ xs) zero low front back = rw (back zero x (omega arith) (omega arith)) (count_front p xs zero (omega arith) (λ k d a. absurd (omega arith)) (λ k d a b. back (suc k) d (omega arith) (omega arith)))
count_front p (x ∷ xs) (suc n) low front back = rw (front zero x (omega arith)) (ap suc (count_front p xs n (omega arith) (λ k d a. front (suc k) d (omega arith)) (λ k d a b. back (suc k) d (omega arith) (omega arith))))

-- a partition ends where the next one starts
pub start_fixed : (u : TimeUnit) (t : ℕ) → start_of u (start_of u t) ≡ start_of u t
start_fixed u t = let i = in_unit u t in start_of-within u t (start_of u t) (omega arith) (omega (arith, i.0, i.1))

pub past_end : (u : TimeUnit) (a t : ℕ) → end_of u a ≤ t → start_of u t ≢ start_of u a
past_end u a t late same =
    let ia = in_unit u a in
    let it = in_unit u t in
    let there : start_of u (end_of u a) ≡ start_of u t = start_of-within u t (end_of u a) (omega (arith, ia.0, ia.1)) (omega (arith, it.1)) in
    let fixed = start_of-end_of u a in
    absurd (omega (arith, ia.0, ia.1))

-- where a partition ends, as far as moments go
pub end_cases : (u : TimeUnit) (t : ℕ) → ((end_of u t ≤ MAX_TIME) × (partition_end u t ≡ end_of u t)) ⊎ ((MAX_TIME < end_of u t) × (partition_end u t ≡ MAX_TIME + 1))
end_cases u t = elim (leb_tells (end_of u t) MAX_TIME) [
  | inl within ↦ inl (within.1, ap (λ b. cond b (end_of u t) (MAX_TIME + 1)) within.0)
  | inr past ↦ inr (past.1, ap (λ b. cond b (end_of u t) (MAX_TIME + 1)) past.0)
]

-- partitions of times none of which starts at a moment
none_starts : (u : TimeUnit) (s : ℕ) (ts : List ℕ) → All (λ t. start_of u t ≢ s) ts → filter (λ x. not (eqb x s)) (partitions u ts) ≡ partitions u ts
none_starts u s [] none = refl
none_starts u s (t ∷ ts) none =
    let first : eqb (start_of u t) s ≡ false = ne_eqb (start_of u t) s (none zero t (omega arith)) in
    let rest = none_starts u s ts (λ k d lt. none (suc k) d (omega arith)) in
    rw first (ap (λ l. start_of u t ∷ l) (filter_swap (λ x. not (eqb x s)) (λ x. not (eqb x (start_of u t))) (partitions u ts) ∙ ap (filter (λ x. not (eqb x (start_of u t)))) rest))

and_same : (b : Bool) → b ≡ (b && b)
and_same true = refl
and_same false = refl

first_gone : (s x : ℕ) (starts : List ℕ) → x ≡ s → filter (λ y. not (eqb y s)) (x ∷ filter (λ y. not (eqb y x)) starts) ≡ filter (λ y. not (eqb y s)) starts
first_gone s x starts e = subst (λ (v : ℕ). filter (λ y. not (eqb y s)) (v ∷ filter (λ y. not (eqb y v)) starts) ≡ filter (λ y. not (eqb y s)) starts) (sym e) (same s starts)
  where
    same : (s : ℕ) (starts : List ℕ) → filter (λ y. not (eqb y s)) (s ∷ filter (λ y. not (eqb y s)) starts) ≡ filter (λ y. not (eqb y s)) starts
    same s starts = rw (eq-eqb s s refl) (filter_both (λ y. not (eqb y s)) (λ y. not (eqb y s)) (λ y. not (eqb y s)) (λ x. and_same (not (eqb x s))) starts)

run_starts : (u : TimeUnit) (s : ℕ) (run rest : List ℕ) → All (λ t. start_of u t ≡ s) run → All (λ t. start_of u t ≢ s) rest → filter (λ x. not (eqb x s)) (partitions u (run ++ rest)) ≡ partitions u rest
run_starts u s [] rest all none = none_starts u s rest none
run_starts u s (t ∷ run) rest all none = first_gone s (start_of u t) (partitions u (run ++ rest)) (all zero t (omega arith)) ∙ run_starts u s run rest (λ k d lt. all (suc k) d (omega arith)) none

-- the first times are of one partition, and no other is
pub partition_first : (u : TimeUnit) (s t : ℕ) (run rest : List ℕ) → start_of u t ≡ s → All (λ x. start_of u x ≡ s) run → All (λ x. start_of u x ≢ s) rest → partitions u (t ∷ run ++ rest) ≡ s ∷ partitions u rest
partition_first u s t run rest at all none = ap (λ v. v ∷ filter (λ y. not (eqb y v)) (partitions u (run ++ rest))) at ∙ ap (λ l. s ∷ l) (run_starts u s run rest all none)

-- how many times are before a moment, in times that don't fall
count_none : (m : ℕ) (xs : List ℕ) → All (λ x. m ≤ x) xs → before m xs ≡ 0
count_none m [] h = refl
count_none m (x ∷ xs) h = rw (le-ltb x m (h zero x (omega arith))) (count_none m xs (λ k d lt. h (suc k) d (omega arith)))

pub record Splits (m : ℕ) (xs : List ℕ) (n : ℕ) : Type 0 where
  pub within : n ≤ length xs
  pub earlier : (k d : ℕ) → k < n → get_or xs k d < m
  pub others : (k d : ℕ) → n ≤ k → k < length xs → m ≤ get_or xs k d

pub before_splits : (m : ℕ) (xs : List ℕ) → IsNonDecreasing xs → Splits m xs (before m xs)
before_splits m [] rising = record { within = omega arith; earlier = λ k d lt. absurd (omega arith); others = λ k d a b. absurd (omega arith) }
before_splits m (x ∷ xs) rising = elim (cases_lt x m) [
  | inl less ↦
      (let rest = before_splits m xs (λ i j d low high. rising (suc i) (suc j) d (omega arith) (omega arith)) in
      let n : before m (x ∷ xs) ≡ suc (before m xs) = rw (lt-ltb x m less) refl in
      subst (Splits m (x ∷ xs)) (sym n) (more m x xs (before m xs) less rest))
  | inr not_less ↦
      (let all : All (λ y. m ≤ y) (x ∷ xs) = λ k d lt. let le = rising 0 k d (omega arith) lt in omega arith in
      subst (Splits m (x ∷ xs)) (sym (count_none m (x ∷ xs) all)) (record { within = omega arith; earlier = λ k d lt. absurd (omega arith); others = λ k d a b. all k d b }))
]
  where
    more : (m x : ℕ) (xs : List ℕ) (n : ℕ) → x < m → Splits m xs n → Splits m (x ∷ xs) (suc n)
    more m x xs n less rest = record { within = (let w = rest.within in omega arith); earlier = λ k d lt. first k d lt; others = λ k d a b. later k d a b }
      where
        first : (k d : ℕ) → k < suc n → get_or (x ∷ xs) k d < m
        first zero d lt = less
        first (suc k) d lt = rest.earlier k d (omega arith)

        later : (k d : ℕ) → suc n ≤ k → k < length (x ∷ xs) → m ≤ get_or (x ∷ xs) k d
        later zero d a b = absurd (omega arith)
        later (suc k) d a b = rest.others k d (omega arith) (omega arith)

filter_each : {T : Type 0} (p : T → Bool) (xs : List T) → All (λ x. p x ≡ true) xs → filter p xs ≡ xs
filter_each p [] h = refl
filter_each p (x ∷ xs) h = rw (h zero x (omega arith)) (ap (λ l. x ∷ l) (filter_each p xs (λ k d lt. h (suc k) d (omega arith))))

filter_no : {T : Type 0} (p : T → Bool) (xs : List T) → All (λ x. p x ≡ false) xs → filter p xs ≡ []
filter_no p [] h = refl
filter_no p (x ∷ xs) h = rw (h zero x (omega arith)) (filter_no p xs (λ k d lt. h (suc k) d (omega arith)))

and_no : (a b : Bool) → a ≡ false → (a && b) ≡ false
and_no a b e = rw e refl

no_and : (a b : Bool) → b ≡ false → (a && b) ≡ false
no_and true b e = e
no_and false b e = refl

both : (a b : Bool) → a ≡ true → b ≡ true → (a && b) ≡ true
both a b e f = rw (e, f) refl

-- the times between two moments stand together
pub between_slice : (from to : ℕ) (xs : List ℕ) → IsNonDecreasing xs → between from to xs ≡ slice_range xs (before from xs) (before to xs)
between_slice from to xs rising =
    let a : ℕ = before from xs in
    let b : ℕ = before to xs in
    let at_a = before_splits from xs rising in
    let at_b = before_splits to xs rising in
    let p : ℕ → Bool = λ t. leb from t && ltb t to in
    elim (cases_lt b a) [
      | inl none ↦
          (let all : All (λ x. p x ≡ false) xs = λ k d lt. elim (cases_lt k a) [ inl early ↦ and_no (leb from (get_or xs k d)) (ltb (get_or xs k d) to) (lt-leb from (get_or xs k d) (at_a.earlier k d early)) | inr late ↦ no_and (leb from (get_or xs k d)) (ltb (get_or xs k d) to) (le-ltb (get_or xs k d) to (at_b.others k d (omega arith) lt)) ] in
          let empty : b - a ≡ 0 = omega arith in
          filter_no p xs all ∙ sym (ap (λ n. take n (drop a xs)) empty))
      | inr some ↦
          (let front : List ℕ = slice_range xs 0 a in
          let middle : List ℕ = slice_range xs a b in
          let back : List ℕ = slice_range xs b (length xs) in
          let whole : xs ≡ front ++ (middle ++ back) = sym (whole_part xs 0 (length xs) refl) ∙ part_joined xs 0 a (length xs) (omega arith) at_a.within ∙ ap (λ l. front ++ l) (part_joined xs a b (length xs) some at_b.within) in
          let no_front : filter p front ≡ [] = filter_no p front (all-part (λ x. p x ≡ false) xs 0 a at_a.within (λ k d u v. and_no (leb from (get_or xs k d)) (ltb (get_or xs k d) to) (lt-leb from (get_or xs k d) (at_a.earlier k d v)))) in
          let all_middle : filter p middle ≡ middle = filter_each p middle (all-part (λ x. p x ≡ true) xs a b at_b.within (λ k d u v. both (leb from (get_or xs k d)) (ltb (get_or xs k d) to) (le-leb from (get_or xs k d) (at_a.others k d u (let w = at_b.within in omega arith))) (lt-ltb (get_or xs k d) to (at_b.earlier k d v)))) in
          let no_back : filter p back ≡ [] = filter_no p back (all-part (λ x. p x ≡ false) xs b (length xs) (omega arith) (λ k d u v. no_and (leb from (get_or xs k d)) (ltb (get_or xs k d) to) (le-ltb (get_or xs k d) to (at_b.others k d u v)))) in
          ap (filter p) whole ∙ filter-append p front (middle ++ back) ∙ ap₂ (λ u v. u ++ v) no_front (filter-append p middle back ∙ ap₂ (λ u v. u ++ v) all_middle no_back ∙ append-nil middle))
    ]

-- the next partition's times, and those behind it
module _ (u : TimeUnit) (xs : List ℕ) (place : ℕ) (rising : IsNonDecreasing xs) (moments : All (λ t. t ≤ MAX_TIME) xs) where
  inside : (s x : ℕ) → start_of u s ≡ s → s ≤ x → x < partition_end u s → x ≤ MAX_TIME → start_of u x ≡ s
  inside s x fixed low high moment = elim (end_cases u s) [
    | inl within ↦ (let e = within.1 in start_of-within u s x (omega (arith, fixed)) (omega arith) ∙ fixed)
    | inr past ↦ (let e = past.1 in let far = past.0 in start_of-within u s x (omega (arith, fixed)) (omega arith) ∙ fixed)
  ]

  outside : (s x : ℕ) → start_of u s ≡ s → partition_end u s ≤ x → x ≤ MAX_TIME → start_of u x ≢ s
  outside s x fixed high moment same = elim (end_cases u s) [
    | inl within ↦ (let e = within.1 in past_end u s x (omega arith) (same ∙ sym fixed))
    | inr past ↦ (let e = past.1 in absurd (omega arith))
  ]

  pub place_passed : place < length xs → place < before (partition_end u (start_of u (get_or xs place 0))) xs
  place_passed low =
      let t : ℕ = get_or xs place 0 in
      let s : ℕ = start_of u t in
      let at = before_splits (partition_end u s) xs rising in
      elim (cases_lt place (before (partition_end u s) xs)) [ inl reached ↦ reached | inr late ↦ absurd (outside s t (start_fixed u t) (at.others place 0 late low) (moments place 0 low) refl) ]

  pub partition_next : (last : ℕ) → place < last → last ≤ length xs → partitions u (slice_range xs place last) ≡ start_of u (get_or xs place 0) ∷ partitions u (slice_range xs (before (partition_end u (start_of u (get_or xs place 0))) xs) last)
  partition_next last low high =
      let t : ℕ = get_or xs place 0 in
      let s : ℕ = start_of u t in
      let n : ℕ = before (partition_end u s) xs in
      let at = before_splits (partition_end u s) xs rising in
      let fixed : start_of u s ≡ s = start_fixed u t in
      let it = in_unit u t in
      let reached : place < n = place_passed (omega arith) in
      let head : slice_range xs place last ≡ t ∷ slice_range xs (place + 1) last = part_joined xs place (place + 1) last (omega arith) (omega arith) ∙ ap (λ l. l ++ slice_range xs (place + 1) last) (one_part xs place 0 (omega arith)) in
      let run_all : (end : ℕ) → end ≤ length xs → end ≤ n → All (λ x. start_of u x ≡ s) (slice_range xs (place + 1) end) = λ end fits upto. all-part (λ x. start_of u x ≡ s) xs (place + 1) end fits (λ k d a b.
      let le = rising place k d (omega arith) (omega arith) in
      let same = got_any xs place d 0 (omega arith) in
      inside s (get_or xs k d) fixed (omega (arith, it.0)) (at.earlier k d (omega arith)) (moments k d (omega arith))) in
      ap (partitions u) head ∙ elim (cases_lt n last) [
        | inl before_last ↦
            ap (λ l. partitions u (t ∷ l)) (part_joined xs (place + 1) n last (omega arith) (omega arith)) ∙ partition_first u s t (slice_range xs (place + 1) n) (slice_range xs n last) refl (run_all n at.within (omega arith)) (all-part (λ x. start_of u x ≢ s) xs n last high (λ k d a b. outside s (get_or xs k d) fixed (at.others k d a (omega arith)) (moments k d (omega arith))))
        | inr all_left ↦
            (let empty : last - n ≡ 0 = omega arith in
            let none : slice_range xs n last ≡ [] = ap (λ m. take m (drop n xs)) empty in
            ap (λ l. partitions u (t ∷ l)) (sym (append-nil (slice_range xs (place + 1) last))) ∙ partition_first u s t (slice_range xs (place + 1) last) [] refl (run_all last high all_left) (λ k d lt. absurd (omega arith)) ∙ ap (λ l. s ∷ partitions u l) (sym none))
      ]

-- the times from a moment on
pub last_between : (done : ℕ) (xs : List ℕ) → All (λ t. t ≤ MAX_TIME) xs → between done (MAX_TIME + 1) xs ≡ filter (λ t. leb done t) xs
last_between done [] h = refl
last_between done (x ∷ xs) h =
    let low : ltb x (MAX_TIME + 1) ≡ true = lt-ltb x (MAX_TIME + 1) (let le = h zero x (omega arith) in omega arith) in
    let same : (leb done x && ltb x (MAX_TIME + 1)) ≡ leb done x = ap (λ b. leb done x && b) low ∙ and_true (leb done x) in
    ap (λ b. cond b (x ∷ between done (MAX_TIME + 1) xs) (between done (MAX_TIME + 1) xs)) same ∙ ap (λ l. cond (leb done x) (x ∷ l) l) (last_between done xs (λ k d lt. h (suc k) d (omega arith)))
  where
    and_true : (b : Bool) → (b && true) ≡ b
    and_true true = refl
    and_true false = refl

-- the acts on the next part and those behind it
pub acts_next : (u : TimeUnit) (times : List ℕ) (done number : ℕ) (parts : List Part) (d : Part) → number < length parts
    → acts_from u times done number (drop number parts)
    ≡ map (new_part u times) (partitions u (between done (max done (start_of u (get_or parts number d).lo)) times))
    ++ on_part number (before (max done (start_of u (get_or parts number d).lo)) times) (before (part_end u (get_or parts number d) (drop (number + 1) parts)) times)
    ∷ acts_from u times (part_end u (get_or parts number d) (drop (number + 1) parts)) (number + 1) (drop (number + 1) parts)
acts_next u times done number parts d h = let e : suc number ≡ number + 1 = omega arith in ap (acts_from u times done number) (drop_next parts number d h) ∙ ap (λ n. map (new_part u times) (partitions u (between done (max done (start_of u (get_or parts number d).lo)) times)) ++ on_part number (before (max done (start_of u (get_or parts number d).lo)) times) (before (part_end u (get_or parts number d) (drop (number + 1) parts)) times) ∷ acts_from u times (part_end u (get_or parts number d) (drop (number + 1) parts)) n (drop (number + 1) parts)) e
  where
    drop_next : (xs : List Part) (i : ℕ) (d : Part) → i < length xs → drop i xs ≡ get_or xs i d ∷ drop (i + 1) xs
    drop_next [] i d lt = absurd (omega arith)
    drop_next (x ∷ xs) zero d lt = refl
    drop_next (x ∷ xs) (suc i) d lt = let e : suc i + 1 ≡ suc (i + 1) = omega arith in rw e (drop_next xs i d (omega arith))

abbrev pub no_part : Part
no_part = record { block = 0; rows = 0; cols = 0; lo = 0; hi = 0 }

pub plan_step : (before gap : List Act) (act : Act) (rest : List Act) → ((before ++ gap) ++ act ∷ []) ++ rest ≡ before ++ (gap ++ act ∷ rest)
plan_step before gap act rest = append_assoc (before ++ gap) (act ∷ []) rest ∙ append_assoc before gap (act ∷ rest)
