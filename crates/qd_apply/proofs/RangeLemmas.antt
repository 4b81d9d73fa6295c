-- The rows of a batch from one moment up to another.
use Rattle.std.proofs.Common.{◌≡◌, ℕ, zero, suc, ◌-◌, ◌≤◌, Bool, true, false, ltb, cond, List, [], ◌∷◌, ◌++◌, length, map, take, drop, refl, sym, ap, ◌∙◌, arith, slice_range, subst, true≢false}
use Rattle.std.specs.List.{AllByRecursion, filter}
use Rattle.std.proofs.lemmas.Bool.{le-ltb, lt-ltb, ltb-true, ltb-false}
use Rattle.qd_base.specs.Rows.{Row, time_of}
use Rattle.qd_base.specs.Laws.{IsInOrder}
use Rattle.qd_merge.specs.Acts.{before}
use Rattle.qd_merge.proofs.Parts.{part_joined, whole_part}
use Rattle.qd_apply.proofs.EachLemmas.{each_back, each_then}
use Rattle.qd_apply.proofs.CutLemmas.{Before, From}

pub each_take : {X : Type 0} (P : X → Type 0) (n : ℕ) (xs : List X) → AllByRecursion P xs → AllByRecursion P (take n xs)
each_take P zero xs h = tt
each_take P (suc n) [] h = tt
each_take P (suc n) (x ∷ xs) h = (h.0, each_take P n xs h.1)

pub each_drop : {X : Type 0} (P : X → Type 0) (n : ℕ) (xs : List X) → AllByRecursion P xs → AllByRecursion P (drop n xs)
each_drop P zero xs h = h
each_drop P (suc n) [] h = tt
each_drop P (suc n) (x ∷ xs) h = each_drop P n xs h.1

-- more times are before a later moment
pub before_mono : (a b : ℕ) (times : List ℕ) → a ≤ b → before a times ≤ before b times
before_mono a b [] le = omega arith
before_mono a b (t ∷ ts) le = step (ltb t a) (ltb t b) (λ e. lt-ltb t b (let lt = ltb-true t a e in omega (arith, lt, le))) (before_mono a b ts le)
  where
    step : (p q : Bool) → (p ≡ true → q ≡ true) → before a ts ≤ before b ts → length (cond p (t ∷ filter (λ x. ltb x a) ts) (filter (λ x. ltb x a) ts)) ≤ length (cond q (t ∷ filter (λ x. ltb x b) ts) (filter (λ x. ltb x b) ts))
    step true true f h = omega (arith, h)
    step true false f h = absurd (true≢false (sym (f refl)))
    step false true f h = omega (arith, h)
    step false false f h = h

pub before_within : (m : ℕ) (times : List ℕ) → before m times ≤ length times
before_within m [] = omega arith
before_within m (t ∷ ts) = step (ltb t m) (before_within m ts)
  where
    step : (p : Bool) → before m ts ≤ length ts → length (cond p (t ∷ filter (λ x. ltb x m) ts) (filter (λ x. ltb x m) ts)) ≤ suc (length ts)
    step true h = omega (arith, h)
    step false h = omega (arith, h)

module _ (col : ℕ) where
  -- how many of some rows are before a moment
  abbrev pub rows_before : ℕ → List Row → ℕ
  rows_before m rows = before m (map (time_of col) rows)

  -- the rows from a moment on, and those from one up to another
  abbrev pub since : ℕ → List Row → List Row
  since m rows = drop (rows_before m rows) rows

  abbrev pub range : ℕ → ℕ → List Row → List Row
  range a b rows = slice_range rows (rows_before a rows) (rows_before b rows)

  pub none_before : (m : ℕ) (rows : List Row) → AllByRecursion (From col m) rows → rows_before m rows ≡ 0
  none_before m [] h = refl
  none_before m (r ∷ rows) h = ap (λ b. length (cond b (time_of col r ∷ filter (λ x. ltb x m) (map (time_of col) rows)) (filter (λ x. ltb x m) (map (time_of col) rows)))) (le-ltb (time_of col r) m h.0) ∙ none_before m rows h.1

  pub rows_split : (m : ℕ) (rows : List Row) → IsInOrder col rows → AllByRecursion (Before col m) (take (rows_before m rows) rows) × AllByRecursion (From col m) (drop (rows_before m rows) rows)
  rows_split m [] order = (tt, tt)
  rows_split m (r ∷ rows) order = step (ltb (time_of col r) m) refl (rows_split m rows order.1)
    where
      step : (b : Bool) → ltb (time_of col r) m ≡ b → AllByRecursion (Before col m) (take (rows_before m rows) rows) × AllByRecursion (From col m) (drop (rows_before m rows) rows)
          → AllByRecursion (Before col m) (take (length (cond b (time_of col r ∷ filter (λ x. ltb x m) (map (time_of col) rows)) (filter (λ x. ltb x m) (map (time_of col) rows)))) (r ∷ rows))
          × AllByRecursion (From col m) (drop (length (cond b (time_of col r ∷ filter (λ x. ltb x m) (map (time_of col) rows)) (filter (λ x. ltb x m) (map (time_of col) rows)))) (r ∷ rows))
      step true e ih = ((ltb-true (time_of col r) m e, ih.0), ih.1)
      step false e ih =
          let here : m ≤ time_of col r = ltb-false (time_of col r) m e in
          let all : AllByRecursion (From col m) rows = each_then (λ x. time_of col r ≤ time_of col x) (From col m) (λ x le. omega (arith, le, here)) rows order.0 in
          let none : rows_before m rows ≡ 0 = none_before m rows all in
          subst (λ (n : ℕ). AllByRecursion (Before col m) (take n (r ∷ rows)) × AllByRecursion (From col m) (drop n (r ∷ rows))) (sym none) (tt, (here, all))

  pub since_from : (m : ℕ) (rows : List Row) → IsInOrder col rows → AllByRecursion (From col m) (since m rows)
  since_from m rows order = (rows_split m rows order).1

  minus_none : (n : ℕ) → n - 0 ≡ n
  minus_none n = omega arith

  pub range_from : (a b : ℕ) (rows : List Row) → IsInOrder col rows → AllByRecursion (From col a) (range a b rows)
  range_from a b rows order = each_take (From col a) (rows_before b rows - rows_before a rows) (since a rows) (since_from a rows order)

  pub range_before : (a b : ℕ) (rows : List Row) → a ≤ b → IsInOrder col rows → AllByRecursion (Before col b) (range a b rows)
  range_before a b rows le order =
      let i = rows_before a rows in
      let j = rows_before b rows in
      let all : take j rows ≡ slice_range rows 0 i ++ slice_range rows i j = ap (λ (n : ℕ). take n rows) (sym (minus_none j)) ∙ part_joined rows 0 i j (omega arith) (before_mono a b (map (time_of col) rows) le) in
      each_back (Before col b) (slice_range rows 0 i) (slice_range rows i j) (subst (AllByRecursion (Before col b)) all (rows_split b rows order).0)

  pub range_joined : (a b c : ℕ) (rows : List Row) → a ≤ b → b ≤ c → range a c rows ≡ range a b rows ++ range b c rows
  range_joined a b c rows low high = part_joined rows (rows_before a rows) (rows_before b rows) (rows_before c rows) (before_mono a b (map (time_of col) rows) low) (before_mono b c (map (time_of col) rows) high)

  pub since_joined : (a b : ℕ) (rows : List Row) → a ≤ b → since a rows ≡ range a b rows ++ since b rows
  since_joined a b rows le =
      let n = length rows in
      let times = map (time_of col) rows in
      let within : rows_before b rows ≤ n = omega (arith, before_within b times, Rattle.std.proofs.lemmas.List.length-map rows (time_of col)) in
      sym (whole_part rows (rows_before a rows) n refl)
      ∙ part_joined rows (rows_before a rows) (rows_before b rows) n (before_mono a b times le) within
      ∙ ap (λ (l : List Row). range a b rows ++ l) (whole_part rows (rows_before b rows) n refl)
