-- Rows put between earlier and later ones, and rows cut at a moment.
use Rattle.std.proofs.Common.{◌≡◌, ℕ, ◌<◌, ◌≤◌, Bool, true, false, not, ltb, leb, List, [], ◌∷◌, ◌++◌, refl, sym, ap, ap₂, ◌∙◌, arith, append-nil, append_assoc, Contains, ⊎_elim}
use Rattle.std.specs.List.{AllByRecursion, filter, fold}
use Rattle.std.proofs.lemmas.Bool.{le-leb, lt-leb, le-ltb, lt-ltb}
use Rattle.std.proofs.lemmas.List.Elements.{filter-append}
use Rattle.std.proofs.lemmas.List.Sums.{fold-append}
use Rattle.qd_base.specs.Rows.{Row, time_of, same_on, without_equals, in_time, put}
use Rattle.qd_merge.specs.Laws.{AreKeys}
use Rattle.qd_merge.proofs.Batches.{same_on-time}
use Rattle.qd_apply.proofs.EachLemmas.{each_fold, each_then}

each_passes : {X : Type 0} (p : X → Bool) (xs : List X) → AllByRecursion (λ x. p x ≡ true) xs → filter p xs ≡ xs
each_passes p [] h = refl
each_passes p (x ∷ xs) h = rw h.0 (ap (λ l. x ∷ l) (each_passes p xs h.1))

none_passes : {X : Type 0} (p : X → Bool) (xs : List X) → AllByRecursion (λ x. p x ≡ false) xs → filter p xs ≡ []
none_passes p [] h = refl
none_passes p (x ∷ xs) h = rw h.0 (none_passes p xs h.1)

-- a test of rows that are all there in front, none behind
three : (p : Row → Bool) (a b c : List Row) → filter p (a ++ (b ++ c)) ≡ filter p a ++ (filter p b ++ filter p c)
three p a b c = filter-append p a (b ++ c) ∙ ap (λ l. filter p a ++ l) (filter-append p b c)

module _ (col : ℕ) where
  in_time_between : (before rows later : List Row) (row : Row) → AllByRecursion (λ x. time_of col x < time_of col row) before → AllByRecursion (λ x. time_of col row < time_of col x) later
      → in_time col (before ++ (rows ++ later)) row ≡ before ++ (in_time col rows row ++ later)
  in_time_between before rows later row low high =
      let T : ℕ = time_of col row in
      let p : Row → Bool = λ x. leb (time_of col x) T in
      let q : Row → Bool = λ x. ltb T (time_of col x) in
      let p_before : filter p before ≡ before = each_passes p before (each_then (λ x. time_of col x < T) (λ x. p x ≡ true) (λ x h. le-leb (time_of col x) T (omega arith)) before low) in
      let q_before : filter q before ≡ [] = none_passes q before (each_then (λ x. time_of col x < T) (λ x. q x ≡ false) (λ x h. le-ltb T (time_of col x) (omega arith)) before low) in
      let p_later : filter p later ≡ [] = none_passes p later (each_then (λ x. T < time_of col x) (λ x. p x ≡ false) (λ x h. lt-leb (time_of col x) T h) later high) in
      let q_later : filter q later ≡ later = each_passes q later (each_then (λ x. T < time_of col x) (λ x. q x ≡ true) (λ x h. lt-ltb T (time_of col x) h) later high) in
      let front : filter p (before ++ (rows ++ later)) ≡ before ++ filter p rows = three p before rows later ∙ ap₂ (λ a c. a ++ (filter p rows ++ c)) p_before p_later ∙ ap (λ l. before ++ l) (append-nil (filter p rows)) in
      let back : filter q (before ++ (rows ++ later)) ≡ filter q rows ++ later = three q before rows later ∙ ap₂ (λ a c. a ++ (filter q rows ++ c)) q_before q_later in
      ap₂ (λ u v. u ++ row ∷ v) front back
      ∙ append_assoc before (filter p rows) (row ∷ (filter q rows ++ later))
      ∙ ap (λ l. before ++ l) (sym (append_assoc (filter p rows) (row ∷ filter q rows) later))

  differs : (keys : List ℕ) (x row : Row) → Contains keys col → (time_of col x ≡ time_of col row → ⊥) → not (same_on keys x row) ≡ true
  differs keys x row there apart = go (same_on keys x row) refl
    where
      go : (b : Bool) → same_on keys x row ≡ b → not b ≡ true
      go true is = absurd (apart (same_on-time col keys x row there is))
      go false is = refl

  -- an older row with equal keys has an equal time: no earlier and no later row goes out
  without_between : (k : ℕ) (ks : List ℕ) (before rows later : List Row) (row : Row) → Contains (k ∷ ks) col → AllByRecursion (λ x. time_of col x < time_of col row) before → AllByRecursion (λ x. time_of col row < time_of col x) later
      → without_equals (k ∷ ks) (before ++ (rows ++ later)) row ≡ before ++ (without_equals (k ∷ ks) rows row ++ later)
  without_between k ks before rows later row there low high =
      let T : ℕ = time_of col row in
      let p : Row → Bool = λ x. not (same_on (k ∷ ks) x row) in
      let front : filter p before ≡ before = each_passes p before (each_then (λ x. time_of col x < T) (λ x. p x ≡ true) (λ x h. differs (k ∷ ks) x row there (λ e. omega arith)) before low) in
      let back : filter p later ≡ later = each_passes p later (each_then (λ x. T < time_of col x) (λ x. p x ≡ true) (λ x h. differs (k ∷ ks) x row there (λ e. omega arith)) later high) in
      three p before rows later ∙ ap₂ (λ a c. a ++ (filter p rows ++ c)) front back

  put_between : (keys : List ℕ) (before rows later : List Row) (row : Row) → AreKeys col keys → AllByRecursion (λ x. time_of col x < time_of col row) before → AllByRecursion (λ x. time_of col row < time_of col x) later
      → put col keys (before ++ (rows ++ later)) row ≡ before ++ (put col keys rows row ++ later)
  put_between [] before rows later row are low high = in_time_between before rows later row low high
  put_between (k ∷ ks) before rows later row are low high =
      ⊎_elim (λ none. cc) (λ there. ap (λ l. in_time col l row) (without_between k ks before rows later row there low high) ∙ in_time_between before (without_equals (k ∷ ks) rows row) later row low high) are

  -- rows put one after another
  fold_between : (keys : List ℕ) (before rows later new : List Row) → AreKeys col keys
      → AllByRecursion (λ r. AllByRecursion (λ x. time_of col x < time_of col r) before × AllByRecursion (λ x. time_of col r < time_of col x) later) new
      → fold (put col keys) (before ++ (rows ++ later)) new ≡ before ++ (fold (put col keys) rows new ++ later)
  fold_between keys before rows later [] are apart = refl
  fold_between keys before rows later (row ∷ new) are apart =
      ap (λ l. fold (put col keys) l new) (put_between keys before rows later row are apart.0.0 apart.0.1) ∙ fold_between keys before (put col keys rows row) later new are apart.1

  abbrev pub Before : ℕ → Row → Type 0
  Before c r = time_of col r < c

  abbrev pub From : ℕ → Row → Type 0
  From c r = c ≤ time_of col r

  -- rows on both sides of a moment are put on that side
  pub fold_cut : (keys : List ℕ) (c : ℕ) (xs ys new more : List Row) → AreKeys col keys → AllByRecursion (Before c) xs → AllByRecursion (From c) ys → AllByRecursion (Before c) new → AllByRecursion (From c) more
      → fold (put col keys) (xs ++ ys) (new ++ more) ≡ fold (put col keys) xs new ++ fold (put col keys) ys more
  fold_cut keys c xs ys new more are low high new_low more_high =
      let f = put col keys in
      let done : List Row = fold f xs new in
      let done_low : AllByRecursion (Before c) done = each_fold col (Before c) keys xs new low new_low in
      let first : fold f (xs ++ ys) new ≡ done ++ ys =
      fold_between keys [] xs ys new are
      (each_then (Before c) (λ r. AllByRecursion (λ x. time_of col x < time_of col r) [] × AllByRecursion (λ x. time_of col r < time_of col x) ys)
      (λ r lt. (tt, each_then (From c) (λ x. time_of col r < time_of col x) (λ x le. omega (arith, lt, le)) ys high)) new new_low) in
      let second : fold f (done ++ (ys ++ [])) more ≡ done ++ (fold f ys more ++ []) =
      fold_between keys done ys [] more are
      (each_then (From c) (λ r. AllByRecursion (λ x. time_of col x < time_of col r) done × AllByRecursion (λ x. time_of col r < time_of col x) [])
      (λ r le. (each_then (Before c) (λ x. time_of col x < time_of col r) (λ x lt. omega (arith, lt, le)) done done_low, tt)) more more_high) in
      fold-append f (xs ++ ys) new more
      ∙ ap (λ l. fold f l more) (first ∙ ap (λ l. done ++ l) (sym (append-nil ys)))
      ∙ second
      ∙ ap (λ l. done ++ l) (append-nil (fold f ys more))
