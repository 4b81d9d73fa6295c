-- Rows put between earlier and later ones.
use Rattle.std.proofs.Common.{◌≡◌, ℕ, zero, suc, ◌+◌, ◌<◌, ◌≤◌, Bool, true, false, not, ltb, leb, List, [], ◌∷◌, ◌++◌, length, get_or, refl, sym, ap, ap₂, ◌∙◌, arith, append-nil, append_assoc, All, Contains, ⊎_elim, cond}
use Rattle.std.specs.List.{AllByRecursion, filter, fold}
use Rattle.std.proofs.lemmas.Bool.{le-leb, lt-leb, le-ltb, lt-ltb}
use Rattle.std.proofs.lemmas.List.Elements.{filter-append}
use Rattle.qd_base.specs.Rows.{Row, time_of, same_on, without_equals, in_time, put}
use Rattle.qd_merge.specs.Laws.{AreKeys}
use Rattle.qd_merge.proofs.Batches.{same_on-time}

pub each_append : {X : Type 0} (P : X → Type 0) (xs ys : List X) → AllByRecursion P xs → AllByRecursion P ys → AllByRecursion P (xs ++ ys)
each_append P [] ys h k = k
each_append P (x ∷ xs) ys h k = (h.0, each_append P xs ys h.1 k)

pub each_map : {X Y : Type 0} (P : Y → Type 0) (f : X → Y) (xs : List X) → AllByRecursion (λ x. P (f x)) xs → AllByRecursion P (Rattle.std.proofs.Common.map f xs)
each_map P f [] h = tt
each_map P f (x ∷ xs) h = (h.0, each_map P f xs h.1)

pub each_then : {X : Type 0} (P Q : X → Type 0) → ((x : X) → P x → Q x) → (xs : List X) → AllByRecursion P xs → AllByRecursion Q xs
each_then P Q f [] h = tt
each_then P Q f (x ∷ xs) h = (f x h.0, each_then P Q f xs h.1)

each_passes : {X : Type 0} (p : X → Bool) (xs : List X) → AllByRecursion (λ x. p x ≡ true) xs → filter p xs ≡ xs
each_passes p [] h = refl
each_passes p (x ∷ xs) h = rw h.0 (ap (λ l. x ∷ l) (each_passes p xs h.1))

none_passes : {X : Type 0} (p : X → Bool) (xs : List X) → AllByRecursion (λ x. p x ≡ false) xs → filter p xs ≡ []
none_passes p [] h = refl
none_passes p (x ∷ xs) h = rw h.0 (none_passes p xs h.1)

each_filter : {X : Type 0} (P : X → Type 0) (p : X → Bool) (xs : List X) → AllByRecursion P xs → AllByRecursion P (filter p xs)
each_filter P p [] h = tt
each_filter P p (x ∷ xs) h = keep (p x) (each_filter P p xs h.1)
  where
    keep : (b : Bool) → AllByRecursion P (filter p xs) → AllByRecursion P (cond b (x ∷ filter p xs) (filter p xs))
    keep true rest = (h.0, rest)
    keep false rest = rest

-- a test of rows that are all there in front, none behind
three : (p : Row → Bool) (a b c : List Row) → filter p (a ++ (b ++ c)) ≡ filter p a ++ (filter p b ++ filter p c)
three p a b c = filter-append p a (b ++ c) ∙ ap (λ l. filter p a ++ l) (filter-append p b c)

module _ (col : ℕ) where
  in_time_between : (before rows later : List Row) (row : Row) → AllByRecursion (λ x. time_of col x < time_of col row) before → AllByRecursion (λ x. time_of col row < time_of col x) later
      → in_time col (before ++ (rows ++ later)) row ≡ before ++ (in_time col rows row ++ later)
  in_time_between before rows later row low high =
      let T : ℕ = time_of col row in
      let p : Row → Bool = λ x. leb (time_of col x) T in
      let q : Row → Bool = λ x. ltb T (time_of col x) in
      let p_before : filter p before ≡ before = each_passes p before (each_then (λ x. time_of col x < T) (λ x. p x ≡ true) (λ x h. le-leb (time_of col x) T (omega arith)) before low) in
      let q_before : filter q before ≡ [] = none_passes q before (each_then (λ x. time_of col x < T) (λ x. q x ≡ false) (λ x h. le-ltb T (time_of col x) (omega arith)) before low) in
      let p_later : filter p later ≡ [] = none_passes p later (each_then (λ x. T < time_of col x) (λ x. p x ≡ false) (λ x h. lt-leb (time_of col x) T h) later high) in
      let q_later : filter q later ≡ later = each_passes q later (each_then (λ x. T < time_of col x) (λ x. q x ≡ true) (λ x h. lt-ltb T (time_of col x) h) later high) in
      let front : filter p (before ++ (rows ++ later)) ≡ before ++ filter p rows = three p before rows later ∙ ap₂ (λ a c. a ++ (filter p rows ++ c)) p_before p_later ∙ ap (λ l. before ++ l) (append-nil (filter p rows)) in
      let back : filter q (before ++ (rows ++ later)) ≡ filter q rows ++ later = three q before rows later ∙ ap₂ (λ a c. a ++ (filter q rows ++ c)) q_before q_later in
      ap₂ (λ u v. u ++ row ∷ v) front back
      ∙ append_assoc before (filter p rows) (row ∷ (filter q rows ++ later))
      ∙ ap (λ l. before ++ l) (sym (append_assoc (filter p rows) (row ∷ filter q rows) later))

  differs : (keys : List ℕ) (x row : Row) → Contains keys col → (time_of col x ≡ time_of col row → ⊥) → not (same_on keys x row) ≡ true
  differs keys x row there apart = go (same_on keys x row) refl
    where
      go : (b : Bool) → same_on keys x row ≡ b → not b ≡ true
      go true is = absurd (apart (same_on-time col keys x row there is))
      go false is = refl

  without_between : (k : ℕ) (ks : List ℕ) (before rows later : List Row) (row : Row) → Contains (k ∷ ks) col → AllByRecursion (λ x. time_of col x < time_of col row) before → AllByRecursion (λ x. time_of col row < time_of col x) later
      → without_equals (k ∷ ks) (before ++ (rows ++ later)) row ≡ before ++ (without_equals (k ∷ ks) rows row ++ later)
  without_between k ks before rows later row there low high =
      let T : ℕ = time_of col row in
      let p : Row → Bool = λ x. not (same_on (k ∷ ks) x row) in
      let front : filter p before ≡ before = each_passes p before (each_then (λ x. time_of col x < T) (λ x. p x ≡ true) (λ x h. differs (k ∷ ks) x row there (λ e. omega arith)) before low) in
      let back : filter p later ≡ later = each_passes p later (each_then (λ x. T < time_of col x) (λ x. p x ≡ true) (λ x h. differs (k ∷ ks) x row there (λ e. omega arith)) later high) in
      three p before rows later ∙ ap₂ (λ a c. a ++ (filter p rows ++ c)) front back

  put_between : (keys : List ℕ) (before rows later : List Row) (row : Row) → AreKeys col keys → AllByRecursion (λ x. time_of col x < time_of col row) before → AllByRecursion (λ x. time_of col row < time_of col x) later
      → put col keys (before ++ (rows ++ later)) row ≡ before ++ (put col keys rows row ++ later)
  put_between [] before rows later row are low high = in_time_between before rows later row low high
  put_between (k ∷ ks) before rows later row are low high =
      ⊎_elim (λ none. cc) (λ there. ap (λ l. in_time col l row) (without_between k ks before rows later row there low high) ∙ in_time_between before (without_equals (k ∷ ks) rows row) later row low high) are

  -- rows put one after another
  pub fold_between : (keys : List ℕ) (before rows later new : List Row) → AreKeys col keys
      → AllByRecursion (λ r. AllByRecursion (λ x. time_of col x < time_of col r) before × AllByRecursion (λ x. time_of col r < time_of col x) later) new
      → fold (put col keys) (before ++ (rows ++ later)) new ≡ before ++ (fold (put col keys) rows new ++ later)
  fold_between keys before rows later [] are apart = refl
  fold_between keys before rows later (row ∷ new) are apart =
      ap (λ l. fold (put col keys) l new) (put_between keys before rows later row are apart.0.0 apart.0.1) ∙ fold_between keys before (put col keys rows row) later new are apart.1

  -- a fact of the rows that are there and of those that are put holds of each row then
  each_put : (P : Row → Type 0) (keys : List ℕ) (rows : List Row) (row : Row) → AllByRecursion P rows → P row → AllByRecursion P (put col keys rows row)
  each_put P keys rows row h is =
      let left : List Row = without_equals keys rows row in
      let stay : AllByRecursion P left = stays keys in
      each_append P (filter (λ x. leb (time_of col x) (time_of col row)) left) (row ∷ filter (λ x. ltb (time_of col row) (time_of col x)) left)
      (each_filter P (λ x. leb (time_of col x) (time_of col row)) left stay)
      (is, each_filter P (λ x. ltb (time_of col row) (time_of col x)) left stay)
    where
      stays : (keys : List ℕ) → AllByRecursion P (without_equals keys rows row)
      stays [] = h
      stays (k ∷ ks) = each_filter P (λ x. not (same_on (k ∷ ks) x row)) rows h

  pub each_fold : (P : Row → Type 0) (keys : List ℕ) (rows new : List Row) → AllByRecursion P rows → AllByRecursion P new → AllByRecursion P (fold (put col keys) rows new)
  each_fold P keys rows [] h is = h
  each_fold P keys rows (row ∷ new) h is = each_fold P keys (put col keys rows row) new (each_put P keys rows row h is.0) is.1

  some_put : (keys : List ℕ) (rows : List Row) (row : Row) → 0 < length (put col keys rows row)
  some_put keys rows row = behind (filter (λ x. leb (time_of col x) (time_of col row)) (without_equals keys rows row)) (filter (λ x. ltb (time_of col row) (time_of col x)) (without_equals keys rows row))
    where
      behind : (xs ys : List Row) → 0 < length (xs ++ row ∷ ys)
      behind [] ys = omega arith
      behind (x ∷ xs) ys = omega arith

  -- some rows are there then
  pub some_fold : (keys : List ℕ) (rows new : List Row) → 0 < length new → 0 < length (fold (put col keys) rows new)
  some_fold keys rows [] some = absurd (omega arith)
  some_fold keys rows (row ∷ new) some = stay (put col keys rows row) new (some_put keys rows row)
    where
      stay : (rows new : List Row) → 0 < length rows → 0 < length (fold (put col keys) rows new)
      stay rows [] h = h
      stay rows (row ∷ new) h = stay (put col keys rows row) new (some_put keys rows row)
