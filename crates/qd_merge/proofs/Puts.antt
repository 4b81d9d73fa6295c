-- Rows put behind all others, and before later ones.
use Rattle.std.proofs.Common.{◌≡◌, ℕ, ◌<◌, ◌≤◌, Bool, true, false, ltb, leb, List, [], ◌∷◌, ◌++◌, refl, sym, ap, ap₂, ◌∙◌, append-nil, append_assoc, All}
use Rattle.std.specs.List.{AllByRecursion, filter, fold}
use Rattle.std.proofs.lemmas.Bool.{le-leb, lt-leb, le-ltb, lt-ltb}
use Rattle.std.proofs.lemmas.List.Elements.{filter-append}
use Rattle.std.proofs.lemmas.List.Sorted.{All-permutation}
use Rattle.qd_base.specs.Rows.{Row, time_of, put}
use Rattle.qd_merge.proofs.Batches.{put-moves}

-- all pass, and none
each_passes : {X : Type 0} (p : X → Bool) (xs : List X) → AllByRecursion (λ x. p x ≡ true) xs → filter p xs ≡ xs
each_passes p [] h = refl
each_passes p (x ∷ xs) h = rw h.0 (ap (λ l. x ∷ l) (each_passes p xs h.1))

none_passes : {X : Type 0} (p : X → Bool) (xs : List X) → AllByRecursion (λ x. p x ≡ false) xs → filter p xs ≡ []
none_passes p [] h = refl
none_passes p (x ∷ xs) h = rw h.0 (none_passes p xs h.1)

each : {X : Type 0} (P Q : X → Type 0) → ((x : X) → P x → Q x) → (xs : List X) → AllByRecursion P xs → AllByRecursion Q xs
each P Q f [] h = tt
each P Q f (x ∷ xs) h = (f x h.0, each P Q f xs h.1)

module _ (col : ℕ) where
  -- a row behind rows of its time or earlier ones
  pub put_last : (rows : List Row) (row : Row) → AllByRecursion (λ x. time_of col x ≤ time_of col row) rows → put col [] rows row ≡ rows ++ row ∷ []
  put_last rows row upto =
      let T : ℕ = time_of col row in
      let front : filter (λ x. leb (time_of col x) T) rows ≡ rows = each_passes (λ x. leb (time_of col x) T) rows (each (λ x. time_of col x ≤ T) (λ x. leb (time_of col x) T ≡ true) (λ x h. le-leb (time_of col x) T h) rows upto) in
      let back : filter (λ x. ltb T (time_of col x)) rows ≡ [] = none_passes (λ x. ltb T (time_of col x)) rows (each (λ x. time_of col x ≤ T) (λ x. ltb T (time_of col x) ≡ false) (λ x h. le-ltb T (time_of col x) h) rows upto) in
      ap₂ (λ u v. u ++ row ∷ v) front back

  -- a row before later ones
  pub put_before : (rows later : List Row) (row : Row) → AllByRecursion (λ x. time_of col row < time_of col x) later → put col [] (rows ++ later) row ≡ put col [] rows row ++ later
  put_before rows later row past =
      let T : ℕ = time_of col row in
      let p : Row → Bool = λ x. leb (time_of col x) T in
      let q : Row → Bool = λ x. ltb T (time_of col x) in
      let none : filter p later ≡ [] = none_passes p later (each (λ x. T < time_of col x) (λ x. leb (time_of col x) T ≡ false) (λ x h. lt-leb (time_of col x) T h) later past) in
      let all : filter q later ≡ later = each_passes q later (each (λ x. T < time_of col x) (λ x. ltb T (time_of col x) ≡ true) (λ x h. lt-ltb T (time_of col x) h) later past) in
      let front : filter p (rows ++ later) ≡ filter p rows = filter-append p rows later ∙ ap (λ l. filter p rows ++ l) none ∙ append-nil (filter p rows) in
      let back : filter q (rows ++ later) ≡ filter q rows ++ later = filter-append q rows later ∙ ap (λ l. filter q rows ++ l) all in
      ap₂ (λ u v. u ++ row ∷ v) front back ∙ sym (append_assoc (filter p rows) (row ∷ filter q rows) later)

  pub fold_before : (rows later new : List Row) → AllByRecursion (λ b. AllByRecursion (λ x. time_of col b < time_of col x) later) new → fold (put col []) (rows ++ later) new ≡ fold (put col []) rows new ++ later
  fold_before rows later [] past = refl
  fold_before rows later (row ∷ new) past = ap (λ l. fold (put col []) l new) (put_before rows later row past.0) ∙ fold_before (put col [] rows row) later new past.1

  -- a fact of the rows that are there and of those that are put holds of each row then
  pub all-fold : (P : Row → Type 0) (rows new : List Row) → All P (rows ++ new) → All P (fold (put col []) rows new)
  all-fold P rows new h = All-permutation P (rows ++ new) (fold (put col []) rows new) (put-moves col rows new) h
