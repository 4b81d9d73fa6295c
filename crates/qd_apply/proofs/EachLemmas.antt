-- Facts of each element of a list, and of each row that is put.
use Rattle.std.proofs.Common.{ℕ, ◌<◌, Bool, true, false, not, ltb, leb, cond, List, [], ◌∷◌, ◌++◌, length, map, arith}
use Rattle.std.specs.List.{AllByRecursion, filter, fold}
use Rattle.qd_base.specs.Rows.{Row, time_of, same_on, without_equals, put}

pub each_append : {X : Type 0} (P : X → Type 0) (xs ys : List X) → AllByRecursion P xs → AllByRecursion P ys → AllByRecursion P (xs ++ ys)
each_append P [] ys h k = k
each_append P (x ∷ xs) ys h k = (h.0, each_append P xs ys h.1 k)

pub each_front : {X : Type 0} (P : X → Type 0) (xs ys : List X) → AllByRecursion P (xs ++ ys) → AllByRecursion P xs
each_front P [] ys h = tt
each_front P (x ∷ xs) ys h = (h.0, each_front P xs ys h.1)

pub each_back : {X : Type 0} (P : X → Type 0) (xs ys : List X) → AllByRecursion P (xs ++ ys) → AllByRecursion P ys
each_back P [] ys h = h
each_back P (x ∷ xs) ys h = each_back P xs ys h.1

pub each_map : {X Y : Type 0} (P : Y → Type 0) (f : X → Y) (xs : List X) → AllByRecursion (λ x. P (f x)) xs → AllByRecursion P (map f xs)
each_map P f [] h = tt
each_map P f (x ∷ xs) h = (h.0, each_map P f xs h.1)

pub each_then : {X : Type 0} (P Q : X → Type 0) → ((x : X) → P x → Q x) → (xs : List X) → AllByRecursion P xs → AllByRecursion Q xs
each_then P Q f [] h = tt
each_then P Q f (x ∷ xs) h = (f x h.0, each_then P Q f xs h.1)

pub each_both : {X : Type 0} (P Q : X → Type 0) (xs : List X) → AllByRecursion P xs → AllByRecursion Q xs → AllByRecursion (λ x. P x × Q x) xs
each_both P Q [] h k = tt
each_both P Q (x ∷ xs) h k = ((h.0, k.0), each_both P Q xs h.1 k.1)

pub each_filter : {X : Type 0} (P : X → Type 0) (p : X → Bool) (xs : List X) → AllByRecursion P xs → AllByRecursion P (filter p xs)
each_filter P p [] h = tt
each_filter P p (x ∷ xs) h = keep (p x) (each_filter P p xs h.1)
  where
    keep : (b : Bool) → AllByRecursion P (filter p xs) → AllByRecursion P (cond b (x ∷ filter p xs) (filter p xs))
    keep true rest = (h.0, rest)
    keep false rest = rest

module _ (col : ℕ) where
  pub each_without : (P : Row → Type 0) (keys : List ℕ) (rows : List Row) (row : Row) → AllByRecursion P rows → AllByRecursion P (without_equals keys rows row)
  each_without P [] rows row h = h
  each_without P (k ∷ ks) rows row h = each_filter P (λ x. not (same_on (k ∷ ks) x row)) rows h

  -- a fact of the rows that are there and of those that are put holds of each row then
  pub each_put : (P : Row → Type 0) (keys : List ℕ) (rows : List Row) (row : Row) → AllByRecursion P rows → P row → AllByRecursion P (put col keys rows row)
  each_put P keys rows row h is =
      let left : List Row = without_equals keys rows row in
      let stay : AllByRecursion P left = each_without P keys rows row h in
      each_append P (filter (λ x. leb (time_of col x) (time_of col row)) left) (row ∷ filter (λ x. ltb (time_of col row) (time_of col x)) left)
      (each_filter P (λ x. leb (time_of col x) (time_of col row)) left stay)
      (is, each_filter P (λ x. ltb (time_of col row) (time_of col x)) left stay)

  pub each_fold : (P : Row → Type 0) (keys : List ℕ) (rows new : List Row) → AllByRecursion P rows → AllByRecursion P new → AllByRecursion P (fold (put col keys) rows new)
  each_fold P keys rows [] h is = h
  each_fold P keys rows (row ∷ new) h is = each_fold P keys (put col keys rows row) new (each_put P keys rows row h is.0) is.1

  some_put : (keys : List ℕ) (rows : List Row) (row : Row) → 0 < length (put col keys rows row)
  some_put keys rows row = behind (filter (λ x. leb (time_of col x) (time_of col row)) (without_equals keys rows row)) (filter (λ x. ltb (time_of col row) (time_of col x)) (without_equals keys rows row))
    where
      behind : (xs ys : List Row) → 0 < length (xs ++ row ∷ ys)
      behind [] ys = omega arith
      behind (x ∷ xs) ys = omega arith

  -- some rows are there then
  pub some_fold : (keys : List ℕ) (rows new : List Row) → 0 < length new → 0 < length (fold (put col keys) rows new)
  some_fold keys rows [] some = absurd (omega arith)
  some_fold keys rows (row ∷ new) some = stay (put col keys rows row) new (some_put keys rows row)
    where
      stay : (rows new : List Row) → 0 < length rows → 0 < length (fold (put col keys) rows new)
      stay rows [] h = h
      stay rows (row ∷ new) h = stay (put col keys rows row) new (some_put keys rows row)
