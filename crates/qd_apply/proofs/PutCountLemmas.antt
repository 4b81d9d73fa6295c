-- How many rows a table has once others are put into it.
use Rattle.std.proofs.Common.{◌≡◌, ℕ, suc, ◌+◌, ◌≤◌, Bool, true, false, cond, not, List, [], ◌∷◌, ◌++◌, length, arith, length-append}
use Rattle.std.specs.List.{filter, fold}
use Rattle.std.proofs.lemmas.List.Sorted.{length_permutation}
use Rattle.qd_base.specs.Rows.{Row, in_time, put, same_on, without_equals}
use Rattle.qd_merge.proofs.Batches.{put-moves}

fewer : {X : Type 0} (p : X → Bool) (xs : List X) → length (filter p xs) ≤ length xs
fewer p [] = omega arith
fewer p (x ∷ xs) = step (p x) (fewer p xs)
  where
    step : (b : Bool) → length (filter p xs) ≤ length xs → length (cond b (x ∷ filter p xs) (filter p xs)) ≤ suc (length xs)
    step true h = omega (arith, h)
    step false h = omega (arith, h)

left_few : (keys : List ℕ) (rows : List Row) (row : Row) → length (without_equals keys rows row) ≤ length rows
left_few [] rows row = omega arith
left_few (k ∷ ks) rows row = fewer (λ x. not (same_on (k ∷ ks) x row)) rows

one_more : (col : ℕ) (rows : List Row) (row : Row) → length (in_time col rows row) ≡ length (rows ++ row ∷ [])
one_more col rows row = length_permutation (rows ++ row ∷ []) (in_time col rows row) (put-moves col rows (row ∷ []))

put_few : (col : ℕ) (keys : List ℕ) (rows : List Row) (row : Row) → length (put col keys rows row) ≤ suc (length rows)
put_few col keys rows row =
    let left = without_equals keys rows row in
    let a = one_more col left row in
    let b = left_few keys rows row in
    omega (arith, a, b, length-append left (row ∷ []))

pub fold_few : (col : ℕ) (keys : List ℕ) (rows new : List Row) → length (fold (put col keys) rows new) ≤ length rows + length new
fold_few col keys rows [] = omega arith
fold_few col keys rows (row ∷ new) =
    let a = put_few col keys rows row in
    let b = fold_few col keys (put col keys rows row) new in
    omega (arith, a, b)
