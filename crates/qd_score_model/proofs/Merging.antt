-- Two rising lists of positions, merged.
use Rattle.std.proofs.Common.{◌≢◌, ℕ, zero, suc, ◌<◌, Bool, true, false, List, [], ◌∷◌, ◌++◌, length, get_or, arith}
use Rattle.std.specs.Prelude.{nat_le, if◌then◌else◌, AllPairs}
use Rattle.std.specs.List.Sorted.{IsPermutation}
use Rattle.std.proofs.lemmas.List.Sorted.{IsPermutation-refl, IsPermutation-trans, IsPermutation-cons, IsPermutation-middle}
use Rattle.qd_score_model.specs.Machine.{insert, merged}
use Rattle.qd_score_model.specs.Kept.{RisesWithin}

-- a number in its place is among those that were there
insert_permutes : (x : ℕ) (xs : List ℕ) → IsPermutation (insert x xs) (x ∷ xs)
insert_permutes x [] = IsPermutation-refl (x ∷ [])
insert_permutes x (y ∷ ys) = choose (insert_permutes x ys) (nat_le x y)
  where
    choose : IsPermutation (insert x ys) (x ∷ ys) → (b : Bool) → IsPermutation (if b then x ∷ y ∷ ys else y ∷ insert x ys) (x ∷ y ∷ ys)
    choose h true = IsPermutation-refl (x ∷ y ∷ ys)
    choose h false = IsPermutation-trans _ _ _ (IsPermutation-cons y (insert x ys) (x ∷ ys) h) (IsPermutation-middle (y ∷ []) x ys)

-- the merged list has the numbers of both
pub merged_permutes : (xs ys : List ℕ) → IsPermutation (merged xs ys) (xs ++ ys)
merged_permutes [] ys = IsPermutation-refl ys
merged_permutes (x ∷ xs) ys = IsPermutation-trans _ _ _ (insert_permutes x (merged xs ys)) (IsPermutation-cons x (merged xs ys) (xs ++ ys) (merged_permutes xs ys))

-- each number of a rising list is above its beginning
rises_above : (low high : ℕ) (xs : List ℕ) → RisesWithin low high xs → (i d : ℕ) → i < length xs → low < get_or xs i d
rises_above low high [] h i d lt = absurd (omega arith)
rises_above low high (x ∷ xs) h zero d lt = h.0
rises_above low high (x ∷ xs) h (suc i) d lt = let a = rises_above x high xs h.1 i d (omega arith) in omega (arith, h.0)

-- no two numbers of a rising list are the same
pub rises_distinct : (low high : ℕ) (xs : List ℕ) → RisesWithin low high xs → AllPairs (λ n m. n ≢ m) xs
rises_distinct low high [] h i j d lt within = absurd (omega arith)
rises_distinct low high (x ∷ xs) h i zero d lt within = absurd (omega arith)
rises_distinct low high (x ∷ xs) h zero (suc j) d lt within = λ e. let a = rises_above x high xs h.1 j d (omega arith) in omega arith
rises_distinct low high (x ∷ xs) h (suc i) (suc j) d lt within = rises_distinct x high xs h.1 i j d (omega arith) (omega arith)
