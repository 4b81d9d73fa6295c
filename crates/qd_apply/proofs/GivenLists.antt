-- Parts of lists no two of whose members are equal.
use Rattle.std.proofs.Common.{◌≡◌, ℕ, zero, suc, Bool, false, List, [], ◌∷◌, take, drop}
use Rattle.std.specs.List.{IsDistinct}
use Rattle.qd_apply.proofs.RangeLemmas.{each_take}

module _ {X : Type 0} (e : X → X → Bool) where
  pub distinct_take : (n : ℕ) (xs : List X) → IsDistinct e xs → IsDistinct e (take n xs)
  unfolding IsDistinct
  distinct_take zero xs d = tt
  distinct_take (suc n) [] d = tt
  distinct_take (suc n) (x ∷ xs) d = (each_take (λ y. e x y ≡ false) n xs d.0, distinct_take n xs d.1)

  pub distinct_drop : (n : ℕ) (xs : List X) → IsDistinct e xs → IsDistinct e (drop n xs)
  unfolding IsDistinct
  distinct_drop zero xs d = d
  distinct_drop (suc n) [] d = tt
  distinct_drop (suc n) (x ∷ xs) d = distinct_drop n xs d.1
