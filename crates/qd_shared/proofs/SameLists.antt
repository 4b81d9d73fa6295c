-- Lists that are the same place by place.
use Rattle.std.proofs.Common.{◌≡◌, ℕ, zero, suc, ◌<◌, List, [], ◌∷◌, length, Some, slice_get, refl, ap, ap₂, arith}

pub same_items : {X : Type 0} (xs ys : List X) → length xs ≡ length ys → ((i : ℕ) → i < length xs → slice_get xs i ≡ slice_get ys i) → xs ≡ ys
same_items [] [] count each = refl
same_items [] (y ∷ ys) count each = absurd (omega (arith, count))
same_items (x ∷ xs) [] count each = absurd (omega (arith, count))
same_items (x ∷ xs) (y ∷ ys) count each =
    let head : x ≡ y = (let e : Some x ≡ Some y = each 0 (omega arith) in cc) in
    ap₂ (λ a l. a ∷ l) head (same_items xs ys (omega (arith, count)) (λ i less. each (suc i) (omega (arith, less))))
