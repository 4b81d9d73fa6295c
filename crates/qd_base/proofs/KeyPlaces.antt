-- Keys that stood before.
use Rattle.std.proofs.Common.{◌≡◌, ℕ, ◌<◌, true, false, eqb, nat_eq, List, Contains, length, get_or, take, sym, ap, ◌∙◌, true≢false, arith}
use Rattle.std.specs.List.{IsDistinct}
use Rattle.std.proofs.lemmas.List.{get_or-take, get_or_default, length-take-le}
use Rattle.std.proofs.lemmas.Bool.Decides.{nat_tests}
use Rattle.qd_base.proofs.Taken.{IsDistinct-pair}

itself : (n : ℕ) → eqb n n ≡ true
itself n = grind (arith, nat_tests)

-- distinct keys: none stands before its place
pub stands_twice : (keys : List ℕ) (i : ℕ) → i < length keys → IsDistinct nat_eq keys → Contains (take i keys) (get_or keys i 0) → ⊥
stands_twice keys i lt h c =
    let long : length (take i keys) ≡ i = length-take-le i keys (omega arith) in
    let at : c.0 < length (take i keys) = c.1 in
    let below : c.0 < i = omega arith in
    let apart : nat_eq (get_or keys c.0 0) (get_or keys i 0) ≡ false = IsDistinct-pair nat_eq keys h c.0 i 0 below lt in
    let same : get_or keys c.0 0 ≡ get_or keys i 0 =
    get_or_default keys c.0 0 (get_or keys i 0) (omega arith) ∙ sym (get_or-take i keys c.0 (get_or keys i 0) below) ∙ c.2 in
    true≢false (sym (itself (get_or keys i 0)) ∙ ap (λ n. eqb n (get_or keys i 0)) (sym same) ∙ apart)

-- a key that isn't among those before differs from each
pub differs : (keys : List ℕ) (i k : ℕ) → i < length keys → k < i → (Contains (take i keys) (get_or keys i 0) → ⊥) → nat_eq (get_or keys k 0) (get_or keys i 0) ≡ false
differs keys i k lt below n =
    let long : length (take i keys) ≡ i = length-take-le i keys (omega arith) in
    differ (get_or keys k 0) (get_or keys i 0) (λ same. n (k, omega arith, get_or-take i keys k (get_or keys i 0) below ∙ get_or_default keys k (get_or keys i 0) 0 (omega arith) ∙ same))
  where
    differ : (a b : ℕ) → (a ≡ b → ⊥) → nat_eq a b ≡ false
    differ a b ne = grind (arith, nat_tests)
