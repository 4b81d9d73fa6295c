-- Blocks that are numbered upwards, one more of them.
use Rattle.std.proofs.Common.{◌≡◌, ℕ, zero, suc, ◌+◌, ◌<◌, List, [], ◌∷◌, ◌++◌, length, map, take, get_or, sym, ◌∙◌, ap, ap₂, arith}
use Rattle.std.specs.List.{range_with_len}
use Rattle.std.proofs.lemmas.List.{map-append, take_more}

range_next : (a n : ℕ) → range_with_len a (suc n) ≡ range_with_len a n ++ (a + n) ∷ []
range_next a zero = let e : a ≡ a + 0 = omega arith in ap (λ (m : ℕ). m ∷ []) e
range_next a (suc n) =
    let e : (a + 1) + n ≡ a + suc n = omega arith in
    ap (λ (l : List ℕ). a ∷ l) (range_next (a + 1) n ∙ ap (λ (m : ℕ). range_with_len (a + 1) n ++ m ∷ []) e)

module _ {X : Type 0} (old new : List X) (x : X) (more : new ≡ old ++ x ∷ []) where
  pub numbers_more : (number : X → ℕ) (first n : ℕ) → map number old ≡ range_with_len first n → number x ≡ first + n → map number new ≡ range_with_len first (n + 1)
  numbers_more number first n before here =
      let e : suc n ≡ n + 1 = omega arith in
      ap (map number) more
      ∙ map-append number old (x ∷ [])
      ∙ ap₂ (λ (l : List ℕ) (m : ℕ). l ++ m ∷ []) before here
      ∙ sym (range_next first n)
      ∙ ap (λ (m : ℕ). range_with_len first m) e

  pub rows_more : {Y Z : Type 0} (of : X → Y) (rows : Z → Y) (all : List Z) (n : ℕ) (z : Z) → map of old ≡ map rows (take n all) → n < length all
      → of x ≡ rows (get_or all n z) → map of new ≡ map rows (take (n + 1) all)
  rows_more of rows all n z before lt here =
      ap (map of) more
      ∙ map-append of old (x ∷ [])
      ∙ ap₂ (λ l y. l ++ y ∷ []) before here
      ∙ sym (map-append rows (take n all) (get_or all n z ∷ []))
      ∙ ap (map rows) (sym (take_more all n z lt))
