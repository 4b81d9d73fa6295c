-- Lists of which no two elements are alike, and lists that are taken element by element.
use Rattle.std.proofs.Common.{◌≡◌, IsTrue, true, true≢false, ℕ, zero, suc, ◌+◌, ◌<◌, ◌≤◌, false, Bool, List, [], ◌∷◌, All, length, get_or, take, refl, sym, subst, arith}
use Rattle.std.specs.List.{AllByRecursion, IsDistinct}
use Rattle.std.proofs.lemmas.List.{take_more, get_or-take, length-take-le, take_all}
use Rattle.std.proofs.lemmas.List.Elements.{All-get_or, All-from_recursion, recursion_from_All, All-from_get_or, All-more}
use Rattle.qd_base.proofs.Lists.{IsDistinct-push}

-- a test that passes exactly where a fact holds
pub holds : {P : Type 0} → P → (IsTrue true → P) × (P → IsTrue true)
holds p = (λ e. p, λ q. refl)

pub fails : {P : Type 0} → (P → ⊥) → (IsTrue false → P) × (P → IsTrue false)
fails n = (λ e. absurd (true≢false (sym e)), λ p. absurd (n p))

module _ {X : Type 0} (P : X → Type 0) where
  -- an element more of which a fact holds
  pub All-taken : (xs : List X) (i : ℕ) (x : X) → i < length xs → x ≡ get_or xs i x → All P (take i xs) → P x → All P (take (i + 1) xs)
  All-taken xs i x lt e h p = All-more P xs i x lt h (subst P e p)

  pub All-whole : (xs : List X) (i : ℕ) → length xs ≤ i → All P (take i xs) → All P xs
  All-whole xs i le h = subst (All P) (take_all i xs le) h

module _ {X : Type 0} (e : X → X → Bool) where
  -- of two places, the earlier element isn't like the later one
  pub IsDistinct-pair : (xs : List X) → IsDistinct e xs → (i j : ℕ) (d : X) → i < j → j < length xs → e (get_or xs i d) (get_or xs j d) ≡ false
  unfolding IsDistinct
  IsDistinct-pair [] h i j d lt in' = absurd (omega arith)
  IsDistinct-pair (x ∷ xs) h zero zero d lt in' = absurd (omega arith)
  IsDistinct-pair (x ∷ xs) h zero (suc j) d lt in' = All-get_or (λ y. e x y ≡ false) xs j d (omega arith) (All-from_recursion (λ y. e x y ≡ false) xs h.0)
  IsDistinct-pair (x ∷ xs) h (suc i) zero d lt in' = absurd (omega arith)
  IsDistinct-pair (x ∷ xs) h (suc i) (suc j) d lt in' = IsDistinct-pair xs h.1 i j d (omega arith) (omega arith)

  -- one element more, which none before it is like
  pub IsDistinct-more : (xs : List X) (i : ℕ) (d : X) → i < length xs → IsDistinct e (take i xs) → ((k : ℕ) → k < i → e (get_or xs k d) (get_or xs i d) ≡ false) → IsDistinct e (take (i + 1) xs)
  IsDistinct-more xs i d lt h k =
      let long : length (take i xs) ≡ i = length-take-le i xs (omega arith) in
      let others : AllByRecursion (λ x. e x (get_or xs i d) ≡ false) (take i xs) =
      recursion_from_All (λ x. e x (get_or xs i d) ≡ false) (take i xs)
      (All-from_get_or (λ x. e x (get_or xs i d) ≡ false) (take i xs) d (λ n m. let below : n < i = omega arith in rw (get_or-take i xs n d below) (k n below))) in
      rw (take_more xs i d lt) (IsDistinct-push e (take i xs) (get_or xs i d) h others)
