-- Sums over the front of a list.
use Rattle.std.proofs.Common.{◌≡◌, ℕ, ◌+◌, ◌<◌, ◌≤◌, List, length, get_or, take, drop, sum_by, sym, ap, ◌∙◌, arith}
use Rattle.std.proofs.lemmas.List.{take_all, take_more, take-append-drop}
use Rattle.std.proofs.lemmas.List.Sums.{sum_by_push, sum_by-append}

module _ {X : Type 0} (f : X → ℕ) where
  pub sum_taken : (xs : List X) (i : ℕ) (x : X) → i < length xs → x ≡ get_or xs i x → sum_by f (take (i + 1) xs) ≡ sum_by f (take i xs) + f x
  sum_taken xs i x lt e = ap (sum_by f) (take_more xs i x lt) ∙ sum_by_push f (take i xs) (get_or xs i x) ∙ ap (λ y. sum_by f (take i xs) + f y) (sym e)

  pub sum_whole : (xs : List X) (i : ℕ) → length xs ≤ i → sum_by f (take i xs) ≡ sum_by f xs
  sum_whole xs i le = ap (sum_by f) (take_all i xs le)

  -- what is left of a number beside a sum, with one part more
  pub left_taken : (xs : List X) (i left all rest : ℕ) (x : X) → i < length xs → x ≡ get_or xs i x → left + sum_by f (take i xs) ≡ all → rest + f x ≡ left → rest + sum_by f (take (i + 1) xs) ≡ all
  left_taken xs i left all rest x lt e h k = let g = sum_taken xs i x lt e in omega arith

  -- and beside the whole
  pub left_whole : (xs : List X) (i left all : ℕ) → length xs ≤ i → left + sum_by f (take i xs) ≡ all → left + sum_by f xs ≡ all
  left_whole xs i left all le h = let g = sum_whole xs i le in omega arith

  -- a part more than is left: the sum is more than the number
  pub left_short : (xs : List X) (i left all : ℕ) (x : X) → i < length xs → x ≡ get_or xs i x → left + sum_by f (take i xs) ≡ all → left < f x → all < sum_by f xs
  left_short xs i left all x lt e h k =
      let g = sum_taken xs i x lt e in
      let parts : sum_by f (take (i + 1) xs) + sum_by f (drop (i + 1) xs) ≡ sum_by f xs = sym (sum_by-append f (take (i + 1) xs) (drop (i + 1) xs)) ∙ ap (sum_by f) (take-append-drop (i + 1) xs) in
      omega arith
