-- A relation at each place of two lists.
use Rattle.std.proofs.Common.{◌≡◌, ℕ, zero, suc, ◌<◌, List, [], ◌∷◌, length, get_or, refl, arith}
use Rattle.std.specs.List.{AllZip}

module _ {A B : Type 0} (R : A → B → Type 0) where
  -- a relation at each place of two lists of one length
  pub AllZip-from : (xs : List A) (ys : List B) (d : A) (f : B) → length xs ≡ length ys → ((k : ℕ) → k < length ys → R (get_or xs k d) (get_or ys k f)) → AllZip R xs ys
  AllZip-from [] [] d f same h = tt
  AllZip-from [] (y ∷ ys) d f same h = absurd (omega arith)
  AllZip-from (x ∷ xs) [] d f same h = absurd (omega arith)
  AllZip-from (x ∷ xs) (y ∷ ys) d f same h = (h 0 (omega arith), AllZip-from xs ys d f (omega arith) (λ k lt. h (suc k) (omega arith)))

  pub AllZip-at : (xs : List A) (ys : List B) (k : ℕ) (d : A) (f : B) → AllZip R xs ys → k < length ys → R (get_or xs k d) (get_or ys k f)
  AllZip-at [] [] k d f h lt = absurd (omega arith)
  AllZip-at [] (y ∷ ys) k d f h lt = absurd h
  AllZip-at (x ∷ xs) [] k d f h lt = absurd h
  AllZip-at (x ∷ xs) (y ∷ ys) zero d f h lt = h.0
  AllZip-at (x ∷ xs) (y ∷ ys) (suc k) d f h lt = AllZip-at xs ys k d f h.1 (omega arith)

  pub AllZip-length : (xs : List A) (ys : List B) → AllZip R xs ys → length xs ≡ length ys
  AllZip-length [] [] h = refl
  AllZip-length [] (y ∷ ys) h = absurd h
  AllZip-length (x ∷ xs) [] h = absurd h
  AllZip-length (x ∷ xs) (y ∷ ys) h = let same = AllZip-length xs ys h.1 in omega arith
