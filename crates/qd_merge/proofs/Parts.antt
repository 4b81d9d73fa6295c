-- Parts of lists.
use Rattle.std.proofs.Common.{◌≡◌, ℕ, zero, suc, ◌+◌, ◌-◌, ◌<◌, ◌≤◌, List, [], ◌∷◌, ◌++◌, length, take, drop, get_or, refl, sym, ap, ◌∙◌, arith, All, slice_range, subst, length-drop}
use Rattle.std.proofs.lemmas.List.{take_all, get_or-take, get_or-drop, length-take}
use Rattle.qd_column.proofs.ListLemmas.{part_more, part_none}

take_nothing : {T : Type 0} (n : ℕ) → take {A = T} n [] ≡ []
take_nothing zero = refl
take_nothing (suc n) = refl

drop_nothing : {T : Type 0} (n : ℕ) → drop {A = T} n [] ≡ []
drop_nothing zero = refl
drop_nothing (suc n) = refl

take_sum : {T : Type 0} (xs : List T) (m n : ℕ) → take (m + n) xs ≡ take m xs ++ take n (drop m xs)
take_sum xs zero n = let e : 0 + n ≡ n = omega arith in ap (λ k. take k xs) e
take_sum [] (suc m) n = take_nothing (suc m + n) ∙ sym (take_nothing n)
take_sum (x ∷ xs) (suc m) n = let e : suc m + n ≡ suc (m + n) = omega arith in rw e (ap (λ l. x ∷ l) (take_sum xs m n))

drop_sum : {T : Type 0} (xs : List T) (m n : ℕ) → drop n (drop m xs) ≡ drop (m + n) xs
drop_sum xs zero n = let e : 0 + n ≡ n = omega arith in ap (λ k. drop k xs) (sym e)
drop_sum [] (suc m) n = drop_nothing n ∙ sym (drop_nothing (suc m + n))
drop_sum (x ∷ xs) (suc m) n = let e : suc m + n ≡ suc (m + n) = omega arith in rw e (drop_sum xs m n)

pub got_any : {T : Type 0} (xs : List T) (i : ℕ) (d e : T) → i < length xs → get_or xs i d ≡ get_or xs i e
got_any [] i d e h = absurd (omega arith)
got_any (x ∷ xs) zero d e h = refl
got_any (x ∷ xs) (suc i) d e h = got_any xs i d e (omega arith)

-- a part up to one place, and on up to another
pub part_joined : {T : Type 0} (xs : List T) (a b c : ℕ) → a ≤ b → b ≤ c → slice_range xs a c ≡ slice_range xs a b ++ slice_range xs b c
part_joined xs a b c low high =
    let count : c - a ≡ (b - a) + (c - b) = omega arith in
    let place : a + (b - a) ≡ b = omega arith in
    ap (λ n. take n (drop a xs)) count ∙ take_sum (drop a xs) (b - a) (c - b) ∙ ap (λ l. take (b - a) (drop a xs) ++ take (c - b) l) (drop_sum xs a (b - a) ∙ ap (λ n. drop n xs) place)

-- each item of a part
pub all-part : {T : Type 0} (P : T → Type 0) (xs : List T) (a b : ℕ) → b ≤ length xs → ((k : ℕ) (d : T) → a ≤ k → k < b → P (get_or xs k d)) → All P (slice_range xs a b)
all-part P xs a b high h k d lt =
    let low : k < b - a = omega (arith, length-take (b - a) (drop a xs), lt) in
    let at : get_or (slice_range xs a b) k d ≡ get_or xs (a + k) d = get_or-take (b - a) (drop a xs) k d low ∙ get_or-drop a xs k d in
    subst P (sym at) (h (a + k) d (omega arith) (omega arith))

pub whole_part : {T : Type 0} (xs : List T) (a n : ℕ) → n ≡ length xs → slice_range xs a n ≡ drop a xs
whole_part xs a n e = take_all (n - a) (drop a xs) (omega (arith, length-drop a xs))

pub one_part : {T : Type 0} (xs : List T) (i : ℕ) (d : T) → i < length xs → slice_range xs i (i + 1) ≡ get_or xs i d ∷ []
one_part xs i d h = part_more xs i i d (omega arith) h ∙ ap (λ l. l ++ get_or xs i d ∷ []) (part_none xs i)
