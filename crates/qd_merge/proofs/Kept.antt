-- What is kept of lists.
use Rattle.std.proofs.Common.{◌≡◌, ℕ, zero, suc, ◌+◌, ◌<◌, Bool, true, false, cond, List, [], ◌∷◌, ◌++◌, length, take, get_or, refl, sym, ap, ap₂, ◌∙◌, arith, All}
use Rattle.std.proofs.lemmas.List.{take_more, length-take-le}
use Rattle.qd_base.specs.Rows.{Row}
use Rattle.qd_merge.specs.Classes.{kept}

-- what is kept of two lists, one behind the other
pub kept-append : {T : Type 0} (f g : List Bool) (xs ys : List T) → length f ≡ length xs → kept (f ++ g) (xs ++ ys) ≡ kept f xs ++ kept g ys
kept-append [] g [] ys e = refl
kept-append [] g (x ∷ xs) ys e = absurd (omega arith)
kept-append (b ∷ f) g [] ys e = absurd (omega arith)
kept-append (b ∷ f) g (x ∷ xs) ys e = go b (kept-append f g xs ys (omega arith))
  where
    go : (b : Bool) → kept (f ++ g) (xs ++ ys) ≡ kept f xs ++ kept g ys → cond b (kept (f ++ g) (xs ++ ys)) (x ∷ kept (f ++ g) (xs ++ ys)) ≡ cond b (kept f xs) (x ∷ kept f xs) ++ kept g ys
    go true rest = rest
    go false rest = ap (λ l. x ∷ l) rest

-- a fact of all items holds of those that are kept
pub all_cons : {T : Type 0} (P : T → Type 0) (x : T) (xs : List T) → P x → All P xs → All P (x ∷ xs)
all_cons P x xs h rest zero d lt = h
all_cons P x xs h rest (suc k) d lt = rest k d (omega arith)

no_items : {T : Type 0} (P : T → Type 0) → All P []
no_items P k d lt = absurd (omega arith)

pub all-kept : {T : Type 0} (P : T → Type 0) (flags : List Bool) (xs : List T) → All P xs → All P (kept flags xs)
all-kept P [] xs h = no_items P
all-kept P (b ∷ flags) [] h = no_items P
all-kept P (b ∷ flags) (x ∷ xs) h = go b (all-kept P flags xs (λ k d lt. h (suc k) d (omega arith)))
  where
    go : (b : Bool) → All P (kept flags xs) → All P (cond b (kept flags xs) (x ∷ kept flags xs))
    go true rest = rest
    go false rest = all_cons P x (kept flags xs) (h zero x (omega arith)) rest

-- one row more of those that are kept
pub kept_take : (gone : List Bool) (rows : List Row) (i : ℕ) → length gone ≡ length rows → i < length rows → kept (take (i + 1) gone) (take (i + 1) rows) ≡ kept (take i gone) (take i rows) ++ cond (get_or gone i false) [] (get_or rows i [] ∷ [])
kept_take gone rows i e low =
    ap₂ (λ f xs. kept f xs) (take_more gone i false (omega arith)) (take_more rows i [] low) ∙ kept-append (take i gone) (get_or gone i false ∷ []) (take i rows) (get_or rows i [] ∷ []) (length-take-le i gone (omega arith) ∙ sym (length-take-le i rows (omega arith)))
