-- Parts that were gone over: their refusals, and what they become.
use Rattle.std.proofs.Common.{◌≡◌, ℕ, ◌+◌, ◌<◌, List, [], ◌∷◌, ◌++◌, length, map, take, get_or, Some, None, refl, sym, ap, ◌∙◌, append-nil}
use Rattle.std.specs.List.{flat_map}
use Rattle.std.proofs.Math.Seq.{take-length}
use Rattle.std.proofs.lemmas.List.{map-append, take_more}
use Rattle.std.proofs.lemmas.Grind.{flat_map-append}
use Rattle.qd_meaning.specs.declared.refusal.Refusal.{Refusal}
use Rattle.qd_meaning.specs.Refusals.{least, lesser}

-- one more part
pub flat_more : {T : Type 0} (faults : T → List Refusal) (xs : List T) (i : ℕ) (d : T) → i < length xs
    → flat_map faults (take i xs) ++ faults (get_or xs i d) ≡ flat_map faults (take (i + 1) xs)
flat_more faults xs i d lt =
    ap (λ (rs : List Refusal). flat_map faults (take i xs) ++ rs) (sym (append-nil (faults (get_or xs i d))))
    ∙ sym (flat_map-append faults (take i xs) (get_or xs i d ∷ []))
    ∙ ap (flat_map faults) (sym (take_more xs i d lt))

pub none-is_empty : (rs : List Refusal) → None ≡ least rs → rs ≡ []
none-is_empty [] e = refl
none-is_empty (r ∷ rs) e = absurd (some-none (lesser r (least rs)) e)
  where
    some-none : (x : Refusal) → None ≡ Some x → ⊥
    some-none x e = cc

-- all of them
pub flat_all : {T : Type 0} (faults : T → List Refusal) (xs : List T) (i : ℕ) → i ≡ length xs → flat_map faults (take i xs) ≡ flat_map faults xs
flat_all faults xs i e = ap (λ (n : ℕ). flat_map faults (take n xs)) e ∙ ap (flat_map faults) (take-length xs)

-- ---- what they become

pub map_more : {A B : Type 0} (f : A → B) (xs : List A) (i : ℕ) (d : A) (y : B) → i < length xs → y ≡ f (get_or xs i d) → map f (take i xs) ++ y ∷ [] ≡ map f (take (i + 1) xs)
map_more {A} {B} f xs i d y lt e =
    ap (λ (z : B). map f (take i xs) ++ z ∷ []) e
    ∙ sym (map-append f (take i xs) (get_or xs i d ∷ []))
    ∙ ap (map f) (sym (take_more xs i d lt))

pub map_all : {A B : Type 0} (f : A → B) (xs : List A) (i : ℕ) → i ≡ length xs → map f (take i xs) ≡ map f xs
map_all f xs i e = ap (λ (n : ℕ). map f (take n xs)) e ∙ ap (map f) (take-length xs)
