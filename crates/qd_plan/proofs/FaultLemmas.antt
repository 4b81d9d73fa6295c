-- Parts that were gone over: their refusals behind those before, and what they become.
use Rattle.std.proofs.Common.{◌≡◌, ℕ, ◌+◌, ◌<◌, List, [], ◌∷◌, ◌++◌, length, map, take, get_or, Option, Some, None, refl, sym, ap, ◌∙◌, append-nil}
use Rattle.std.specs.List.{flat_map}
use Rattle.std.proofs.Math.Seq.{take-length}
use Rattle.std.proofs.lemmas.List.{map-append, take_more}
use Rattle.std.proofs.lemmas.Grind.{flat_map-append}
use Rattle.qd_meaning.specs.declared.refusal.Refusal.{Refusal}
use Rattle.qd_meaning.specs.Refusals.{least, sooner}
use Rattle.qd_bind.proofs.PartLemmas.{least-append}

-- nothing more
pub none_more : (o : Option Refusal) → sooner o None ≡ o
none_more None = refl
none_more (Some r) = refl

-- two parts, one behind the other
pub joined : (o : Option Refusal) (xs ys : List Refusal) → sooner (sooner o (least xs)) (least ys) ≡ sooner o (least (xs ++ ys))
joined None xs ys = sym (least-append xs ys)
joined (Some r) xs ys =
    ap (λ (p : Option Refusal). sooner p (least ys)) (sym (least-append (r ∷ []) xs))
    ∙ sym (least-append (r ∷ xs) ys)
    ∙ least-append (r ∷ []) (xs ++ ys)

pub step : (o p q : Option Refusal) (xs ys : List Refusal) → p ≡ sooner o (least xs) → q ≡ sooner p (least ys) → q ≡ sooner o (least (xs ++ ys))
step o p q xs ys e f = f ∙ ap (λ (a : Option Refusal). sooner a (least ys)) e ∙ joined o xs ys

-- one more part of a list
flat_more : {T : Type 0} (faults : T → List Refusal) (xs : List T) (i : ℕ) (d : T) → i < length xs
    → flat_map faults (take i xs) ++ faults (get_or xs i d) ≡ flat_map faults (take (i + 1) xs)
flat_more faults xs i d lt =
    ap (λ (rs : List Refusal). flat_map faults (take i xs) ++ rs) (sym (append-nil (faults (get_or xs i d))))
    ∙ sym (flat_map-append faults (take i xs) (get_or xs i d ∷ []))
    ∙ ap (flat_map faults) (sym (take_more xs i d lt))

pub more : {T : Type 0} (faults : T → List Refusal) (xs : List T) (i : ℕ) (x : T) → i < length xs → x ≡ get_or xs i x → (o p q : Option Refusal)
    → p ≡ sooner o (least (flat_map faults (take i xs))) → q ≡ sooner p (least (faults x)) → q ≡ sooner o (least (flat_map faults (take (i + 1) xs)))
more faults xs i x lt is o p q e f =
    step o p q (flat_map faults (take i xs)) (faults (get_or xs i x)) e (f ∙ ap (λ (y : _). sooner p (least (faults y))) is)
    ∙ ap (λ (rs : List Refusal). sooner o (least rs)) (flat_more faults xs i x lt)

pub all : {T : Type 0} (faults : T → List Refusal) (xs : List T) (i : ℕ) → i ≡ length xs → (o p : Option Refusal)
    → p ≡ sooner o (least (flat_map faults (take i xs))) → p ≡ sooner o (least (flat_map faults xs))
all faults xs i e o p h = h ∙ ap (λ (n : ℕ). sooner o (least (flat_map faults (take n xs)))) e ∙ ap (λ (ys : List _). sooner o (least (flat_map faults ys))) (take-length xs)

-- ---- what they become

pub map_more : {A B : Type 0} (f : A → B) (xs : List A) (i : ℕ) (d : A) (y : B) → i < length xs → y ≡ f (get_or xs i d) → map f (take i xs) ++ y ∷ [] ≡ map f (take (i + 1) xs)
map_more {A} {B} f xs i d y lt e =
    ap (λ (z : B). map f (take i xs) ++ z ∷ []) e
    ∙ sym (map-append f (take i xs) (get_or xs i d ∷ []))
    ∙ ap (map f) (sym (take_more xs i d lt))

pub map_all : {A B : Type 0} (f : A → B) (xs : List A) (i : ℕ) → i ≡ length xs → map f (take i xs) ≡ map f xs
map_all f xs i e = ap (λ (n : ℕ). map f (take n xs)) e ∙ ap (map f) (take-length xs)
