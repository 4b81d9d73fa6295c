-- What is answered for the front of a list, with one more part.
use Rattle.std.proofs.Common.{◌≡◌, ℕ, ◌+◌, ◌<◌, List, [], ◌∷◌, ◌++◌, length, take, get_or, Option, sym, ap, ap₂, ◌∙◌, append-nil}
use Rattle.std.specs.List.{flat_map}
use Rattle.std.proofs.lemmas.List.{take_more}
use Rattle.std.proofs.lemmas.Grind.{flat_map-append}
use Rattle.std.proofs.Math.Seq.{take-length}
use Rattle.qd_meaning.specs.declared.refusal.Refusal.{Refusal}
use Rattle.qd_meaning.specs.Refusals.{least, sooner}
use Rattle.qd_meaning.proofs.RefusalLemmas.{least-append}

pub one-more : {T : Type 0} (faults : T → List Refusal) (xs : List T) (i : ℕ) (d : T) → i < length xs → (o r : Option Refusal)
    → o ≡ least (flat_map faults (take i xs)) → r ≡ least (faults (get_or xs i d)) → sooner o r ≡ least (flat_map faults (take (i + 1) xs))
one-more faults xs i d lt o r e f =
    ap₂ sooner e f
    ∙ sym (least-append (flat_map faults (take i xs)) (faults (get_or xs i d)))
    ∙ ap (λ (rs : List Refusal). least (flat_map faults (take i xs) ++ rs)) (sym (append-nil (faults (get_or xs i d))))
    ∙ ap least (sym (flat_map-append faults (take i xs) (get_or xs i d ∷ [])))
    ∙ ap (λ ys. least (flat_map faults ys)) (sym (take_more xs i d lt))

pub all-of : {T : Type 0} (faults : T → List Refusal) (xs : List T) (i : ℕ) → i ≡ length xs → least (flat_map faults (take i xs)) ≡ least (flat_map faults xs)
all-of faults xs i e = ap (λ n. least (flat_map faults (take n xs))) e ∙ ap (λ ys. least (flat_map faults ys)) (take-length xs)
