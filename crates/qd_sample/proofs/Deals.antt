-- Items that are dealt by their classes.
use Rattle.std.proofs.Common.{◌≡◌, ℕ, ◌+◌, ◌<◌, cond, eqb, List, [], ◌∷◌, ◌++◌, length, map, filter, take, get_or, set, sym, ap, ap₂, ◌∙◌, arith, inl, inr}
use Rattle.std.specs.List.{range_with_len}
use Rattle.std.proofs.lemmas.Bool.{cases_eq, eq-eqb, ne_eqb}
use Rattle.std.proofs.lemmas.List.{append-nil, ext_get_or, get_or-set_same, get_or-set_other, length-set}
use Rattle.std.proofs.lemmas.List.FromFn.{length-map-range_with_len, get_or-map-range_with_len}
use Rattle.qd_sample.proofs.Lists.{filter_more}

-- the items of a class among the first ones
abbrev pub hand : List ℕ → List ℕ → ℕ → ℕ → List ℕ
hand classes items i c = filter (λ x. eqb (get_or classes x 0) c) (take i items)

pub dealt_more : (classes items : List ℕ) (i count x c : ℕ) (lists more : List (List ℕ)) (new : List ℕ) → i < length items → get_or items i 0 ≡ x → get_or classes x 0 ≡ c → c < count
    → lists ≡ map (hand classes items i) (range_with_len 0 count) → new ≡ get_or lists c [] ++ x ∷ [] → more ≡ set lists c new → more ≡ map (hand classes items (i + 1)) (range_with_len 0 count)
dealt_more classes items i count x c lists more new low item class below are grown written =
    ext_get_or [] more (map (hand classes items (i + 1)) (range_with_len 0 count)) (size ∙ sym (length-map-range_with_len (hand classes items (i + 1)) 0 count)) at
  where
    counted : length lists ≡ count
    counted = ap length are ∙ length-map-range_with_len (hand classes items i) 0 count

    size : length more ≡ count
    size = ap length written ∙ length-set lists c new ∙ counted

    old : (k : ℕ) → k < count → get_or lists k [] ≡ hand classes items i k
    old k lt = ap (λ (l : List (List ℕ)). get_or l k []) are ∙ get_or-map-range_with_len (hand classes items i) 0 count k k [] lt (omega arith)

    grows : (k : ℕ) → hand classes items (i + 1) k ≡ hand classes items i k ++ cond (eqb c k) (x ∷ []) []
    grows k = filter_more (λ y. eqb (get_or classes y 0) k) items i 0 low ∙ ap₂ (λ y m. hand classes items i k ++ cond (eqb m k) (y ∷ []) []) item (ap (λ y. get_or classes y 0) item ∙ class)

    at : (k : ℕ) → k < length more → get_or more k [] ≡ get_or (map (hand classes items (i + 1)) (range_with_len 0 count)) k []
    at k lt = elim (cases_eq c k) [
      | inl here ↦
          (ap (λ (l : List (List ℕ)). get_or l k []) written
          ∙ ap (λ m. get_or (set lists m new) k []) here
          ∙ get_or-set_same lists k new [] (omega (arith, size, counted))
          ∙ grown
          ∙ ap (λ l. l ++ x ∷ []) (ap (λ m. get_or lists m []) here ∙ old k (omega (arith, size)))
          ∙ sym (grows k ∙ ap (λ b. hand classes items i k ++ cond b (x ∷ []) []) (eq-eqb c k here))
          ∙ sym (get_or-map-range_with_len (hand classes items (i + 1)) 0 count k k [] (omega (arith, size)) (omega arith)))
      | inr other ↦
          (ap (λ (l : List (List ℕ)). get_or l k []) written
          ∙ get_or-set_other lists c k new [] (λ e. other (sym e))
          ∙ old k (omega (arith, size))
          ∙ sym (grows k ∙ ap (λ b. hand classes items i k ++ cond b (x ∷ []) []) (ne_eqb c k other) ∙ append-nil (hand classes items i k))
          ∙ sym (get_or-map-range_with_len (hand classes items (i + 1)) 0 count k k [] (omega (arith, size)) (omega arith)))
    ]
