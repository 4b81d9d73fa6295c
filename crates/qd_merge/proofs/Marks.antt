-- Marks of numbers.
use Rattle.std.proofs.Common.{◌≡◌, ℕ, ◌+◌, ◌<◌, Bool, true, false, ◌||◌, eqb, List, [], ◌∷◌, length, map, take, drop, get_or, set, refl, sym, ap, ◌∙◌, All, replicate, inl, inr}
use Rattle.std.specs.List.{list_any}
use Rattle.std.proofs.lemmas.Bool.{eq-eqb, ne_eqb, cases_eq, or_right}
use Rattle.std.proofs.lemmas.List.{get_or-replicate, get_or-set_same, get_or-set_other, take_more}
use Rattle.std.proofs.lemmas.List.Folds.{list_any-append}
use Rattle.std.proofs.lemmas.List.Elements.{All-take}
use Rattle.qd_merge.specs.Replaced.{stand_behind}
use Rattle.qd_merge.proofs.Wide.{map-all}

-- one number more is marked
pub marks_more : (numbers : List ℕ) (marks : List Bool) (count i : ℕ) → i < length numbers → get_or numbers i 0 < length marks → ((n : ℕ) → n < count → get_or marks n false ≡ list_any (λ m. eqb n m) (take i numbers)) → (n : ℕ) → n < count → get_or (set marks (get_or numbers i 0) true) n false ≡ list_any (λ m. eqb n m) (take (i + 1) numbers)
marks_more numbers marks count i low within so_far n lt =
    let number : ℕ = get_or numbers i 0 in
    let before : Bool = list_any (λ m. eqb n m) (take i numbers) in
    let now : list_any (λ m. eqb n m) (take (i + 1) numbers) ≡ (before || (eqb n number || false)) = ap (list_any (λ m. eqb n m)) (take_more numbers i 0 low) ∙ list_any-append (λ m. eqb n m) (take i numbers) (number ∷ []) in
    elim (cases_eq n number) [
      | inl same ↦ ap (λ j. get_or (set marks number true) j false) same ∙ get_or-set_same marks number true false within ∙ sym (now ∙ ap (λ b. before || (b || false)) (eq-eqb n number same) ∙ or_right before true refl)
      | inr differ ↦ get_or-set_other marks number n true false differ ∙ so_far n lt ∙ sym (now ∙ ap (λ b. before || (b || false)) (ne_eqb n number differ) ∙ or_none before)
    ]
  where
    or_none : (b : Bool) → (b || false) ≡ b
    or_none true = refl
    or_none false = refl

-- at first none is
pub none_marked : (marks : List Bool) (count : ℕ) → marks ≡ replicate count false → (n : ℕ) → n < count → get_or marks n false ≡ false
none_marked marks count are n lt = ap (λ (l : List Bool). get_or l n false) are ∙ get_or-replicate count n false false lt

-- the marks of the first numbers tell which of them stand among the others
pub marks_tell : (count : ℕ) (numbers : List ℕ) (marks : List Bool) → All (λ n. n < length numbers) numbers → ((n : ℕ) → n < length numbers → get_or marks n false ≡ list_any (λ m. eqb n m) (drop count numbers)) → map (λ n. get_or marks n false) (take count numbers) ≡ stand_behind count numbers
marks_tell count numbers marks below tell = map-all (λ n. n < length numbers) (λ n. get_or marks n false) (λ n. list_any (λ m. eqb n m) (drop count numbers)) tell (take count numbers) (All-take (λ n. n < length numbers) count numbers below)
