-- Where no two columns have one name, the columns of a name are the first one alone.
use Rattle.std.proofs.Common.{◌≡◌, ◌≢◌, ℕ, zero, suc, ◌+◌, ◌<◌, ◌≤◌, Bool, true, false, if◌then◌else◌, List, [], ◌∷◌, length, get_or, Option, Some, None, refl, sym, ap, ◌∙◌, arith, slice_get, true≢false, ltb}
use Rattle.std.specs.List.{AllByRecursion}
use Rattle.std.proofs.lemmas.Bool.{ltb-false, ltb-true}
use Rattle.std.proofs.lemmas.List.Quantifiers.{position-Some}
use Rattle.std.proofs.lemmas.Option.{slice_get-get_or}
use Rattle.qd_base.specs.declared.schema.Col.{Col}
use Rattle.qd_base.specs.Schemas.{same_name, column_at}
use Rattle.qd_base.proofs.Alike.{joins, turned}
use Rattle.qd_base.proofs.Tables.{position-none}
use Rattle.qd_bind.specs.Apart.{AreApart}
use Rattle.qd_bind.specs.Scoped.{named_from}

chosen : (b v : Bool) (x : ℕ × Col) (rest : List (ℕ × Col)) → b ≡ v → (if b then x ∷ rest else rest) ≡ (if v then x ∷ rest else rest)
chosen b v x rest e = ap (λ (k : Bool). if k then x ∷ rest else rest) e

-- ---- no column

none-each : (name : List ℕ) (n : ℕ) (cols : List Col) → AllByRecursion (λ (c : Col). same_name c.name name ≡ false) cols → named_from name n cols ≡ []
none-each name n [] h = refl
none-each name n (c ∷ cs) h = chosen (same_name c.name name) false (n, c) (named_from name (n + 1) cs) h.0 ∙ none-each name (n + 1) cs h.1

none-at : (name : List ℕ) (n : ℕ) (cols : List Col) (d : Col) → ((k : ℕ) → k < length cols → same_name (get_or cols k d).name name ≡ false) → named_from name n cols ≡ []
none-at name n [] d h = refl
none-at name n (c ∷ cs) d h =
    chosen (same_name c.name name) false (n, c) (named_from name (n + 1) cs) (h 0 (omega arith)) ∙ none-at name (n + 1) cs d (λ k lt. h (suc k) (omega arith))

pub none_named : (name : List ℕ) (n : ℕ) (cols : List Col) → column_at cols name ≡ None → named_from name n cols ≡ []
none_named name n cols e = none-each name n cols (position-none (λ (c : Col). same_name c.name name) cols (rw e refl))

-- ---- one column

one-at : (name : List ℕ) (n : ℕ) (cols : List Col) (i : ℕ) (d : Col) → i < length cols → same_name (get_or cols i d).name name ≡ true
    → ((k : ℕ) → k < length cols → k ≢ i → same_name (get_or cols k d).name name ≡ false) → named_from name n cols ≡ (n + i, get_or cols i d) ∷ []
one-at name n [] i d lt e h = absurd (omega arith)
one-at name n (c ∷ cs) zero d lt e h =
    chosen (same_name c.name name) true (n, c) (named_from name (n + 1) cs) e
    ∙ ap (λ (rest : List (ℕ × Col)). (n, c) ∷ rest) (none-at name (n + 1) cs d (λ k lt. h (suc k) (omega arith) (omega arith)))
    ∙ ap (λ (m : ℕ). let xs : List (ℕ × Col) = (m, c) ∷ [] in xs) (omega arith)
one-at name n (c ∷ cs) (suc i) d lt e h =
    chosen (same_name c.name name) false (n, c) (named_from name (n + 1) cs) (h 0 (omega arith) (omega arith))
    ∙ one-at name (n + 1) cs i d (omega arith) e (λ k lt differ. h (suc k) (omega arith) (omega arith))
    ∙ ap (λ (m : ℕ). let xs : List (ℕ × Col) = (m, get_or cs i d) ∷ [] in xs) (omega arith)

module _ (cols : List Col) (apart : AreApart cols) (name : List ℕ) (i : ℕ) (d : Col) (found : column_at cols name ≡ Some i) where
  place : (i < length cols) × (same_name (get_or cols i d).name name ≡ true) × ((j : ℕ) → j < i → same_name (get_or cols j d).name name ≡ false)
  place = position-Some (λ (c : Col). same_name c.name name) cols i d found

  own : (k : ℕ) → k < length cols → (j : ℕ) → j < k → same_name (get_or cols j d).name (get_or cols k d).name ≡ false
  own k lt = (position-Some (λ (c : Col). same_name c.name (get_or cols k d).name) cols k d (apart k (get_or cols k d) (slice_get-get_or cols k d lt))).2

  later : (k : ℕ) → k < length cols → i < k → (b : Bool) → same_name (get_or cols k d).name name ≡ b → b ≡ false
  later k lt after false e = refl
  later k lt after true e =
      absurd (true≢false (sym (joins name (get_or cols i d).name (get_or cols k d).name true (turned (get_or cols i d).name name true place.1) (turned (get_or cols k d).name name true e)) ∙ own k lt i after))

  by_order : (k : ℕ) → k < length cols → k ≢ i → (b : Bool) → ltb k i ≡ b → same_name (get_or cols k d).name name ≡ false
  by_order k lt differ true e = place.2 k (ltb-true k i e)
  by_order k lt differ false e = later k lt (let le : i ≤ k = ltb-false k i e in omega (arith, le, differ)) (same_name (get_or cols k d).name name) refl

  pub one_named : (n : ℕ) → named_from name n cols ≡ (n + i, get_or cols i d) ∷ []
  one_named n = one-at name n cols i d place.0 place.1 (λ k lt differ. by_order k lt differ (ltb k i) refl)
