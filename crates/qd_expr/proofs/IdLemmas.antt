-- Ids of a dictionary against the id of one text.
use Rattle.std.proofs.Common.{◌≡◌, ◌≢◌, ℕ, zero, suc, ◌<◌, ◌≤◌, ◌⊎◌, inl, inr, Bool, true, false, not, cond, eqb, ltb, List, [], ◌∷◌, Some, None, length, map, take, drop, get_or, refl, sym, ap, ◌∙◌, arith, All, subst, slice_range}
use Rattle.std.specs.List.{IsDistinct, position_or_len}
use Rattle.std.proofs.lemmas.Bool.{ne_eqb}
use Rattle.std.proofs.lemmas.Bool.Decides.{nat_tests, eqb_tells, Decides-eqb}
use Rattle.std.proofs.lemmas.Cmp.{nat_list_eq_equiv}
use Rattle.std.proofs.lemmas.Slice.Eq.{slice_eq-Decides}
use Rattle.std.proofs.lemmas.List.Elements.{All-from_recursion, All-take, All-drop}
use Rattle.std.proofs.lemmas.List.Quantifiers.{position-Some}
use Rattle.std.proofs.lemmas.List.Sums.{position_or_len_is, fails_before_first}
use Rattle.qd_base.specs.declared.cell.Cell.{Cell}
use Rattle.qd_base.specs.declared.cell.Cell.TheVariants as cell
use Rattle.qd_base.specs.declared.limits.TheConstants.{NULL_ID}
use Rattle.qd_base.specs.Rows.{cell_eq}
use Rattle.qd_base.specs.Dictionary.{same_text, id_in, id_for, AreDistinct}
use Rattle.qd_column.specs.Symbols.{symbol_cell, IsIdOf}
use Rattle.qd_expr.proofs.ListLemmas.{part_image}

abbrev Texts : Type 0
Texts = List (List ℕ)

bool_same : (a b : Bool) → (a ≡ true → b ≡ true) → (b ≡ true → a ≡ true) → a ≡ b
bool_same true b f g = sym (f refl)
bool_same false true f g = g refl
bool_same false false f g = refl

-- among distinct texts, each has the id of its place
id_of_place : (texts : Texts) (id : ℕ) → AreDistinct texts → id < length texts → id_for texts (get_or texts id []) ≡ id
unfolding IsDistinct
id_of_place [] id h lt = absurd (omega arith)
id_of_place (x ∷ xs) zero h lt = rw (nat_list_eq_equiv.refl x) refl
id_of_place (x ∷ xs) (suc k) h lt =
    let other : same_text x (get_or xs k []) ≡ false = (All-from_recursion (λ y. same_text x y ≡ false) xs h.0) k [] (omega arith) in
    let turned : same_text (get_or xs k []) x ≡ false = nat_list_eq_equiv.symm (get_or xs k []) x ∙ other in
    rw turned (let e = id_of_place xs k h.1 (omega arith) in omega arith)

text_is : (a b : List ℕ) → same_text a b ≡ true → a ≡ b
text_is a b e = (slice_eq-Decides Decides-eqb a b (same_text a b) refl).0 e

id_is : (texts : Texts) (y : List ℕ) (id : ℕ) → id_in texts y ≡ Some id → id_for texts y ≡ id
id_is texts y id found =
    let at = position-Some (same_text y) texts id [] found in
    position_or_len_is (same_text y) texts id [] (omega (arith, at.0)) at.2 (λ h. at.1)

same_id : (texts : Texts) (y : List ℕ) (id x : ℕ) → AreDistinct texts → id_in texts y ≡ Some id → x < length texts → eqb x id ≡ same_text (get_or texts x []) y
same_id texts y id x distinct found within =
    let at = position-Some (same_text y) texts id [] found in
    bool_same (eqb x id) (same_text (get_or texts x []) y)
    (λ e. let same : x ≡ id = (Decides-eqb x id).0 e in ap (λ n. same_text (get_or texts n []) y) same ∙ nat_list_eq_equiv.symm (get_or texts id []) y ∙ at.1)
    (λ e. (Decides-eqb x id).1 (sym (id_of_place texts x distinct within) ∙ ap (id_for texts) (text_is (get_or texts x []) y e) ∙ id_is texts y id found))

null_cell : (texts : Texts) → symbol_cell texts NULL_ID ≡ cell.Null
null_cell texts = refl

text_cell : (texts : Texts) (x : ℕ) → length texts ≤ NULL_ID → x < length texts → symbol_cell texts x ≡ cell.Text (get_or texts x [])
text_cell texts x few within = rw (ne_eqb x NULL_ID (λ e. absurd (omega arith))) refl

-- an id is that of a text exactly where its cell is that text
id_same : (texts : Texts) (y : List ℕ) (id x : ℕ) → AreDistinct texts → length texts ≤ NULL_ID → id_in texts y ≡ Some id → IsIdOf texts x → eqb x id ≡ cell_eq (symbol_cell texts x) (cell.Text y)
id_same texts y id x distinct few found (inl null) =
    let at = position-Some (same_text y) texts id [] found in
    ne_eqb x id (λ e. absurd (omega (arith, at.0))) ∙ sym (ap (λ n. cell_eq (symbol_cell texts n) (cell.Text y)) null)
id_same texts y id x distinct few found (inr within) = same_id texts y id x distinct found within ∙ sym (ap (λ c. cell_eq c (cell.Text y)) (text_cell texts x few within))

none_far : (n m : ℕ) → cond (ltb n m) (Some n) None ≡ None → m ≤ n
none_far n m e = by (ltb n m) refl e
  where
    by : (t : Bool) → t ≡ ltb n m → cond t (Some n) None ≡ None → m ≤ n
    by true is none = absurd (cc)
    by false is none = grind (arith, nat_tests)

-- where the text has no id, no cell is that text
id_none : (texts : Texts) (y : List ℕ) (x : ℕ) → length texts ≤ NULL_ID → id_in texts y ≡ None → IsIdOf texts x → false ≡ cell_eq (symbol_cell texts x) (cell.Text y)
id_none texts y x few found (inl null) = sym (ap (λ n. cell_eq (symbol_cell texts n) (cell.Text y)) null)
id_none texts y x few found (inr within) =
    let far : length texts ≤ id_for texts y = none_far (id_for texts y) (length texts) found in
    sym (ap (λ c. cell_eq c (cell.Text y)) (text_cell texts x few within) ∙ nat_list_eq_equiv.symm (get_or texts x []) y ∙ fails_before_first (same_text y) texts x [] (omega arith))

map-where : {X Y : Type 0} (P : X → Type 0) (f g : X → Y) (xs : List X) → ((x : X) → P x → f x ≡ g x) → All P xs → map f xs ≡ map g xs
map-where P f g [] h each = refl
map-where P f g (x ∷ xs) h each = ap (λ y. y ∷ map f xs) (h x (each zero x (omega arith))) ∙ ap (λ l. g x ∷ l) (map-where P f g xs h (λ k d lt. each (suc k) d (omega arith)))

-- ids of a part of a column against that of a text
pub ids_same : (texts : Texts) (y : List ℕ) (id : ℕ) (ids : List ℕ) (a b : ℕ) → AreDistinct texts → length texts ≤ NULL_ID → id_in texts y ≡ Some id → All (IsIdOf texts) ids
    → map (λ x. eqb x id) (slice_range ids a b) ≡ map (λ c. cell_eq c (cell.Text y)) (slice_range (map (symbol_cell texts) ids) a b)
ids_same texts y id ids a b distinct few found each =
    map-where (IsIdOf texts) (λ x. eqb x id) (λ x. cell_eq (symbol_cell texts x) (cell.Text y)) (slice_range ids a b) (λ x is. id_same texts y id x distinct few found is) (All-take (IsIdOf texts) _ _ (All-drop (IsIdOf texts) a ids each))
    ∙ part_image (λ c. cell_eq c (cell.Text y)) (symbol_cell texts) ids a b

pub ids_none : (texts : Texts) (y : List ℕ) (ids : List ℕ) (a b : ℕ) → length texts ≤ NULL_ID → id_in texts y ≡ None → All (IsIdOf texts) ids
    → map (λ (x : ℕ). false) (slice_range ids a b) ≡ map (λ c. cell_eq c (cell.Text y)) (slice_range (map (symbol_cell texts) ids) a b)
ids_none texts y ids a b few found each =
    map-where (IsIdOf texts) (λ x. false) (λ x. cell_eq (symbol_cell texts x) (cell.Text y)) (slice_range ids a b) (λ x is. id_none texts y x few found is) (All-take (IsIdOf texts) _ _ (All-drop (IsIdOf texts) a ids each))
    ∙ part_image (λ c. cell_eq c (cell.Text y)) (symbol_cell texts) ids a b
