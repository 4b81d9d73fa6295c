-- The texts of cells, and the ids that name them.
use Rattle.std.proofs.Common.{◌≡◌, ◌≢◌, ℕ, zero, suc, ◌+◌, ◌^◌, ◌<◌, ◌≤◌, ◌⊎◌, inl, inr, ⊎_elim, max, Bool, true, false, not, cond, eqb, ltb, List, [], ◌∷◌, ◌++◌, length, map, fold, take, drop, get_or, slice_index, refl, sym, ap, ◌∙◌, arith, All, subst, length-append, append-nil}
use Rattle.std.specs.List.{IsDistinct}
use Rattle.std.proofs.lemmas.Bool.{ne_eqb, cases_lt}
use Rattle.std.proofs.lemmas.Bool.Decides.{eqb_tells}
use Rattle.std.proofs.lemmas.Cmp.{nat_list_eq_equiv}
use Rattle.std.proofs.lemmas.List.{append_assoc, get_or-take, take-append-drop, take_more, length-take-le, length-map, take_at, take-map, take_all, length-take}
use Rattle.std.proofs.lemmas.List.Elements.{All-from_recursion}
use Rattle.std.proofs.lemmas.List.Sums.{fold-append}
use Rattle.qd_base.specs.declared.cell.Cell.{Cell}
use Rattle.qd_base.specs.declared.cell.Cell.TheVariants as cell
use Rattle.qd_base.specs.declared.limits.TheConstants.{NULL_ID}
use Rattle.qd_base.specs.declared.schema.ColType.TheVariants as kind
use Rattle.qd_base.specs.Dictionary.{same_text, id_for, with_text, AreDistinct}
use Rattle.qd_base.proofs.Texts.{position_within, with_text-there, with_text-new, text_given, text_stands, distinct-with_text}
use Rattle.qd_column.specs.Symbols.{with_text_of, texts_in, symbol_cell, IsIdOf, AreSymbols}
use Rattle.qd_column_format.specs.Fields.{id_field, named, AreFields}

abbrev pub Texts : Type 0
Texts = List (List ℕ)

-- what one id more does to the number of texts named
abbrev pub step : ℕ → ℕ → ℕ
step n id = cond (eqb id NULL_ID) n (max n (id + 1))

-- a text keeps its id in a longer list
pub id_for-append : (xs ys : Texts) (t : List ℕ) → id_for xs t < length xs → id_for (xs ++ ys) t ≡ id_for xs t
id_for-append [] ys t h = absurd (omega arith)
id_for-append (x ∷ xs) ys t h = go (same_text t x) (id_for xs t) (id_for (xs ++ ys) t) (length xs) (id_for-append xs ys t) h
  where
    go : (b : Bool) (n m size : ℕ) → (n < size → m ≡ n) → cond (not b) (1 + n) 0 < suc size → cond (not b) (1 + m) 0 ≡ cond (not b) (1 + n) 0
    go true n m size rest h = refl
    go false n m size rest h = let e = rest (omega arith) in omega arith

id_for-new : (xs : Texts) (t : List ℕ) → id_for xs t ≡ length xs → id_for (xs ++ t ∷ []) t ≡ length xs
id_for-new [] t h = rw (nat_list_eq_equiv.refl t) refl
id_for-new (x ∷ xs) t h = go (same_text t x) (id_for xs t) (id_for (xs ++ t ∷ []) t) (length xs) (id_for-new xs t) h
  where
    go : (b : Bool) (n m size : ℕ) → (n ≡ size → m ≡ size) → cond (not b) (1 + n) 0 ≡ suc size → cond (not b) (1 + m) 0 ≡ suc size
    go true n m size rest h = absurd (omega arith)
    go false n m size rest h = let e = rest (omega arith) in omega arith

-- the id that a text is given is the one that it has from then on
pub id_given : (texts : Texts) (t : List ℕ) → id_for (with_text texts t) t ≡ id_for texts t
id_given texts t =
    elim (cases_lt (id_for texts t) (length texts)) [
      | inl there ↦ ap (λ l. id_for l t) (with_text-there texts t there)
      | inr new ↦ (let most = position_within (same_text t) texts in let at : id_for texts t ≡ length texts = omega arith in ap (λ l. id_for l t) (with_text-new texts t new) ∙ id_for-new texts t at ∙ sym at)
    ]

with_more : (texts : Texts) (t : List ℕ) → (more : Texts) × (with_text texts t ≡ texts ++ more)
with_more texts t = go (ltb (id_for texts t) (length texts))
  where
    go : (b : Bool) → (more : Texts) × (cond b texts (texts ++ t ∷ []) ≡ texts ++ more)
    go true = ([], sym (append-nil texts))
    go false = (t ∷ [], refl)

with_cell_more : (texts : Texts) (c : Cell) → (more : Texts) × (with_text_of texts c ≡ texts ++ more)
with_cell_more texts cell.Null = ([], sym (append-nil texts))
with_cell_more texts (cell.Long x) = ([], sym (append-nil texts))
with_cell_more texts (cell.Bool b) = ([], sym (append-nil texts))
with_cell_more texts (cell.Text t) = with_more texts t
with_cell_more texts (cell.Time t) = ([], sym (append-nil texts))

-- the texts of more cells are more texts
pub texts_more : (texts : Texts) (cells : List Cell) → (more : Texts) × (fold with_text_of texts cells ≡ texts ++ more)
texts_more texts [] = ([], sym (append-nil texts))
texts_more texts (c ∷ cs) =
    let one = with_cell_more texts c in
    let rest = texts_more (with_text_of texts c) cs in
    (one.0 ++ rest.0, rest.1 ∙ ap (λ l. l ++ rest.0) one.1 ∙ append_assoc texts one.0 rest.0)

pub id_stays : (texts : Texts) (cells : List Cell) (t : List ℕ) → id_for texts t < length texts → id_for (fold with_text_of texts cells) t ≡ id_for texts t
id_stays texts cells t h = let more = texts_more texts cells in ap (λ l. id_for l t) more.1 ∙ id_for-append texts more.0 t h

pub distinct_texts : (texts : Texts) (cells : List Cell) → AreDistinct texts → AreDistinct (fold with_text_of texts cells)
distinct_texts texts [] h = h
distinct_texts texts (cell.Null ∷ cs) h = distinct_texts texts cs h
distinct_texts texts (cell.Long x ∷ cs) h = distinct_texts texts cs h
distinct_texts texts (cell.Bool b ∷ cs) h = distinct_texts texts cs h
distinct_texts texts (cell.Text t ∷ cs) h = distinct_texts (with_text texts t) cs (distinct-with_text texts t h)
distinct_texts texts (cell.Time t ∷ cs) h = distinct_texts texts cs h

with_text-size : (texts : Texts) (t : List ℕ) → length (with_text texts t) ≤ length texts + 1
with_text-size texts t = go (ltb (id_for texts t) (length texts))
  where
    go : (b : Bool) → length (cond b texts (texts ++ t ∷ [])) ≤ length texts + 1
    go true = omega arith
    go false = omega (arith, length-append texts (t ∷ []))

pub few_texts : (texts : Texts) (cells : List Cell) → length (fold with_text_of texts cells) ≤ length texts + length cells
few_texts texts [] = omega arith
few_texts texts (cell.Null ∷ cs) = let h = few_texts texts cs in omega arith
few_texts texts (cell.Long x ∷ cs) = let h = few_texts texts cs in omega arith
few_texts texts (cell.Bool b ∷ cs) = let h = few_texts texts cs in omega arith
few_texts texts (cell.Text t ∷ cs) = let h = few_texts (with_text texts t) cs in let one = with_text-size texts t in omega arith
few_texts texts (cell.Time t ∷ cs) = let h = few_texts texts cs in omega arith

-- the id of a text among those that it is added to
pub added_id : (P : Texts) (t : List ℕ) (cs : List Cell) → (id_for (fold with_text_of (with_text P t) cs) t ≡ id_for P t) × (id_for P t < length (with_text P t)) × (length (with_text P t) ≡ max (length P) (id_for P t + 1)) × (id_for P t ≤ length P)
added_id P t cs =
    let given = text_given P t [] in
    let same = id_given P t in
    let most = position_within (same_text t) P in
    let stays : id_for (fold with_text_of (with_text P t) cs) t ≡ id_for P t = id_stays (with_text P t) cs t (omega (arith, given.0, same)) ∙ same in
    let size : length (with_text P t) ≡ max (length P) (id_for P t + 1) = elim (cases_lt (id_for P t) (length P)) [
      | inl there ↦ ap length (with_text-there P t there) ∙ omega arith
      | inr new ↦ ap length (with_text-new P t new) ∙ omega (arith, length-append P (t ∷ []))
    ] in
    (stays, given.0, size, most)

-- one cell more: what it does to the number of texts named, and its id
one_named : (P T : Texts) (c : Cell) (cs : List Cell) → T ≡ fold with_text_of P (c ∷ cs) → length T < NULL_ID → (step (length P) (id_field T c) ≡ length (with_text_of P c)) × ((id_field T c ≡ NULL_ID) ⊎ (id_field T c ≤ length P)) × (id_field T c < 2 ^ 64)
one_named P T cell.Null cs e few = (refl, inl refl, omega arith)
one_named P T (cell.Long x) cs e few = (refl, inl refl, omega arith)
one_named P T (cell.Bool b) cs e few = (refl, inl refl, omega arith)
one_named P T (cell.Time t) cs e few = (refl, inl refl, omega arith)
one_named P T (cell.Text t) cs e few =
    let added = added_id P t cs in
    let id : id_for T t ≡ id_for P t = ap (λ l. id_for l t) e ∙ added.0 in
    let more = texts_more (with_text P t) cs in
    let size : length (with_text P t) ≤ length T = omega (arith, ap length e, ap length more.1, length-append (with_text P t) more.0) in
    let some : id_for T t ≢ NULL_ID = λ null. absurd (omega (arith, added.1)) in
    let stepped : step (length P) (id_for T t) ≡ length (with_text P t) = rw (ne_eqb (id_for T t) NULL_ID some) (ap (λ n. max (length P) (n + 1)) id ∙ sym added.2) in
    (stepped, inr (omega (arith, added.3)), omega (arith, added.1))

-- the ids of cells keep the rule, and name all of their texts
pub ids_grow : (P T : Texts) (cells : List Cell) → T ≡ fold with_text_of P cells → length T < NULL_ID → (fold step (length P) (map (id_field T) cells) ≡ length T) × ((i : ℕ) → i < length cells → (slice_index (map (id_field T) cells) i ≡ NULL_ID) ⊎ (slice_index (map (id_field T) cells) i ≤ fold step (length P) (take i (map (id_field T) cells)))) × All (λ n. n < 2 ^ 64) (map (id_field T) cells)
ids_grow P T [] e few = (ap length (sym e), λ i h. absurd (omega arith), λ k d h. absurd (omega arith))
ids_grow P T (c ∷ cs) e few =
    let one = one_named P T c cs e few in
    let rest = ids_grow (with_text_of P c) T cs e few in
    let ids = map (id_field T) cs in
    (ap (λ n. fold step n ids) one.0 ∙ rest.0, follows one.0 one.1 rest.1, fits one.2 rest.2)
  where
    follows : step (length P) (id_field T c) ≡ length (with_text_of P c) → (id_field T c ≡ NULL_ID) ⊎ (id_field T c ≤ length P) → ((i : ℕ) → i < length cs → (slice_index (map (id_field T) cs) i ≡ NULL_ID) ⊎ (slice_index (map (id_field T) cs) i ≤ fold step (length (with_text_of P c)) (take i (map (id_field T) cs)))) → (i : ℕ) → i < length (c ∷ cs) → (slice_index (map (id_field T) (c ∷ cs)) i ≡ NULL_ID) ⊎ (slice_index (map (id_field T) (c ∷ cs)) i ≤ fold step (length P) (take i (map (id_field T) (c ∷ cs))))
    follows s first rest zero h = first
    follows s first rest (suc i) h = subst (λ n. (slice_index (map (id_field T) cs) i ≡ NULL_ID) ⊎ (slice_index (map (id_field T) cs) i ≤ fold step n (take i (map (id_field T) cs)))) (sym s) (rest i (omega arith))

    fits : id_field T c < 2 ^ 64 → All (λ n. n < 2 ^ 64) (map (id_field T) cs) → All (λ n. n < 2 ^ 64) (map (id_field T) (c ∷ cs))
    fits one rest zero d h = one
    fits one rest (suc k) d h = rest k d (omega arith)

pub ids_are_fields : (cells : List Cell) → length cells < 2 ^ 63 → AreFields kind.Symbol (map (id_field (texts_in cells)) cells) × (named (map (id_field (texts_in cells)) cells) ≡ length (texts_in cells))
ids_are_fields cells few =
    let small = few_texts [] cells in
    let grown = ids_grow [] (texts_in cells) cells refl (omega arith) in
    let size = length-map cells (id_field (texts_in cells)) in
    (record { fit = grown.2; kept = λ i h. grown.1 i (omega arith) }, grown.0)

-- the ids of cells are the same among more texts
pub same_ids : (P T more : Texts) (cells : List Cell) → T ≡ fold with_text_of P cells → map (id_field (T ++ more)) cells ≡ map (id_field T) cells
same_ids P T more [] e = refl
same_ids P T more (cell.Null ∷ cs) e = ap (λ l. NULL_ID ∷ l) (same_ids P T more cs e)
same_ids P T more (cell.Long x ∷ cs) e = ap (λ l. NULL_ID ∷ l) (same_ids P T more cs e)
same_ids P T more (cell.Bool b ∷ cs) e = ap (λ l. NULL_ID ∷ l) (same_ids P T more cs e)
same_ids P T more (cell.Time t ∷ cs) e = ap (λ l. NULL_ID ∷ l) (same_ids P T more cs e)
same_ids P T more (cell.Text t ∷ cs) e =
    let added = added_id P t cs in
    let id : id_for T t ≡ id_for P t = ap (λ l. id_for l t) e ∙ added.0 in
    let rest = texts_more (with_text P t) cs in
    let size : length (with_text P t) ≤ length T = omega (arith, ap length e, ap length rest.1, length-append (with_text P t) rest.0) in
    ap (λ n. n ∷ map (id_field (T ++ more)) cs) (id_for-append T more t (omega (arith, added.1))) ∙ ap (λ l. id_for T t ∷ l) (same_ids (with_text P t) T more cs e)

-- the first rows have the first ids and the first texts
pub first_ids : (cells : List Cell) (n : ℕ) → map (id_field (texts_in (take n cells))) (take n cells) ≡ take n (map (id_field (texts_in cells)) cells)
first_ids cells n =
    let front = texts_in (take n cells) in
    let whole : texts_in cells ≡ fold with_text_of front (drop n cells) = ap texts_in (sym (take-append-drop n cells)) ∙ fold-append with_text_of [] (take n cells) (drop n cells) in
    let more = texts_more front (drop n cells) in
    sym (same_ids [] front more.0 (take n cells) refl) ∙ ap (λ t. map (id_field t) (take n cells)) (sym (whole ∙ more.1)) ∙ sym (take-map (id_field (texts_in cells)) n cells)

pub first_texts : (cells : List Cell) (n : ℕ) → length cells < 2 ^ 63 → texts_in (take n cells) ≡ take (named (take n (map (id_field (texts_in cells)) cells))) (texts_in cells)
first_texts cells n few =
    let front = texts_in (take n cells) in
    let whole : texts_in cells ≡ fold with_text_of front (drop n cells) = ap texts_in (sym (take-append-drop n cells)) ∙ fold-append with_text_of [] (take n cells) (drop n cells) in
    let more = texts_more front (drop n cells) in
    let count : named (map (id_field front) (take n cells)) ≡ length front = (ids_are_fields (take n cells) (omega (arith, length-take n cells))).1 in
    let size : named (take n (map (id_field (texts_in cells)) cells)) ≡ length front = ap named (sym (first_ids cells n)) ∙ count in
    sym (take_at front more.0 (named (take n (map (id_field (texts_in cells)) cells))) (sym size)) ∙ ap (take (named (take n (map (id_field (texts_in cells)) cells)))) (sym (whole ∙ more.1))

-- among distinct texts, each has the id of its place
pub id_of_place : (texts : Texts) (id : ℕ) → AreDistinct texts → id < length texts → id_for texts (get_or texts id []) ≡ id
unfolding IsDistinct
id_of_place [] id h lt = absurd (omega arith)
id_of_place (x ∷ xs) zero h lt = rw (nat_list_eq_equiv.refl x) refl
id_of_place (x ∷ xs) (suc k) h lt =
    let other : same_text x (get_or xs k []) ≡ false = (All-from_recursion (λ y. same_text x y ≡ false) xs h.0) k [] (omega arith) in
    let turned : same_text (get_or xs k []) x ≡ false = nat_list_eq_equiv.symm (get_or xs k []) x ∙ other in
    rw turned (let e = id_of_place xs k h.1 (omega arith) in omega arith)

-- the ids of the cells that ids stand for
pub ids_again : (texts : Texts) (ids : List ℕ) → AreDistinct texts → length texts ≤ NULL_ID → All (IsIdOf texts) ids → map (id_field texts) (map (symbol_cell texts) ids) ≡ ids
ids_again texts [] h few each = refl
ids_again texts (id ∷ ids) h few each = ap (λ n. n ∷ map (id_field texts) (map (symbol_cell texts) ids)) (one (each zero 0 (omega arith))) ∙ ap (λ l. id ∷ l) (ids_again texts ids h few (λ k d lt. each (suc k) d (omega arith)))
  where
    one : IsIdOf texts id → id_field texts (symbol_cell texts id) ≡ id
    one (inl null) = ap (λ n. id_field texts (symbol_cell texts n)) null ∙ sym null
    one (inr within) = rw (ne_eqb id NULL_ID (λ e. absurd (omega arith))) (id_of_place texts id h within)

-- more ids name no fewer texts
pub step_grows : (m id : ℕ) → m ≤ step m id
step_grows m id = go (eqb id NULL_ID)
  where
    go : (b : Bool) → m ≤ cond b m (max m (id + 1))
    go true = omega arith
    go false = omega arith

pub named_grows : (m : ℕ) (ids : List ℕ) → m ≤ fold step m ids
named_grows m [] = omega arith
named_grows m (id ∷ ids) = let one = step_grows m id in let rest = named_grows (step m id) ids in omega arith

-- each id is NULL or one of those named
pub ids_named : (m : ℕ) (ids : List ℕ) → All (λ id. (id ≡ NULL_ID) ⊎ (id < fold step m ids)) ids
ids_named m [] k d h = absurd (omega arith)
ids_named m (id ∷ ids) zero d h = elim (eqb_tells id NULL_ID) [ inl null ↦ inl null.1 | inr some ↦ (let rest = named_grows (step m id) ids in let one : step m id ≡ max m (id + 1) = rw some.0 refl in inr (omega arith)) ]
ids_named m (id ∷ ids) (suc k) d h = ids_named (step m id) ids k d (omega arith)

-- one id more, and the texts that have appeared
one_appeared : (texts : Texts) (m id : ℕ) → AreDistinct texts → step m id ≤ length texts → (id ≡ NULL_ID) ⊎ (id ≤ m) → with_text_of (take m texts) (symbol_cell texts id) ≡ take (step m id) texts
one_appeared texts m id h most follows =
    elim (eqb_tells id NULL_ID) [ inl null ↦ rw null.0 refl | inr some ↦ (let low : id ≤ m = ⊎_elim (λ e. absurd (some.1 e)) (λ le. le) follows in rw some.0 (known (λ e. some.1 e) low (subst (λ n. n ≤ length texts) (stepped some.0) most))) ]
  where
    stepped : eqb id NULL_ID ≡ false → step m id ≡ max m (id + 1)
    stepped e = rw e refl

    known : id ≢ NULL_ID → id ≤ m → max m (id + 1) ≤ length texts → with_text (take m texts) (get_or texts id []) ≡ take (max m (id + 1)) texts
    known some low within =
        let size : length (take m texts) ≡ m = length-take-le m texts (omega arith) in
        elim (cases_lt id m) [
          | inl before ↦
              (let same : get_or (take m texts) id [] ≡ get_or texts id [] = get_or-take m texts id [] before in
              let stands : id_for (take m texts) (get_or texts id []) < length (take m texts) = subst (λ t. id_for (take m texts) t < length (take m texts)) same (text_stands (take m texts) id [] (omega arith)) in
              let count : m ≡ max m (id + 1) = omega arith in
              with_text-there (take m texts) (get_or texts id []) stands ∙ ap (λ n. take n texts) count)
          | inr next ↦
              (let is : id ≡ m = omega arith in
              let place = id_of_place texts id h (omega arith) in
              let new : length (take m texts) ≤ id_for (take m texts) (get_or texts id []) = elim (cases_lt (id_for (take m texts) (get_or texts id [])) (length (take m texts))) [
                | inl there ↦ (let early = id_for-append (take m texts) (drop m texts) (get_or texts id []) there in let whole = ap (λ l. id_for l (get_or texts id [])) (take-append-drop m texts) in absurd (omega arith))
                | inr le ↦ le
              ] in
              let count : m + 1 ≡ max m (id + 1) = omega arith in
              with_text-new (take m texts) (get_or texts id []) new ∙ ap (λ n. take m texts ++ get_or texts n [] ∷ []) is ∙ sym (take_more texts m [] (omega arith)) ∙ ap (λ n. take n texts) count)
        ]

-- the texts of the cells that ids stand for are the first that they name
pub texts_appear : (texts : Texts) (m : ℕ) (ids : List ℕ) → AreDistinct texts → fold step m ids ≤ length texts → ((i : ℕ) → i < length ids → (slice_index ids i ≡ NULL_ID) ⊎ (slice_index ids i ≤ fold step m (take i ids))) → fold with_text_of (take m texts) (map (symbol_cell texts) ids) ≡ take (fold step m ids) texts
texts_appear texts m [] h most follows = refl
texts_appear texts m (id ∷ ids) h most follows =
    let grows = named_grows (step m id) ids in
    let one = one_appeared texts m id h (omega arith) (follows zero (omega arith)) in
    ap (λ l. fold with_text_of l (map (symbol_cell texts) ids)) one ∙ texts_appear texts (step m id) ids h most (λ i lt. follows (suc i) (omega arith))

-- ids that keep the rule, and as many distinct texts as they name
pub are_symbols : (texts : Texts) (ids : List ℕ) → AreDistinct texts → All (λ t. length t ≤ 65535) texts → AreFields kind.Symbol ids → length texts ≡ named ids → AreSymbols texts ids
are_symbols texts ids h short are size =
    record {
      each = λ k d lt. ⊎_elim (λ null. inl null) (λ low. inr (omega arith)) (ids_named 0 ids k d lt);
      appeared = texts_appear texts 0 ids h (omega arith) are.kept ∙ take_all (named ids) texts (omega arith);
      short = short;
    }
