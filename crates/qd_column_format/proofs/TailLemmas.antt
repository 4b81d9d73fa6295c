-- What rows behind the first ones of a column add.
use Rattle.std.proofs.Common.{◌≡◌, ◌⊎◌, ℕ, zero, suc, ◌+◌, ◌*◌, ◌/◌, ◌^◌, ◌<◌, ◌≤◌, inl, inr, Bool, true, false, cond, not, List, [], ◌∷◌, ◌++◌, length, length-append, map, fold, take, drop, get_or, refl, sym, ap, ap₂, ◌∙◌, arith, All, subst, append-nil, Result, Ok, Err, IfOk, OnOk}
use Rattle.std.specs.List.{flat_map}
use Rattle.std.proofs.lemmas.Bool.{cases_eq, cases_lt, ne_eqb}
use Rattle.std.proofs.lemmas.List.{get_or-map, length-take-le, map-append, take_at, drop_at, take-append-drop}
use Rattle.std.proofs.lemmas.List.Elements.{All-append}
use Rattle.std.proofs.lemmas.List.Sums.{fold-append}
use Rattle.std.proofs.lemmas.Grind.{flat_map-append}
use Rattle.std.specs.Cmp.Lexicographic as lexicographic
use Rattle.qd_base.specs.declared.cell.Cell.{Cell}
use Rattle.qd_base.specs.declared.cell.Cell.TheVariants as cell
use Rattle.qd_base.specs.declared.limits.TheConstants.{NULL_ID}
use Rattle.qd_base.specs.declared.schema.ColType.{ColType}
use Rattle.qd_base.specs.declared.schema.ColType.TheVariants as kind
use Rattle.qd_base.specs.Dictionary.{id_for, same_text, with_text, AreDistinct}
use Rattle.qd_base.proofs.Texts.{text_given, text_stands, with_text-new, with_text-there}
use Rattle.qd_column.specs.Cells.{CellsOf}
use Rattle.qd_column.specs.Symbols.{symbol_cell, texts_in, with_text_of, IsIdOf}
use Rattle.qd_column.specs.Texts.{cells_from, Tile}
use Rattle.qd_column_format.specs.declared.encode.ColumnBytes.{ColumnBytes}
use Rattle.qd_column_format.specs.Added.{column_of, SpellsItself}
use Rattle.qd_column_format.specs.Fields.{bytes_of_fields, end_of, field_size, fields_of, id_field, marks_from}
use Rattle.qd_column_format.specs.Spelling.{aux_of_kind, main_of, stored_text, text_bytes, IsStorable}
use Rattle.qd_column_format.specs.Tails.{behind, id_anew, texts_end, texts_named, with_texts, AddsBehind, Behind, GoesFurther}
use Rattle.qd_column_format.proofs.ColumnLemmas.{texts_front}
use Rattle.qd_column_format.proofs.SpellingLemmas.{main_place}
use Rattle.qd_column_format.proofs.TextLemmas.{tile_ends}
use Rattle.qd_column_format.proofs.SymbolLemmas.{id_for-append, id_given, id_of_place, same_ids, texts_more}

-- ---- any kind

pub adds : (k : ColType) (first rows : List Cell) (fields : List ℕ) (bytes : ColumnBytes)
    → SpellsItself (column_of k first) → All (IsStorable k) rows → All (λ n. n < 256 ^ field_size k) fields
    → fields_of k (first ++ rows) ≡ fields_of k first ++ fields → length first + length rows < 2 ^ 63
    → bytes.main ≡ bytes_of_fields k fields → bytes.main_at ≡ length first * field_size k
    → aux_of_kind k (first ++ rows) ≡ aux_of_kind k first ++ bytes.aux → bytes.aux_at ≡ length (aux_of_kind k first)
    → AddsBehind k first rows bytes
adds k first rows fields bytes itself storable fit fields_are few main main_at aux aux_at =
    let front : take (length first) (first ++ rows) ≡ first = take_at first rows (length first) refl in
    let place = main_place (column_of k first) (length first) (omega arith) in
    let same : take (length first) first ≡ first = ap (take (length first)) (sym (append-nil first)) ∙ take_at first [] (length first) refl in
    let size : length (main_of (column_of k first)) ≡ length first * field_size k = sym (ap (λ (cs : List Cell). length (main_of (column_of k cs))) same) ∙ place in
    let joined : main_of (column_of k (first ++ rows)) ≡ main_of (column_of k first) ++ bytes_of_fields k fields = ap (bytes_of_fields k) fields_are ∙ flat_map-append _ (fields_of k first) fields in
    record {
      added = record {
        main = ap (λ (cs : List Cell). main_of (column_of k cs) ++ bytes.main) front ∙ ap (λ l. main_of (column_of k first) ++ l) main ∙ sym joined;
        main_at = main_at ∙ sym (ap (λ (cs : List Cell). length (main_of (column_of k cs))) front ∙ size);
        aux = ap (λ (cs : List Cell). aux_of_kind k cs ++ bytes.aux) front ∙ sym aux;
        aux_at = aux_at ∙ sym (ap (λ (cs : List Cell). length (aux_of_kind k cs)) front);
      };
      spelled = record {
        cells = All-append (IsStorable k) first rows itself.cells storable;
        main_bytes = ([], sym (append-nil (main_of (column_of k (first ++ rows)))));
        aux_bytes = ([], sym (append-nil (aux_of_kind k (first ++ rows))));
        fit = subst (All (λ n. n < 256 ^ field_size k)) (sym fields_are) (All-append (λ n. n < 256 ^ field_size k) (fields_of k first) fields itself.fit fit);
        few = omega (arith, length-append first rows);
      };
    }

-- ---- texts of SYMBOL columns

-- a text that is there stays there among more
stays_there : (texts more : List (List ℕ)) (t : List ℕ) → id_for texts t < length texts → id_for (with_texts texts more) t < length (with_texts texts more)
stays_there texts [] t lt = lt
stays_there texts (m ∷ more) t lt =
    stays_there (with_text texts m) more t (one (cases_lt (id_for texts m) (length texts)))
  where
    one : (id_for texts m < length texts) ⊎ (length texts ≤ id_for texts m) → id_for (with_text texts m) t < length (with_text texts m)
    one (inl there) = subst (λ (l : List (List ℕ)). id_for l t < length l) (sym (with_text-there texts m there)) lt
    one (inr new) = subst (λ (l : List (List ℕ)). id_for l t < length l) (sym (with_text-new texts m new)) (omega (arith, id_for-append texts (m ∷ []) t lt, length-append texts (m ∷ []), lt))

-- a text that is among others is there once they are
in_more : (T P : List (List ℕ)) (t : List ℕ) → id_for P t < length P → id_for (with_texts T P) t < length (with_texts T P)
in_more T [] t lt = absurd (omega arith)
in_more T (m ∷ P) t lt = pick (same_text t m) refl (λ later. in_more (with_text T m) P t later)
  where
    pick : (b : Bool) → same_text t m ≡ b → (id_for P t < length P → id_for (with_texts (with_text T m) P) t < length (with_texts (with_text T m) P)) → id_for (with_texts T (m ∷ P)) t < length (with_texts T (m ∷ P))
    pick true e more =
        let same : t ≡ m = lexicographic.same_text t m (sym e) in
        let given = text_given T m [] in
        stays_there (with_text T m) P t (subst (λ (x : List ℕ). id_for (with_text T m) x < length (with_text T m)) (sym same) (omega (arith, given.0, id_given T m)))
    pick false e more = more (subst (λ (b : Bool). cond (not b) (1 + id_for P t) 0 < suc (length P) → id_for P t < length P) (sym e) (λ h. omega arith) lt)

-- texts go behind others one by one
with_one : (T P : List (List ℕ)) (t : List ℕ) → with_texts T (with_text P t) ≡ with_text (with_texts T P) t
with_one T P t = elim (cases_lt (id_for P t) (length P)) [
  | inl there ↦ (ap (with_texts T) (with_text-there P t there) ∙ sym (with_text-there (with_texts T P) t (in_more T P t there)))
  | inr new ↦ (ap (with_texts T) (with_text-new P t new) ∙ fold-append with_text T P (t ∷ []))
]

-- naming the texts of a column is naming those of its cells
pub named_all : (T P : List (List ℕ)) (cells : List Cell) → with_texts T (fold with_text_of P cells) ≡ fold with_text_of (with_texts T P) cells
named_all T P [] = refl
named_all T P (cell.Null ∷ cs) = named_all T P cs
named_all T P (cell.Long x ∷ cs) = named_all T P cs
named_all T P (cell.Bool b ∷ cs) = named_all T P cs
named_all T P (cell.Time t ∷ cs) = named_all T P cs
named_all T P (cell.Text t ∷ cs) = named_all T (with_text P t) cs ∙ ap (λ (l : List (List ℕ)). fold with_text_of l cs) (with_one T P t)

-- the texts of more cells
pub texts_joined : (first cells : List Cell) → with_texts (texts_in first) (texts_in cells) ≡ texts_in (first ++ cells)
texts_joined first cells = named_all (texts_in first) [] cells ∙ sym (fold-append with_text_of [] first cells)

-- a text that is there has its id among one more
kept_id : (texts : List (List ℕ)) (t m : List ℕ) → id_for texts m < length texts → id_for (with_text texts t) m ≡ id_for texts m
kept_id texts t m lt = elim (cases_lt (id_for texts t) (length texts)) [
  | inl there ↦ ap (λ (l : List (List ℕ)). id_for l m) (with_text-there texts t there)
  | inr new ↦ (ap (λ (l : List (List ℕ)). id_for l m) (with_text-new texts t new) ∙ id_for-append texts (t ∷ []) m lt)
]

-- the names of texts, once one more is named
pub names_more : (T P : List (List ℕ)) (t : List ℕ) → map (id_for (with_text (with_texts T P) t)) (P ++ t ∷ []) ≡ map (id_for (with_texts T P)) P ++ id_for (with_texts T P) t ∷ []
names_more T P t = map-append (id_for (with_text (with_texts T P) t)) P (t ∷ []) ∙ ap₂ (λ a b. a ++ b ∷ []) (each P (λ k lt. in_more T P (get_or P k []) (text_stands P k [] lt))) (id_given (with_texts T P) t)
  where
    each : (ms : List (List ℕ)) → ((k : ℕ) → k < length ms → id_for (with_texts T P) (get_or ms k []) < length (with_texts T P)) → map (id_for (with_text (with_texts T P) t)) ms ≡ map (id_for (with_texts T P)) ms
    each [] h = refl
    each (m ∷ ms) h = ap₂ (λ a b. a ∷ b) (kept_id (with_texts T P) t m (h zero (omega arith))) (each ms (λ k lt. h (suc k) (omega arith)))

-- the ids of cells, by the names of the texts that they had
pub ids_named : (all D : List (List ℕ)) (ids : List ℕ) → All (IsIdOf D) ids → map (id_field all) (map (symbol_cell D) ids) ≡ map (id_anew (map (id_for all) D)) ids
ids_named all D [] each = refl
ids_named all D (id ∷ ids) each = ap₂ (λ a b. a ∷ b) (one (each zero 0 (omega arith))) (ids_named all D ids (λ k d lt. each (suc k) d (omega arith)))
  where
    one : IsIdOf D id → id_field all (symbol_cell D id) ≡ id_anew (map (id_for all) D) id
    one (inl null) = ap (λ n. id_field all (symbol_cell D n)) null ∙ sym (ap (id_anew (map (id_for all) D)) null)
    one (inr within) = elim (cases_eq id NULL_ID) [
      | inl null ↦ (ap (λ n. id_field all (symbol_cell D n)) null ∙ sym (ap (id_anew (map (id_for all) D)) null))
      | inr some ↦ (let differ = ne_eqb id NULL_ID some in ap (λ b. id_field all (cond b cell.Null (cell.Text (get_or D id [])))) differ ∙ sym (ap (λ b. cond b NULL_ID (get_or (map (id_for all) D) id 0)) differ ∙ get_or-map (id_for all) D id [] 0 within))
    ]

-- the numbers of rows behind others
pub symbol_fields : (first cells : List Cell) → fields_of kind.Symbol (first ++ cells) ≡ fields_of kind.Symbol first ++ map (id_field (texts_in (first ++ cells))) cells
symbol_fields first cells =
    let T = texts_in first in
    let whole : texts_in (first ++ cells) ≡ fold with_text_of T cells = fold-append with_text_of [] first cells in
    let more = texts_more T cells in
    map-append (id_field (texts_in (first ++ cells))) first cells
    ∙ ap (λ l. l ++ map (id_field (texts_in (first ++ cells))) cells) (ap (λ (t : List (List ℕ)). map (id_field t) first) (whole ∙ more.1) ∙ same_ids [] T more.0 first refl)

-- the bytes of texts behind others
pub symbol_aux : (first cells : List Cell) (aux : List ℕ) → aux ≡ flat_map stored_text (drop (length (texts_in first)) (texts_in (first ++ cells))) → aux_of_kind kind.Symbol (first ++ cells) ≡ aux_of_kind kind.Symbol first ++ aux
symbol_aux first cells aux e =
    let T = texts_in first in
    let whole : texts_in (first ++ cells) ≡ fold with_text_of T cells = fold-append with_text_of [] first cells in
    let more = texts_more T cells in
    let split : texts_in (first ++ cells) ≡ T ++ more.0 = whole ∙ more.1 in
    let rest : drop (length T) (texts_in (first ++ cells)) ≡ more.0 = ap (drop (length T)) split ∙ drop_at T more.0 (length T) refl in
    ap (flat_map stored_text) split ∙ flat_map-append stored_text T more.0 ∙ ap (λ l. flat_map stored_text T ++ flat_map stored_text l) (sym rest) ∙ ap (λ l. flat_map stored_text T ++ l) (sym e)

-- ---- texts of VARCHAR columns

marks_joined : (start : ℕ) (first cells : List Cell) → marks_from start (first ++ cells) ≡ marks_from start first ++ marks_from (start + length (flat_map text_bytes first)) cells
marks_joined start [] cells = let e : start + 0 ≡ start = omega arith in ap (λ n. marks_from n cells) (sym e)
marks_joined start (cell.Null ∷ cs) cells = ap (λ l. (2 * start + 1) ∷ l) (marks_joined start cs cells)
marks_joined start (cell.Long x ∷ cs) cells = ap (λ l. (2 * start + 1) ∷ l) (marks_joined start cs cells)
marks_joined start (cell.Bool b ∷ cs) cells = ap (λ l. (2 * start + 1) ∷ l) (marks_joined start cs cells)
marks_joined start (cell.Time t ∷ cs) cells = ap (λ l. (2 * start + 1) ∷ l) (marks_joined start cs cells)
marks_joined start (cell.Text t ∷ cs) cells =
    let e : start + length t + length (flat_map text_bytes cs) ≡ start + length (t ++ flat_map text_bytes cs) = omega (arith, length-append t (flat_map text_bytes cs)) in
    ap (λ l. (2 * (start + length t)) ∷ l) (marks_joined (start + length t) cs cells ∙ ap (λ n. marks_from (start + length t) cs ++ marks_from n cells) e)

marks_moved : (start end : ℕ) (cells : List Cell) → marks_from (start + end) cells ≡ map (λ m. m + 2 * end) (marks_from start cells)
marks_moved start end [] = refl
marks_moved start end (cell.Null ∷ cs) = ap₂ (λ a b. a ∷ b) (omega arith) (marks_moved start end cs)
marks_moved start end (cell.Long x ∷ cs) = ap₂ (λ a b. a ∷ b) (omega arith) (marks_moved start end cs)
marks_moved start end (cell.Bool b ∷ cs) = ap₂ (λ a b. a ∷ b) (omega arith) (marks_moved start end cs)
marks_moved start end (cell.Time t ∷ cs) = ap₂ (λ a b. a ∷ b) (omega arith) (marks_moved start end cs)
marks_moved start end (cell.Text t ∷ cs) =
    let e : start + end + length t ≡ start + length t + end = omega arith in
    ap₂ (λ a b. a ∷ b) (omega arith) (ap (λ n. marks_from n cs) e ∙ marks_moved (start + length t) end cs)

pub text_fields : (first cells : List Cell) → fields_of kind.Varchar (first ++ cells) ≡ fields_of kind.Varchar first ++ map (λ m. m + 2 * length (flat_map text_bytes first)) (marks_from 0 cells)
text_fields first cells = marks_joined 0 first cells ∙ ap (λ l. marks_from 0 first ++ l) (marks_moved 0 (length (flat_map text_bytes first)) cells)

-- ---- dictionaries copied

take_one : (xs : List (List ℕ)) (i : ℕ) (d : List ℕ) → i < length xs → take (i + 1) xs ≡ take i xs ++ get_or xs i d ∷ []
take_one [] i d lt = absurd (omega arith)
take_one (x ∷ xs) zero d lt = refl
take_one (x ∷ xs) (suc i) d lt = let e : suc i + 1 ≡ suc (i + 1) = omega arith in rw e (ap (λ l. x ∷ l) (take_one xs i d (omega arith)))

pub copied_more : (D : List (List ℕ)) (k : ℕ) (t : List ℕ) → AreDistinct D → k < length D → get_or D k [] ≡ t → with_text (take k D) t ≡ take (k + 1) D
copied_more D k t distinct lt at =
    let place : id_for D t ≡ k = sym (ap (id_for D) at) ∙ id_of_place D k distinct lt in
    let size : length (take k D) ≡ k = length-take-le k D (omega arith) in
    let new : length (take k D) ≤ id_for (take k D) t = elim (cases_lt (id_for (take k D) t) (length (take k D))) [
      | inl there ↦ (let same = id_for-append (take k D) (drop k D) t there in let whole = ap (λ (l : List (List ℕ)). id_for l t) (take-append-drop k D) in absurd (omega arith))
      | inr fine ↦ fine
    ] in
    with_text-new (take k D) t new ∙ ap (λ x. take k D ++ x ∷ []) (sym at) ∙ sym (take_one D k [] lt)

-- the texts that are named once one more is
pub named_more : (T D : List (List ℕ)) (k : ℕ) (t : List ℕ) → k < length D → get_or D k [] ≡ t → with_text (with_texts T (take k D)) t ≡ with_texts T (take (k + 1) D)
named_more T D k t lt at = sym (fold-append with_text T (take k D) (t ∷ [])) ∙ ap (λ x. with_texts T (take k D ++ x ∷ [])) (sym at) ∙ sym (ap (with_texts T) (take_one D k [] lt))

pub names_next : (T D : List (List ℕ)) (k : ℕ) (t : List ℕ) → k < length D → get_or D k [] ≡ t → map (id_for (with_texts T (take k D))) (take k D) ++ id_for (with_texts T (take k D)) t ∷ [] ≡ map (id_for (with_texts T (take (k + 1) D))) (take (k + 1) D)
names_next T D k t lt at =
    let next : take k D ++ t ∷ [] ≡ take (k + 1) D = ap (λ x. take k D ++ x ∷ []) (sym at) ∙ sym (take_one D k [] lt) in
    sym (names_more T (take k D) t) ∙ ap₂ (λ (a : List (List ℕ)) b. map (id_for a) b) (named_more T D k t lt at) next

pub short_more : (texts : List (List ℕ)) (t : List ℕ) → All (λ x. length x ≤ 65535) texts → length t ≤ 65535 → All (λ x. length x ≤ 65535) (with_text texts t)
short_more texts t short one = elim (cases_lt (id_for texts t) (length texts)) [
  | inl there ↦ subst (All (λ x. length x ≤ 65535)) (sym (with_text-there texts t there)) short
  | inr new ↦ subst (All (λ x. length x ≤ 65535)) (sym (with_text-new texts t new)) (All-append (λ x. length x ≤ 65535) texts (t ∷ []) short (λ k d lt. single k d lt))
]
  where
    single : (k : ℕ) (d : List ℕ) → k < length (t ∷ []) → length (get_or (t ∷ []) k d) ≤ 65535
    single zero d lt = one
    single (suc k) d lt = absurd (omega arith)

-- ---- bounds

pub all_second : (P : ℕ → Type 0) (xs ys : List ℕ) → All P (xs ++ ys) → All P ys
all_second P [] ys h = h
all_second P (x ∷ xs) ys h = all_second P xs ys (λ k d lt. h (suc k) d (omega arith))

-- the marks of texts are no greater than twice their bytes, and 1
pub marks_small : (start end : ℕ) (marks : List ℕ) → Tile start marks end → All (λ m. m < 2 * end + 2) marks
marks_small start end [] t k d lt = absurd (omega arith)
marks_small start end (m ∷ ms) t zero d lt = let low = tile_ends (m / 2) end ms t.3 in omega arith
marks_small start end (m ∷ ms) t (suc k) d lt = marks_small (m / 2) end ms t.3 k d (omega arith)

pub named_longer : (T D : List (List ℕ)) → length T ≤ length (with_texts T D)
named_longer T [] = omega arith
named_longer T (t ∷ D) = let rest = named_longer (with_text T t) D in let one = longer T t in omega arith
  where
    longer : (T : List (List ℕ)) (t : List ℕ) → length T ≤ length (with_text T t)
    longer T t = elim (cases_lt (id_for T t) (length T)) [
      | inl there ↦ (let e = ap length (with_text-there T t there) in omega arith)
      | inr new ↦ (let e = ap length (with_text-new T t new) in omega (arith, e, length-append T (t ∷ [])))
    ]

-- ---- tails

abbrev pub tail_of : List (List ℕ) → ℕ → Behind
tail_of texts end = record { texts = texts; end = end }

ends_at : (start end : ℕ) (marks : List ℕ) → Tile start marks end → fold (λ (s m : ℕ). m / 2) start marks ≡ end
ends_at start end [] t = t
ends_at start end (m ∷ ms) t = ends_at (m / 2) end ms t.3

-- the texts of marks end where the last one's does
pub texts_size : (bytes marks : List ℕ) → Tile 0 marks (length bytes) → (end_of marks ≡ length bytes) × (length (flat_map text_bytes (cells_from bytes 0 marks)) ≡ end_of marks)
texts_size bytes marks tile =
    let ends : end_of marks ≡ length bytes = ends_at 0 (length bytes) marks tile in
    (ends, ap length (texts_front bytes marks 0 tile).0 ∙ sym ends)

-- what goes on behind a column of texts
pub behind_texts : (column : CellsOf) (end : ℕ) → column.kind ≡ kind.Varchar → end ≡ length (flat_map text_bytes column.cells) → tail_of [] end ≡ behind column
behind_texts column end k e = ap (tail_of []) e ∙ sym (ap (λ (j : ColType). tail_of (texts_named j column.cells) (texts_end j column.cells)) k)

-- what rows of a SYMBOL column add, and what goes on behind them
pub symbols_further : {E : Type 0} (r : Result ColumnBytes E) (first rows : CellsOf) (old new D : List (List ℕ)) (end : ℕ)
    → first.kind ≡ kind.Symbol → tail_of old end ≡ behind first → D ≡ texts_in rows.cells
    → OnOk r (new ≡ with_texts old D) → (old ≡ texts_in first.cells → IfOk r (AddsBehind kind.Symbol first.cells rows.cells))
    → IfOk r (GoesFurther first rows.cells (tail_of new end))
symbols_further (Err e) first rows old new D end k tail texts named adds = tt
symbols_further (Ok bytes) first rows old new D end k tail texts named adds =
    let at : tail_of old end ≡ tail_of (texts_in first.cells) 0 = tail ∙ ap (λ (j : ColType). tail_of (texts_named j first.cells) (texts_end j first.cells)) k in
    let old_is : old ≡ texts_in first.cells = ap (λ (b : Behind). b.texts) at in
    let end_is : end ≡ 0 = ap (λ (b : Behind). b.end) at in
    let new_is : new ≡ texts_in (first.cells ++ rows.cells) = named ∙ ap₂ with_texts old_is texts ∙ texts_joined first.cells rows.cells in
    record {
      adds = subst (λ (j : ColType). AddsBehind j first.cells rows.cells bytes) (sym k) (adds old_is);
      behind = ap₂ tail_of new_is end_is ∙ sym (ap (λ (j : ColType). tail_of (texts_named j (first.cells ++ rows.cells)) (texts_end j (first.cells ++ rows.cells))) k);
    }

-- and those of a VARCHAR column
pub texts_further : (bytes : ColumnBytes) (first : CellsOf) (rows : List Cell) (old : List (List ℕ)) (end more : ℕ)
    → first.kind ≡ kind.Varchar → tail_of old end ≡ behind first → length (flat_map text_bytes rows) ≡ more
    → (length (flat_map text_bytes first.cells) ≡ end → AddsBehind kind.Varchar first.cells rows bytes)
    → GoesFurther first rows (tail_of old (end + more)) bytes
texts_further bytes first rows old end more k tail size adds =
    let at : tail_of old end ≡ tail_of [] (length (flat_map text_bytes first.cells)) = tail ∙ ap (λ (j : ColType). tail_of (texts_named j first.cells) (texts_end j first.cells)) k in
    let none : old ≡ [] = ap (λ (b : Behind). b.texts) at in
    let end_is : end ≡ length (flat_map text_bytes first.cells) = ap (λ (b : Behind). b.end) at in
    let whole : end + more ≡ length (flat_map text_bytes (first.cells ++ rows)) = ap₂ (λ a b. a + b) end_is (sym size) ∙ sym (ap length (flat_map-append text_bytes first.cells rows) ∙ length-append (flat_map text_bytes first.cells) (flat_map text_bytes rows)) in
    record {
      adds = subst (λ (j : ColType). AddsBehind j first.cells rows bytes) (sym k) (adds (sym end_is));
      behind = ap₂ tail_of none whole ∙ sym (ap (λ (j : ColType). tail_of (texts_named j (first.cells ++ rows)) (texts_end j (first.cells ++ rows))) k);
    }
