-- The laws of stored columns.
use Rattle.std.proofs.Common.{◌≡◌, ◌≢◌, ℕ, ℤ, suc, ◌+◌, ◌-◌, ◌*◌, ◌/◌, ◌%◌, ◌^◌, ◌<◌, ◌≤◌, Bool, true, false, cond, List, [], ◌∷◌, ◌++◌, length, map, fold, take, drop, get_or, slice_range, refl, sym, ap, ◌∙◌, arith, All, subst, length-append, nat_eq, pos, negsuc, ◌<ℤ◌, ◌≤ℤ◌, FitsSigned}
use Rattle.std.specs.List.{flat_map}
use Rattle.std.specs.Int.{w64, cast_signed, cast_unsigned}
use Rattle.std.specs.Ordering.{int_eq}
use Rattle.std.proofs.lemmas.Bool.{eq-eqb, ne_eqb}
use Rattle.std.proofs.lemmas.Bool.Decides.{Decides-int_eq}
use Rattle.std.proofs.lemmas.Int.{ints, to_z-of_z}
use Rattle.std.proofs.lemmas.List.{append_assoc, take-append-drop, take_at, drop_at, take_all, get_or-take, get_or_append_left, length-take}
use Rattle.std.proofs.lemmas.Grind.{flat_map-append}
use Rattle.qd_base.specs.declared.cell.Cell.{Cell}
use Rattle.qd_base.specs.declared.cell.Cell.TheVariants as cell
use Rattle.qd_base.specs.declared.limits.TheConstants.{MAX_LONG, NULL_ID, NULL_LONG, NULL_TIME}
use Rattle.qd_base.specs.declared.schema.ColType.{ColType}
use Rattle.qd_base.specs.declared.schema.ColType.TheVariants as kind
use Rattle.qd_base.specs.Dictionary.{id_for, with_text}
use Rattle.qd_base.proofs.Texts.{text_given}
use Rattle.qd_column.specs.Cells.{long_cell, time_cell}
use Rattle.qd_column.specs.Symbols.{with_text_of, texts_in, symbol_cell}
use Rattle.qd_column.specs.Texts.{cells_from}
use Rattle.qd_column_format.specs.Fields.{field_size, fields_of, bytes_of_fields, long_of, time_field, truth_field, id_field, marks_from, named}
use Rattle.qd_column_format.specs.Spelling.{main_of, aux_of, aux_of_kind, stored_text, text_bytes, IsStorable, BeginsWith}
use Rattle.qd_column_format.specs.Added.{first_rows}
use Rattle.qd_column_format.specs.Laws.{OneColumnIsSpelled, LaterBytesDoNotCount, FirstRowsAreSpelled, AppendedRowsAreSpelled, written_at}
use Rattle.qd_column_format.proofs.FieldLemmas.{fields_inj, begins_append}
use Rattle.qd_column_format.proofs.SymbolLemmas.{Texts, texts_more, added_id, few_texts, ids_are_fields, first_texts}
use Rattle.qd_column_format.proofs.SpellingLemmas.{length-fields, first_fields, main_added}
use Rattle.qd_column_format.proofs.DamageLemmas.{texts_inj, short_texts}

-- cells by the numbers that stand for them
module _ (k : ColType) (f : ℕ → Cell) (g : Cell → ℕ) (back : (c : Cell) → IsStorable k c → f (g c) ≡ c) where
  cells_back : (cells : List Cell) → All (IsStorable k) cells → map f (map g cells) ≡ cells
  cells_back [] each = refl
  cells_back (c ∷ cs) each = ap (λ x. x ∷ map f (map g cs)) (back c (each 0 c (omega arith))) ∙ ap (λ l. c ∷ l) (cells_back cs (λ j d lt. each (suc j) d (omega arith)))

long_fits : (x : ℤ) → NULL_LONG <ℤ x → x ≤ℤ MAX_LONG → FitsSigned w64 x
long_fits (pos n) low high = record { sfits = omega (arith, ints) }
long_fits (negsuc n) low high = record { sfits = omega (arith, ints) }

long_back : (c : Cell) → IsStorable kind.Long c → long_cell (cast_signed w64 (cast_unsigned w64 (long_of c))) ≡ c
long_back cell.Null h = refl
long_back (cell.Long x) h = ap long_cell (to_z-of_z w64 x (long_fits x h.0 h.1)) ∙ go (int_eq x NULL_LONG) refl
  where
    go : (b : Bool) → int_eq x NULL_LONG ≡ b → cond b cell.Null (cell.Long x) ≡ cell.Long x
    go true e = let low : NULL_LONG <ℤ NULL_LONG = subst (λ z. NULL_LONG <ℤ z) ((Decides-int_eq x NULL_LONG).0 e) h.0 in absurd (omega (arith, ints))
    go false e = refl
long_back (cell.Bool b) h = absurd h
long_back (cell.Text t) h = absurd h
long_back (cell.Time t) h = absurd h

time_back : (c : Cell) → IsStorable kind.Time c → time_cell (time_field c) ≡ c
time_back cell.Null h = refl
time_back (cell.Time t) h = rw (ne_eqb t NULL_TIME (λ e. absurd (omega arith))) refl
time_back (cell.Long x) h = absurd h
time_back (cell.Bool b) h = absurd h
time_back (cell.Text t) h = absurd h

truth_back : (c : Cell) → IsStorable kind.Bool c → cell.Bool (nat_eq (truth_field c) 1) ≡ c
truth_back (cell.Bool true) h = refl
truth_back (cell.Bool false) h = refl
truth_back cell.Null h = absurd h
truth_back (cell.Long x) h = absurd h
truth_back (cell.Text t) h = absurd h
truth_back (cell.Time t) h = absurd h

pub symbols_back : (P T : Texts) (cells : List Cell) → T ≡ fold with_text_of P cells → length T < NULL_ID → All (IsStorable kind.Symbol) cells → map (symbol_cell T) (map (id_field T) cells) ≡ cells
symbols_back P T [] e few each = refl
symbols_back P T (cell.Null ∷ cs) e few each = ap (λ l. cell.Null ∷ l) (symbols_back P T cs e few (λ j d lt. each (suc j) d (omega arith)))
symbols_back P T (cell.Text t ∷ cs) e few each =
    let added = added_id P t cs in
    let id : id_for T t ≡ id_for P t = ap (λ l. id_for l t) e ∙ added.0 in
    let more = texts_more (with_text P t) cs in
    let whole : T ≡ with_text P t ++ more.0 = e ∙ more.1 in
    let size : length (with_text P t) ≤ length T = omega (arith, ap length whole, length-append (with_text P t) more.0) in
    let some : id_for T t ≢ NULL_ID = λ null. absurd (omega (arith, added.1)) in
    let text : get_or T (id_for T t) [] ≡ t = ap (get_or T (id_for T t)) refl ∙ ap (λ n. get_or T n []) id ∙ ap (λ l. get_or l (id_for P t) []) whole ∙ get_or_append_left (with_text P t) more.0 [] (id_for P t) added.1 ∙ (text_given P t []).1 in
    let cell_is : symbol_cell T (id_for T t) ≡ cell.Text t = rw (ne_eqb (id_for T t) NULL_ID some) (ap cell.Text text) in
    ap (λ x. x ∷ map (symbol_cell T) (map (id_field T) cs)) cell_is ∙ ap (λ l. cell.Text t ∷ l) (symbols_back (with_text P t) T cs e few (λ j d lt. each (suc j) d (omega arith)))
symbols_back P T (cell.Long x ∷ cs) e few each = absurd (each 0 cell.Null (omega arith))
symbols_back P T (cell.Bool b ∷ cs) e few each = absurd (each 0 cell.Null (omega arith))
symbols_back P T (cell.Time t ∷ cs) e few each = absurd (each 0 cell.Null (omega arith))

texts_back : (before : List ℕ) (cells : List Cell) (r : List ℕ) → All (IsStorable kind.Varchar) cells → cells_from (before ++ (flat_map text_bytes cells ++ r)) (length before) (marks_from (length before) cells) ≡ cells
texts_back before [] r each = refl
texts_back before (cell.Null ∷ cs) r each =
    let half : (2 * length before + 1) / 2 ≡ length before = omega arith in
    let odd : (2 * length before + 1) % 2 ≡ 1 = omega arith in
    rw (eq-eqb ((2 * length before + 1) % 2) 1 odd, half) (ap (λ l. cell.Null ∷ l) (texts_back before cs r (λ j d lt. each (suc j) d (omega arith))))
texts_back before (cell.Text t ∷ cs) r each =
    let rest = flat_map text_bytes cs ++ r in
    let mark = 2 * (length before + length t) in
    let half : mark / 2 ≡ length before + length t = omega arith in
    let even : mark % 2 ≢ 1 = λ e. absurd (omega arith) in
    let all : before ++ (flat_map text_bytes (cell.Text t ∷ cs) ++ r) ≡ before ++ (t ++ rest) = ap (λ l. before ++ l) (append_assoc t (flat_map text_bytes cs) r) in
    let longer : before ++ (t ++ rest) ≡ (before ++ t) ++ rest = sym (append_assoc before t rest) in
    let count : length (before ++ t) ≡ length before + length t = length-append before t in
    let part : slice_range (before ++ (t ++ rest)) (length before) (length before + length t) ≡ t = let size : length before + length t - length before ≡ length t = omega arith in ap (λ n. take n (drop (length before) (before ++ (t ++ rest)))) size ∙ ap (take (length t)) (drop_at before (t ++ rest) (length before) refl) ∙ take_at t rest (length t) refl in
    let tail : cells_from (before ++ (t ++ rest)) (length before + length t) (marks_from (length before + length t) cs) ≡ cs = ap (λ l. cells_from l (length before + length t) (marks_from (length before + length t) cs)) longer ∙ ap (λ n. cells_from ((before ++ t) ++ rest) n (marks_from n cs)) (sym count) ∙ texts_back (before ++ t) cs r (λ j d lt. each (suc j) d (omega arith)) in
    ap (λ l. cells_from l (length before) (marks_from (length before) (cell.Text t ∷ cs))) all ∙ rw (ne_eqb (mark % 2) 1 even, half) (ap (λ x. cell.Text x ∷ cells_from (before ++ (t ++ rest)) (length before + length t) (marks_from (length before + length t) cs)) part ∙ ap (λ l. cell.Text t ∷ l) tail)
texts_back before (cell.Long x ∷ cs) r each = absurd (each 0 cell.Null (omega arith))
texts_back before (cell.Bool b ∷ cs) r each = absurd (each 0 cell.Null (omega arith))
texts_back before (cell.Time t ∷ cs) r each = absurd (each 0 cell.Null (omega arith))

-- cells of one kind with the same numbers, and texts that the same bytes begin with
same_cells : (k : ColType) (a b : List Cell) (aux : List ℕ) → All (IsStorable k) a → All (IsStorable k) b → length a < 2 ^ 63 → length b < 2 ^ 63 → fields_of k a ≡ fields_of k b → BeginsWith aux (aux_of_kind k a) → BeginsWith aux (aux_of_kind k b) → a ≡ b
same_cells kind.Long a b aux sa sb fa fb e xa xb = let back = cells_back kind.Long (λ n. long_cell (cast_signed w64 n)) (λ c. cast_unsigned w64 (long_of c)) long_back in sym (back a sa) ∙ ap (map (λ n. long_cell (cast_signed w64 n))) e ∙ back b sb
same_cells kind.Bool a b aux sa sb fa fb e xa xb = let back = cells_back kind.Bool (λ n. cell.Bool (nat_eq n 1)) truth_field truth_back in sym (back a sa) ∙ ap (map (λ n. cell.Bool (nat_eq n 1))) e ∙ back b sb
same_cells kind.Time a b aux sa sb fa fb e xa xb = let back = cells_back kind.Time time_cell time_field time_back in sym (back a sa) ∙ ap (map time_cell) e ∙ back b sb
same_cells kind.Symbol a b aux sa sb fa fb e xa xb =
    let none : All (λ (t : List ℕ). length t ≤ 65535) [] = λ k d lt. absurd (omega arith) in
    let ta = texts_in a in
    let tb = texts_in b in
    let small_a = few_texts [] a in
    let small_b = few_texts [] b in
    let count : length ta ≡ length tb = sym (ids_are_fields a fa).1 ∙ ap named e ∙ (ids_are_fields b fb).1 in
    let texts : ta ≡ tb = (texts_inj ta tb xa.0 xb.0 (short_texts [] a sa none) (short_texts [] b sb none) (omega arith) (sym xa.1 ∙ xb.1)).0 ∙ take_all (length ta) tb (omega arith) in
    sym (symbols_back [] ta a refl (omega arith) sa) ∙ ap (λ l. map (symbol_cell ta) l) e ∙ ap (λ t. map (symbol_cell t) (map (id_field tb) b)) texts ∙ symbols_back [] tb b refl (omega arith) sb
same_cells kind.Varchar a b aux sa sb fa fb e xa xb =
    sym (ap (λ l. cells_from l 0 (marks_from 0 a)) xa.1 ∙ texts_back [] a xa.0 sa) ∙ ap (cells_from aux 0) e ∙ ap (λ l. cells_from l 0 (marks_from 0 b)) xb.1 ∙ texts_back [] b xb.0 sb

pub one_column : OneColumnIsSpelled
one_column main aux a b kinds sizes sa sb = whole (subst (λ k. All (IsStorable k) b.cells) (sym kinds) sb.cells) (subst (λ k. All (λ n. n < 256 ^ field_size k) (fields_of k b.cells)) (sym kinds) sb.fit) (subst (λ k. BeginsWith main (bytes_of_fields k (fields_of k b.cells))) (sym kinds) sb.main_bytes) (subst (λ k. BeginsWith aux (aux_of_kind k b.cells)) (sym kinds) sb.aux_bytes)
  where
    whole : All (IsStorable a.kind) b.cells → All (λ n. n < 256 ^ field_size a.kind) (fields_of a.kind b.cells) → BeginsWith main (bytes_of_fields a.kind (fields_of a.kind b.cells)) → BeginsWith aux (aux_of_kind a.kind b.cells) → a ≡ b
    whole storable fit begins texts =
        let fa = fields_of a.kind a.cells in
        let fb = fields_of a.kind b.cells in
        let la = length-fields a.kind a.cells in
        let lb = length-fields a.kind b.cells in
        let same : fa ≡ fb = fields_inj (field_size a.kind) fa fb sa.main_bytes.0 begins.0 sa.fit fit (omega arith) (sym sa.main_bytes.1 ∙ begins.1) ∙ take_all (length fa) fb (omega arith) in
        let cells : a.cells ≡ b.cells = same_cells a.kind a.cells b.cells aux sa.cells storable sa.few sb.few same sa.aux_bytes texts in
        ap (λ (l : List Cell). record { kind = a.kind; cells = l }) cells ∙ ap (λ (k : ColType). record { kind = k; cells = b.cells }) kinds

begins_more : (bytes more front : List ℕ) → BeginsWith bytes front → BeginsWith (bytes ++ more) front
begins_more bytes more front b = (b.0 ++ more, ap (λ l. l ++ more) b.1 ∙ append_assoc front b.0 more)

pub later_bytes : LaterBytesDoNotCount
later_bytes main aux more_main more_aux column s =
    record {
      cells = s.cells;
      main_bytes = begins_more main more_main (main_of column) s.main_bytes;
      aux_bytes = begins_more aux more_aux (aux_of column) s.aux_bytes;
      fit = s.fit;
      few = s.few;
    }

all_take : {X : Type 0} (P : X → Type 0) (n : ℕ) (xs : List X) → All P xs → All P (take n xs)
all_take P n xs each k d lt = let size = length-take n xs in subst P (sym (get_or-take n xs k d (omega arith))) (each k d (omega arith))

-- the texts of the first rows come first
aux_front : (k : ColType) (cells : List Cell) (n : ℕ) → length cells < 2 ^ 63 → (more : List ℕ) × (aux_of_kind k cells ≡ aux_of_kind k (take n cells) ++ more)
aux_front kind.Long cells n few = ([], refl)
aux_front kind.Bool cells n few = ([], refl)
aux_front kind.Time cells n few = ([], refl)
aux_front kind.Symbol cells n few =
    let count = named (take n (map (id_field (texts_in cells)) cells)) in
    let all = texts_in cells in
    (flat_map stored_text (drop count all), ap (flat_map stored_text) (sym (take-append-drop count all)) ∙ flat_map-append stored_text (take count all) (drop count all) ∙ ap (λ l. flat_map stored_text l ++ flat_map stored_text (drop count all)) (sym (first_texts cells n few)))
aux_front kind.Varchar cells n few = (flat_map text_bytes (drop n cells), ap (flat_map text_bytes) (sym (take-append-drop n cells)) ∙ flat_map-append text_bytes (take n cells) (drop n cells))

pub first_rows_spelled : FirstRowsAreSpelled
first_rows_spelled main aux n column s =
    let more = aux_front column.kind column.cells n s.few in
    record {
      cells = all_take (IsStorable column.kind) n column.cells s.cells;
      main_bytes = begins_append main (main_of (first_rows n column)) (bytes_of_fields column.kind (drop n (fields_of column.kind column.cells))) (subst (BeginsWith main) (sym (main_added column n)) s.main_bytes);
      aux_bytes = begins_append aux (aux_of (first_rows n column)) more.0 (subst (BeginsWith aux) more.1 s.aux_bytes);
      fit = subst (All (λ m. m < 256 ^ field_size column.kind)) (sym (first_fields column.kind column.cells n)) (all_take (λ m. m < 256 ^ field_size column.kind) n (fields_of column.kind column.cells) s.fit);
      few = let size = length-take n column.cells in let few = s.few in omega arith;
    }

-- bytes written behind a front
written : (file front more : List ℕ) (at : ℕ) → BeginsWith file front → at ≡ length front → BeginsWith (written_at at more file) (front ++ more)
written file front more at b is =
    let taken : take at file ≡ front = ap (take at) b.1 ∙ take_at front b.0 at (sym is) in
    (drop (at + length more) file, ap (λ l. l ++ (more ++ drop (at + length more) file)) taken ∙ sym (append_assoc front more (drop (at + length more) file)))

pub appended_rows : AppendedRowsAreSpelled
appended_rows main aux n column bytes itself added s =
    record {
      cells = itself.cells;
      main_bytes = subst (BeginsWith (written_at bytes.main_at bytes.main main)) added.main (written main (main_of (first_rows n column)) bytes.main bytes.main_at s.main_bytes added.main_at);
      aux_bytes = subst (BeginsWith (written_at bytes.aux_at bytes.aux aux)) added.aux (written aux (aux_of (first_rows n column)) bytes.aux bytes.aux_at s.aux_bytes added.aux_at);
      fit = itself.fit;
      few = itself.few;
    }
