-- The rows of a stored column from one on.
use Rattle.std.proofs.Common.{◌≡◌, ◌⊎◌, inl, inr, ⊎_elim, ℕ, zero, suc, ◌+◌, ◌-◌, ◌*◌, ◌/◌, ◌%◌, ◌^◌, ◌<◌, ◌≤◌, cond, eqb, List, [], ◌∷◌, ◌++◌, length, length-append, map, fold, take, drop, replicate, get_or, slice_index, slice_range, SomeIndex, refl, sym, ap, ap₂, ◌∙◌, arith, All, subst, append-nil, Option, None, Some, IfSome, Result, Ok, Err, IfOk}
use Rattle.std.specs.List.{flat_map, range_with_len, AllByRecursion, IsDistinct}
use Rattle.std.proofs.lemmas.Bool.{cases_eq, ne_eqb}
use Rattle.std.proofs.lemmas.List.{drop-map, drop_all, drop_at, get_or-map, get_or-take, length-map, length-replicate, length-take-le, map-append, take_all, take-append-drop, take_at, take_more}
use Rattle.std.proofs.lemmas.List.Elements.{All-append, All-drop, All-take}
use Rattle.std.proofs.lemmas.List.FromFn.{length-range_with_len, get_or-range_with_len}
use Rattle.std.proofs.lemmas.List.Sums.{fold-append}
use Rattle.std.proofs.lemmas.Grind.{flat_map-append}
use Rattle.std.proofs.lemmas.Result.{IfOk-weaker}
use Rattle.std.proofs.Math.Seq.{drop-cons}
use Rattle.byteorder.specs.Endian.{little_bytes, little_number}
use Rattle.byteorder.specs.Numbers.{little_number-reads_back, length-bytes_low_first}
use Rattle.qd_base.specs.declared.cell.Cell.{Cell}
use Rattle.qd_base.specs.declared.cell.Cell.TheVariants as cell
use Rattle.qd_base.specs.declared.limits.TheConstants.{NULL_ID}
use Rattle.qd_base.specs.declared.schema.ColType.{ColType}
use Rattle.qd_base.specs.declared.schema.ColType.TheVariants as kind
use Rattle.qd_base.specs.Dictionary.{AreDistinct}
use Rattle.qd_base.proofs.Texts.{none_distinct}
use Rattle.qd_column.specs.Cells.{CellsOf}
use Rattle.qd_column.specs.Symbols.{symbol_cell, texts_in, AreSymbols}
use Rattle.qd_column_format.specs.Added.{column_of, SpellsItself}
use Rattle.qd_column_format.specs.Fields.{bytes_of_fields, end_of, field_bytes, field_size, fields_of, id_field, marks_from, named, AreFields}
use Rattle.qd_column_format.specs.Laws.{OneDictionaryIsSpelled}
use Rattle.qd_column_format.specs.Rests.{rows_from, texts_from, HoldsMark, HoldsRest, IsHeldRest}
use Rattle.qd_column_format.specs.Spelling.{aux_of, aux_of_kind, main_of, stored_text, text_bytes, BeginsWith, IsStorable, SpellsColumn}
use Rattle.qd_column_format.proofs.ColumnLemmas.{column_itself, same_column, symbol_column}
use Rattle.qd_column_format.proofs.DamageLemmas.{short_texts}
use Rattle.qd_column_format.proofs.FieldLemmas.{begins_append, fields_inj, length-words}
use Rattle.qd_column_format.proofs.LawLemmas.{symbols_back}
use Rattle.qd_column_format.proofs.SpellingLemmas.{length-fields}
use Rattle.qd_column_format.proofs.SymbolLemmas.{are_symbols, distinct_texts, few_texts, ids_are_fields, ids_named, named_grows, step}
use Rattle.qd_column_format.proofs.TailLemmas.{text_fields}
use Rattle.qd_column_format.proofs.TextLemmas.{end_of_marks, first_marks}

-- ---- any kind

-- a column by its kind
pub by_kind : (k : ColType) (whole : CellsOf) → whole.kind ≡ k → whole ≡ column_of k whole.cells
by_kind k whole is = sym (same_column whole k whole.cells (sym is) refl)

-- behind the bytes of the first numbers stand those of the others
pub bytes_dropped : (k : ColType) (fields : List ℕ) (n : ℕ) → n ≤ length fields → drop (n * field_size k) (bytes_of_fields k fields) ≡ bytes_of_fields k (drop n fields)
bytes_dropped k fields n le =
    let size : length (bytes_of_fields k (take n fields)) ≡ n * field_size k = length-words (field_size k) (take n fields) ∙ ap (λ m. m * field_size k) (length-take-le n fields le) in
    let split : bytes_of_fields k fields ≡ bytes_of_fields k (take n fields) ++ bytes_of_fields k (drop n fields) = ap (bytes_of_fields k) (sym (take-append-drop n fields)) ∙ flat_map-append (field_bytes k) (take n fields) (drop n fields) in
    ap (drop (n * field_size k)) split ∙ drop_at (bytes_of_fields k (take n fields)) (bytes_of_fields k (drop n fields)) (n * field_size k) size

-- the numbers of the rows from one on stand first in the bytes that hold them
numbers_held : (skip start : ℕ) (main aux : List ℕ) (whole : CellsOf) → skip ≤ length whole.cells → HoldsRest skip start main aux whole → BeginsWith main (bytes_of_fields whole.kind (drop skip (fields_of whole.kind whole.cells)))
numbers_held skip start main aux whole le h = subst (BeginsWith main) (bytes_dropped whole.kind (fields_of whole.kind whole.cells) skip (omega (arith, le, length-fields whole.kind whole.cells))) h.rows

-- what is answered is the rows of the column
pub rest_is : {E : Type 0} (r : Result (Option CellsOf) E) (k : ColType) (skip : ℕ) (whole : CellsOf) → whole.kind ≡ k → IfOk r (λ (o : Option CellsOf). o ≡ Some (column_of k (drop skip whole.cells))) → IfOk r (λ (o : Option CellsOf). o ≡ Some (rows_from skip whole))
rest_is r k skip whole is had = IfOk-weaker r (λ (o : Option CellsOf). o ≡ Some (column_of k (drop skip whole.cells))) (λ (o : Option CellsOf). o ≡ Some (rows_from skip whole)) (λ o h. h ∙ ap (λ (j : ColType). Some (column_of j (drop skip whole.cells))) (sym is)) had

-- there are bytes for them
pub numbers_room : (skip start rows : ℕ) (main aux : List ℕ) (whole : CellsOf) → length whole.cells ≡ skip + rows → HoldsRest skip start main aux whole → rows * field_size whole.kind ≤ length main
numbers_room skip start rows main aux whole size h =
    let fields = fields_of whole.kind whole.cells in
    let held = numbers_held skip start main aux whole (omega (arith, size)) h in
    let all = length-fields whole.kind whole.cells in
    let long : length (drop skip fields) ≡ rows = omega (arith, ap length (take-append-drop skip fields), length-append (take skip fields) (drop skip fields), length-take-le skip fields (omega (arith, size, all)), size, all) in
    let bytes : length (bytes_of_fields whole.kind (drop skip fields)) ≡ rows * field_size whole.kind = length-words (field_size whole.kind) (drop skip fields) ∙ ap (λ n. n * field_size whole.kind) long in
    omega (arith, bytes, ap length held.1, length-append (bytes_of_fields whole.kind (drop skip fields)) held.0)

-- what a column of an answer is, by its kind and by what it is spelled by
pub kept_weaker : {E : Type 0} (r : Result (Option CellsOf) E) (k : ColType) (P Q : CellsOf → Type 0) → ((column : CellsOf) → column.kind ≡ k → P column → Q column) → IfOk r (λ (o : Option CellsOf). IfSome o (λ (column : CellsOf). column.kind ≡ k)) → IfOk r (λ (o : Option CellsOf). IfSome o P) → IfOk r (λ (o : Option CellsOf). IfSome o Q)
kept_weaker (Err e) k P Q f is h = tt
kept_weaker (Ok None) k P Q f is h = tt
kept_weaker (Ok (Some column)) k P Q f is h = f column is h

-- bytes that begin with so many numbers hold these
words_are : (main words xs more : List ℕ) → main ≡ flat_map (little_bytes 8) words ++ more → BeginsWith main (flat_map (little_bytes 8) xs) → length words ≡ length xs → All (λ n. n < 256 ^ 8) words → All (λ n. n < 256 ^ 8) xs → words ≡ xs
words_are main words xs more is b size fits also = fields_inj 8 words xs more b.0 fits also (omega (arith, size)) (sym is ∙ b.1) ∙ take_all (length words) xs (omega (arith, size))

-- a column that files spell can be stored
spells_itself : (main aux : List ℕ) (column : CellsOf) → SpellsColumn main aux column → SpellsItself column
spells_itself main aux column s = record {
  cells = s.cells;
  main_bytes = ([], sym (append-nil (main_of column)));
  aux_bytes = ([], sym (append-nil (aux_of column)));
  fit = s.fit;
  few = s.few;
}

-- ---- kinds without texts

dropped_fields : (k : ColType) → (k ≡ kind.Symbol → ⊥) → (k ≡ kind.Varchar → ⊥) → (cells : List Cell) (n : ℕ) → drop n (fields_of k cells) ≡ fields_of k (drop n cells)
dropped_fields kind.Long no_ids no_marks cells n = drop-map _ n cells
dropped_fields kind.Bool no_ids no_marks cells n = drop-map _ n cells
dropped_fields kind.Time no_ids no_marks cells n = drop-map _ n cells
dropped_fields kind.Symbol no_ids no_marks cells n = absurd (no_ids refl)
dropped_fields kind.Varchar no_ids no_marks cells n = absurd (no_marks refl)

no_texts : (k : ColType) → (k ≡ kind.Symbol → ⊥) → (k ≡ kind.Varchar → ⊥) → (cells : List Cell) → aux_of_kind k cells ≡ []
no_texts kind.Long no_ids no_marks cells = refl
no_texts kind.Bool no_ids no_marks cells = refl
no_texts kind.Time no_ids no_marks cells = refl
no_texts kind.Symbol no_ids no_marks cells = absurd (no_ids refl)
no_texts kind.Varchar no_ids no_marks cells = absurd (no_marks refl)

pub plain_size : (skip rows : ℕ) (cells : List Cell) → length cells ≡ skip + rows → length (drop skip cells) ≡ rows
plain_size skip rows cells size = omega (arith, ap length (take-append-drop skip cells), length-append (take skip cells) (drop skip cells), length-take-le skip cells (omega (arith, size)), size)

-- their rows are spelled by their own bytes
pub plain_rest : (k : ColType) → (k ≡ kind.Symbol → ⊥) → (k ≡ kind.Varchar → ⊥) → (skip start rows : ℕ) (main aux : List ℕ) (cells : List Cell) → length cells ≡ skip + rows → HoldsRest skip start main aux (column_of k cells) → SpellsColumn main aux (column_of k (drop skip cells))
plain_rest k no_ids no_marks skip start rows main aux cells size h =
    let same = dropped_fields k no_ids no_marks cells skip in
    record {
      cells = All-drop (IsStorable k) skip cells h.stored.cells;
      main_bytes = subst (λ (fs : List ℕ). BeginsWith main (bytes_of_fields k fs)) same (numbers_held skip start main aux (column_of k cells) (omega (arith, size)) h);
      aux_bytes = (aux, ap (λ (l : List ℕ). l ++ aux) (sym (no_texts k no_ids no_marks (drop skip cells))));
      fit = subst (All (λ n. n < 256 ^ field_size k)) same (All-drop (λ n. n < 256 ^ field_size k) skip (fields_of k cells) h.stored.fit);
      few = let few = h.stored.few in omega (arith, few, size, plain_size skip rows cells size);
    }

plain_texts : (k : ColType) → (k ≡ kind.Symbol → ⊥) → (k ≡ kind.Varchar → ⊥) → (cells : List Cell) (n : ℕ) → drop n (aux_of_kind k cells) ≡ []
plain_texts kind.Long no_ids no_marks cells n = drop_all n [] (omega arith)
plain_texts kind.Bool no_ids no_marks cells n = drop_all n [] (omega arith)
plain_texts kind.Time no_ids no_marks cells n = drop_all n [] (omega arith)
plain_texts kind.Symbol no_ids no_marks cells n = absurd (no_ids refl)
plain_texts kind.Varchar no_ids no_marks cells n = absurd (no_marks refl)

-- what they spell are rows that they hold
pub plain_held : (k : ColType) → (k ≡ kind.Symbol → ⊥) → (k ≡ kind.Varchar → ⊥) → (start : ℕ) (main aux : List ℕ) (column : CellsOf) → column.kind ≡ k → SpellsColumn main aux column → IsHeldRest start main aux column
plain_held k no_ids no_marks start main aux column is s =
    let none : 0 * field_size column.kind ≡ 0 = omega arith in
    record {
      skip = 0;
      whole = column;
      held = record {
        stored = spells_itself main aux column s;
        rows = subst (λ (n : ℕ). BeginsWith main (drop n (main_of column))) (sym none) s.main_bytes;
        texts = (aux, ap (λ (l : List ℕ). l ++ aux) (sym (plain_texts column.kind (λ e. no_ids (sym is ∙ e)) (λ e. no_marks (sym is ∙ e)) column.cells (texts_from 0 column))));
        place = λ e. absurd (no_marks (sym is ∙ e));
      };
      is = refl;
    }

-- ---- VARCHAR

-- marks that are moved as far are the same
moved_same : (s : ℕ) (xs ys : List ℕ) → map (λ m. m + 2 * s) xs ≡ map (λ m. m + 2 * s) ys → xs ≡ ys
moved_same s [] [] e = refl
moved_same s [] (y ∷ ys) e = absurd (omega (arith, ap length e))
moved_same s (x ∷ xs) [] e = absurd (omega (arith, ap length e))
moved_same s (x ∷ xs) (y ∷ ys) e =
    let head : x + 2 * s ≡ y + 2 * s = ap (λ (l : List ℕ). get_or l 0 0) e in
    ap₂ (λ a b. a ∷ b) (omega (arith, head)) (moved_same s xs ys (ap (drop 1) e))

moved_low : (bound s : ℕ) (xs : List ℕ) → All (λ n. n < bound) (map (λ m. m + 2 * s) xs) → All (λ n. n < bound) xs
moved_low bound s [] each k d lt = absurd (omega (arith, lt))
moved_low bound s (x ∷ xs) each zero d lt = let here = each zero d (omega arith) in omega arith
moved_low bound s (x ∷ xs) each (suc k) d lt = moved_low bound s xs (λ j e low. each (suc j) e (omega (arith, low))) k d (omega (arith, lt))

-- none of them stands before that
pub none_before : (s : ℕ) (xs ys : List ℕ) → ys ≡ map (λ m. m + 2 * s) xs → SomeIndex ys (λ k. slice_index ys k < 2 * s) → ⊥
none_before s xs ys is h =
    let size : length ys ≡ length xs = ap length is ∙ length-map xs (λ m. m + 2 * s) in
    let at : get_or ys h.0 0 ≡ get_or xs h.0 0 + 2 * s = ap (λ (l : List ℕ). get_or l h.0 0) is ∙ get_or-map (λ m. m + 2 * s) xs h.0 0 0 (omega (arith, size, h.1)) in
    absurd (omega (arith, at, h.2))

module _ (skip start rows : ℕ) (main aux : List ℕ) (cells : List Cell) (size : length cells ≡ skip + rows) (h : HoldsRest skip start main aux (column_of kind.Varchar cells)) where
  abbrev first : List Cell
  first = take skip cells

  abbrev rest : List Cell
  rest = drop skip cells

  pub first_size : length first ≡ skip
  first_size = length-take-le skip cells (omega (arith, size))

  pub rest_size : length rest ≡ rows
  rest_size = omega (arith, ap length (take-append-drop skip cells), length-append first rest, first_size, size)

  marks_rest : drop skip (marks_from 0 cells) ≡ map (λ m. m + 2 * start) (marks_from 0 rest)
  marks_rest =
      let split : marks_from 0 cells ≡ marks_from 0 first ++ map (λ m. m + 2 * length (flat_map text_bytes first)) (marks_from 0 rest) = ap (marks_from 0) (sym (take-append-drop skip cells)) ∙ text_fields first rest in
      let count : length (marks_from 0 first) ≡ skip = length-fields kind.Varchar first ∙ first_size in
      ap (drop skip) split ∙ drop_at (marks_from 0 first) (map (λ m. m + 2 * length (flat_map text_bytes first)) (marks_from 0 rest)) skip count ∙ ap (λ (s : ℕ). map (λ m. m + 2 * s) (marks_from 0 rest)) (sym (h.place refl))

  fit : All (λ n. n < 256 ^ 8) (map (λ m. m + 2 * start) (marks_from 0 rest))
  fit = subst (All (λ n. n < 256 ^ 8)) marks_rest (All-drop (λ n. n < 256 ^ 8) skip (marks_from 0 cells) h.stored.fit)

  -- the marks that are read are those of the rows alone, moved
  pub marks_read : (marks more : List ℕ) → main ≡ flat_map (little_bytes 8) marks ++ more → length marks ≡ rows → All (λ n. n < 256 ^ 8) marks → marks ≡ map (λ m. m + 2 * start) (marks_from 0 rest)
  marks_read marks more is count fits =
      let long : length (map (λ m. m + 2 * start) (marks_from 0 rest)) ≡ rows = length-map (marks_from 0 rest) (λ m. m + 2 * start) ∙ length-fields kind.Varchar rest ∙ rest_size in
      words_are main marks (map (λ m. m + 2 * start) (marks_from 0 rest)) more is
      (subst (λ (fs : List ℕ). BeginsWith main (flat_map (little_bytes 8) fs)) marks_rest (numbers_held skip start main aux (column_of kind.Varchar cells) (omega (arith, size)) h))
      (count ∙ sym long) fits fit

  -- and moved back they and the texts spell the rows
  pub texts_rest : (marks own : List ℕ) → marks ≡ map (λ m. m + 2 * start) (marks_from 0 rest) → map (λ m. m + 2 * start) own ≡ marks → SpellsColumn (flat_map (little_bytes 8) own) aux (column_of kind.Varchar rest)
  texts_rest marks own are moved =
      let same : own ≡ marks_from 0 rest = moved_same start own (marks_from 0 rest) (moved ∙ are) in
      let begun = length (flat_map text_bytes first) in
      let split : flat_map text_bytes cells ≡ flat_map text_bytes first ++ flat_map text_bytes rest = ap (flat_map text_bytes) (sym (take-append-drop skip cells)) ∙ flat_map-append text_bytes first rest in
      let behind : drop begun (flat_map text_bytes cells) ≡ flat_map text_bytes rest = ap (drop begun) split ∙ drop_at (flat_map text_bytes first) (flat_map text_bytes rest) begun refl in
      record {
        cells = All-drop (IsStorable kind.Varchar) skip cells h.stored.cells;
        main_bytes = ([], ap (flat_map (little_bytes 8)) same ∙ sym (append-nil (flat_map (little_bytes 8) (marks_from 0 rest))));
        aux_bytes = subst (BeginsWith aux) behind h.texts;
        fit = moved_low (256 ^ 8) start (marks_from 0 rest) fit;
        few = let few = h.stored.few in omega (arith, few, rest_size, size);
      }

-- rows whose texts take so many bytes
blank : ℕ → List ℕ
blank n = replicate n 0

blank_long : (n : ℕ) → length (blank n) ≡ n
unfolding blank
blank_long n = length-replicate {A = ℕ} n 0

abbrev zeros : ℕ → Cell
zeros n = cell.Text (blank n)

abbrev padding : ℕ → List Cell
padding start = replicate (start / 8) (zeros 8) ++ zeros (start % 8) ∷ []

replicated_long : (n : ℕ) → length (flat_map text_bytes (replicate n (zeros 8))) ≡ n * 8
replicated_long zero = omega arith
replicated_long (suc n) = omega (arith, replicated_long n, length-append (blank 8) (flat_map text_bytes (replicate n (zeros 8))), blank_long 8)

padding_long : (start : ℕ) → length (flat_map text_bytes (padding start)) ≡ start
padding_long start =
    let front = flat_map text_bytes (replicate (start / 8) (zeros 8)) in
    ap length (flat_map-append text_bytes (replicate (start / 8) (zeros 8)) (zeros (start % 8) ∷ []))
    ∙ omega (arith, length-append front (flat_map text_bytes (zeros (start % 8) ∷ [])), replicated_long (start / 8), length-append (blank (start % 8)) [], blank_long (start % 8))

padding_few : (start : ℕ) → length (padding start) ≡ start / 8 + 1
padding_few start = omega (arith, length-append (replicate (start / 8) (zeros 8)) (zeros (start % 8) ∷ []), length-replicate (start / 8) (zeros 8))

padding_storable : (start : ℕ) → All (IsStorable kind.Varchar) (padding start)
padding_storable start = All-append (IsStorable kind.Varchar) (replicate (start / 8) (zeros 8)) (zeros (start % 8) ∷ []) (many (start / 8)) last
  where
    many : (n : ℕ) → All (IsStorable kind.Varchar) (replicate n (zeros 8))
    many zero k d lt = absurd (omega (arith, lt))
    many (suc n) zero d lt = omega (arith, blank_long 8)
    many (suc n) (suc k) d lt = many n k d (omega (arith, lt))

    last : All (IsStorable kind.Varchar) (zeros (start % 8) ∷ [])
    last zero d lt = omega (arith, blank_long (start % 8))
    last (suc k) d lt = absurd (omega (arith, lt))

-- the marks of rows are no greater than where their texts end
marks_low : (start end : ℕ) (cells : List Cell) → start + length (flat_map text_bytes cells) ≤ end → All (λ m. m < 2 * end + 2) (marks_from start cells)
marks_low start end [] le k d lt = absurd (omega (arith, lt))
marks_low start end (cell.Null ∷ cs) le zero d lt = omega (arith, le)
marks_low start end (cell.Null ∷ cs) le (suc k) d lt = marks_low start end cs le k d (omega (arith, lt))
marks_low start end (cell.Long x ∷ cs) le zero d lt = omega (arith, le)
marks_low start end (cell.Long x ∷ cs) le (suc k) d lt = marks_low start end cs le k d (omega (arith, lt))
marks_low start end (cell.Bool b ∷ cs) le zero d lt = omega (arith, le)
marks_low start end (cell.Bool b ∷ cs) le (suc k) d lt = marks_low start end cs le k d (omega (arith, lt))
marks_low start end (cell.Time t ∷ cs) le zero d lt = omega (arith, le)
marks_low start end (cell.Time t ∷ cs) le (suc k) d lt = marks_low start end cs le k d (omega (arith, lt))
marks_low start end (cell.Text t ∷ cs) le zero d lt = omega (arith, le, length-append t (flat_map text_bytes cs))
marks_low start end (cell.Text t ∷ cs) le (suc k) d lt = marks_low (start + length t) end cs (omega (arith, le, length-append t (flat_map text_bytes cs))) k d (omega (arith, lt))

-- rows that are spelled by moved marks are held behind rows that take as many bytes
module _ (start rows : ℕ) (main aux marks own more : List ℕ) (cells : List Cell) (some : 0 < rows) (few : rows < 2 ^ 61) (size : length cells ≡ rows) (count : length own ≡ rows) (fits : All (λ n. n < 256 ^ 8) marks)
    (is : main ≡ flat_map (little_bytes 8) marks ++ more) (moved : map (λ m. m + 2 * start) own ≡ marks) (s : SpellsColumn (flat_map (little_bytes 8) own) aux (column_of kind.Varchar cells)) where
  abbrev pad : List Cell
  pad = padding start

  abbrev all_cells : List Cell
  all_cells = pad ++ cells

  own_are : own ≡ marks_from 0 cells
  own_are =
      let low : All (λ n. n < 256 ^ 8) own = moved_low (256 ^ 8) start own (subst (All (λ n. n < 256 ^ 8)) (sym moved) fits) in
      words_are (flat_map (little_bytes 8) own) own (marks_from 0 cells) [] (sym (append-nil (flat_map (little_bytes 8) own))) s.main_bytes (omega (arith, count, size, length-fields kind.Varchar cells)) low s.fit

  fields_are : marks_from 0 all_cells ≡ marks_from 0 pad ++ marks
  fields_are = text_fields pad cells ∙ ap₂ (λ (n : ℕ) (l : List ℕ). marks_from 0 pad ++ map (λ m. m + 2 * n) l) (padding_long start) (sym own_are) ∙ ap (λ (l : List ℕ). marks_from 0 pad ++ l) moved

  start_low : 2 * start + 2 ≤ 2 ^ 64
  start_low =
      let many : length marks ≡ rows = sym (ap length moved) ∙ length-map own (λ m. m + 2 * start) ∙ count in
      let first : get_or marks 0 0 ≡ get_or own 0 0 + 2 * start = ap (λ (l : List ℕ). get_or l 0 0) (sym moved) ∙ get_or-map (λ m. m + 2 * start) own 0 0 0 (omega (arith, count, some)) in
      let low : get_or marks 0 0 < 256 ^ 8 = fits 0 0 (omega (arith, many, some)) in
      omega (arith, first, low)

  front : take (length pad) all_cells ≡ pad
  front = take_at pad cells (length pad) refl

  end_is : texts_from (length pad) (column_of kind.Varchar all_cells) ≡ start
  end_is = ap (λ (cs : List Cell). length (flat_map text_bytes cs)) front ∙ padding_long start

  stored : SpellsItself (column_of kind.Varchar all_cells)
  stored = record {
    cells = All-append (IsStorable kind.Varchar) pad cells (padding_storable start) s.cells;
    main_bytes = ([], sym (append-nil (flat_map (little_bytes 8) (marks_from 0 all_cells))));
    aux_bytes = ([], sym (append-nil (flat_map text_bytes all_cells)));
    fit = subst (All (λ n. n < 256 ^ 8)) (sym fields_are) (All-append (λ n. n < 256 ^ 8) (marks_from 0 pad) marks
        (λ k d lt. let low = marks_low 0 start pad (omega (arith, padding_long start)) k d lt in omega (arith, low, start_low)) fits);
    few = omega (arith, length-append pad cells, padding_few start, start_low, size, few);
  }

  pub texts_kept : IsHeldRest start main aux (column_of kind.Varchar cells)
  texts_kept =
      let long : length (marks_from 0 pad) ≡ length pad = length-fields kind.Varchar pad in
      let numbers : drop (length pad * 8) (flat_map (little_bytes 8) (marks_from 0 all_cells)) ≡ flat_map (little_bytes 8) marks = bytes_dropped kind.Varchar (marks_from 0 all_cells) (length pad) (omega (arith, length-fields kind.Varchar all_cells, length-append pad cells))
      ∙ ap (flat_map (little_bytes 8)) (ap (drop (length pad)) fields_are ∙ drop_at (marks_from 0 pad) marks (length pad) long) in
      let behind : drop start (flat_map text_bytes all_cells) ≡ flat_map text_bytes cells = ap (drop start) (flat_map-append text_bytes pad cells) ∙ drop_at (flat_map text_bytes pad) (flat_map text_bytes cells) start (padding_long start) in
      record {
        skip = length pad;
        whole = column_of kind.Varchar all_cells;
        held = record {
          stored = stored;
          rows = (more, is ∙ ap (λ (l : List ℕ). l ++ more) (sym numbers));
          texts = subst (BeginsWith aux) (sym (ap (λ (n : ℕ). drop n (flat_map text_bytes all_cells)) end_is ∙ behind)) s.aux_bytes;
          place = λ e. sym end_is;
        };
        is = ap (column_of kind.Varchar) (sym (drop_at pad cells (length pad) refl));
      }

-- what is made of moved marks are rows that are held
pub moved_held : {E : Type 0} (r : Result (Option CellsOf) E) (start rows : ℕ) (main aux bytes marks own more : List ℕ) → 0 < rows → rows < 2 ^ 61 → length marks ≡ rows → All (λ n. n < 256 ^ 8) marks
    → main ≡ flat_map (little_bytes 8) marks ++ more → map (λ m. m + 2 * start) own ≡ marks → bytes ≡ flat_map (little_bytes 8) own
    → IfOk r (λ (o : Option CellsOf). IfSome o (λ (column : CellsOf). column.kind ≡ kind.Varchar)) → IfOk r (λ (o : Option CellsOf). IfSome o (λ (column : CellsOf). length column.cells ≡ rows)) → IfOk r (λ (o : Option CellsOf). IfSome o (λ (column : CellsOf). SpellsColumn bytes aux column))
    → IfOk r (λ (o : Option CellsOf). IfSome o (λ (column : CellsOf). IsHeldRest start main aux column))
moved_held (Err e) start rows main aux bytes marks own more some few count fits is moved made kinds sizes s = tt
moved_held (Ok None) start rows main aux bytes marks own more some few count fits is moved made kinds sizes s = tt
moved_held (Ok (Some column)) start rows main aux bytes marks own more some few count fits is moved made kinds sizes s =
    let same : column ≡ column_of kind.Varchar column.cells = by_kind kind.Varchar column kinds in
    let long : length own ≡ rows = sym (length-map own (λ m. m + 2 * start)) ∙ ap length moved ∙ count in
    let spelled : SpellsColumn (flat_map (little_bytes 8) own) aux (column_of kind.Varchar column.cells) = subst (λ (l : List ℕ). SpellsColumn l aux (column_of kind.Varchar column.cells)) made (subst (SpellsColumn bytes aux) same s) in
    subst (IsHeldRest start main aux) (sym same) (texts_kept start rows main aux marks own more column.cells some few sizes long fits is moved spelled)

-- the texts of the rows before end by the mark of the last of these
module _ (skip : ℕ) (bytes : List ℕ) (cells : List Cell) (h : HoldsMark skip bytes (column_of kind.Varchar cells)) where
  abbrev marks : List ℕ
  marks = marks_from 0 cells

  last_there : skip - 1 < length marks
  last_there = let some = h.some in let within = h.within in omega (arith, some, within, length-fields kind.Varchar cells)

  abbrev last : ℕ
  last = get_or marks (skip - 1) 0

  mark_bytes : bytes ≡ little_bytes 8 last
  mark_bytes =
      let behind : drop (skip - 1) marks ≡ last ∷ drop (suc (skip - 1)) marks = drop-cons marks (skip - 1) 0 last_there in
      let size : length (little_bytes 8 last) ≡ 8 = length-bytes_low_first 0 8 last in
      h.mark
      ∙ ap (take 8) (bytes_dropped kind.Varchar marks (skip - 1) (omega (arith, last_there)) ∙ ap (flat_map (little_bytes 8)) behind)
      ∙ take_at (little_bytes 8 last) (flat_map (little_bytes 8) (drop (suc (skip - 1)) marks)) 8 size

  mark_number : little_number 8 bytes ≡ last
  mark_number =
      let low : last < 256 ^ 8 = h.stored.fit (skip - 1) 0 last_there in
      ap (little_number 8) (mark_bytes ∙ sym (append-nil (little_bytes 8 last))) ∙ little_number-reads_back 8 last [] low

  pub mark_size : length bytes ≡ 8
  mark_size = ap length mark_bytes ∙ length-bytes_low_first 0 8 last

  pub mark_end : little_number 8 bytes / 2 ≡ length (flat_map text_bytes (take skip cells))
  mark_end =
      let on : skip - 1 + 1 ≡ skip = let some = h.some in omega (arith, some) in
      let front : marks_from 0 (take skip cells) ≡ take (skip - 1) marks ++ last ∷ [] = first_marks 0 cells skip ∙ ap (λ n. take n marks) (sym on) ∙ take_more marks (skip - 1) 0 last_there in
      let ends : end_of (marks_from 0 (take skip cells)) ≡ last / 2 = ap end_of front ∙ fold-append (λ (s m : ℕ). m / 2) 0 (take (skip - 1) marks) (last ∷ []) in
      ap (λ (n : ℕ). n / 2) mark_number ∙ sym ends ∙ end_of_marks 0 (take skip cells) ∙ (let none : 0 + length (flat_map text_bytes (take skip cells)) ≡ length (flat_map text_bytes (take skip cells)) = omega arith in none)

-- ---- SYMBOL

pub range_more : (a n j : ℕ) → a + n ≡ j → range_with_len a (n + 1) ≡ range_with_len a n ++ j ∷ []
range_more a zero j e = ap (λ (x : ℕ). x ∷ []) (omega (arith, e))
range_more a (suc n) j e = let on : suc n + 1 ≡ suc (n + 1) = omega arith in ap (range_with_len a) on ∙ ap (λ (l : List ℕ). a ∷ l) (range_more (a + 1) n j (omega (arith, e)))

step_next : (m : ℕ) → m < NULL_ID → step m m ≡ m + 1
step_next m lt = rw (ne_eqb m NULL_ID (λ e. absurd (omega (arith, e, lt)))) (omega arith)

named_known : (m : ℕ) (ids : List ℕ) → All (λ id. (id ≡ NULL_ID) ⊎ (id < m)) ids → fold step m ids ≡ m
named_known m [] each = refl
named_known m (id ∷ ids) each = ap (λ n. fold step n ids) (one (each zero 0 (omega arith))) ∙ named_known m ids (λ k d lt. each (suc k) d (omega (arith, lt)))
  where
    one : (id ≡ NULL_ID) ⊎ (id < m) → step m id ≡ m
    one (inl null) = rw null refl
    one (inr low) = elim (cases_eq id NULL_ID) [
      | inl null ↦ rw null refl
      | inr some ↦ rw (ne_eqb id NULL_ID some) (omega (arith, low))
    ]

named_range : (m n : ℕ) → m + n ≤ NULL_ID → fold step m (range_with_len m n) ≡ m + n
named_range m zero le = omega arith
named_range m (suc n) le = ap (λ x. fold step x (range_with_len (m + 1) n)) (step_next m (omega (arith, le))) ∙ named_range (m + 1) n (omega (arith, le)) ∙ omega arith

range_kept : (m n : ℕ) (ids : List ℕ) → m + n ≤ NULL_ID → All (λ id. (id ≡ NULL_ID) ⊎ (id < m + n)) ids → (i : ℕ) → i < length (range_with_len m n ++ ids) → (slice_index (range_with_len m n ++ ids) i ≡ NULL_ID) ⊎ (slice_index (range_with_len m n ++ ids) i ≤ fold step m (take i (range_with_len m n ++ ids)))
range_kept m zero ids le each i lt = ⊎_elim (λ null. inl null) (λ low. let grows = named_grows m (take i ids) in inr (omega (arith, low, grows))) (each i 0 lt)
range_kept m (suc n) ids le each zero lt = inr (omega arith)
range_kept m (suc n) ids le each (suc i) lt =
    let more = range_with_len (m + 1) n ++ ids in
    let room : m + 1 + n ≡ m + suc n = omega arith in
    subst (λ (x : ℕ). (slice_index more i ≡ NULL_ID) ⊎ (slice_index more i ≤ fold step x (take i more))) (sym (step_next m (omega (arith, le))))
    (range_kept (m + 1) n ids (omega (arith, le)) (λ k d low. subst (λ (x : ℕ). (get_or ids k d ≡ NULL_ID) ⊎ (get_or ids k d < x)) (sym room) (each k d low)) i (omega (arith, lt)))

abbrev pub all_ids : ℕ → List ℕ → List ℕ
all_ids count ids = range_with_len 0 count ++ ids

pub all_made : (new old ids : List ℕ) (n count : ℕ) → new ≡ old ++ ids → old ≡ range_with_len 0 n → n ≡ count → new ≡ all_ids count ids
all_made new old ids n count is old_is same = is ∙ ap (λ (l : List ℕ). l ++ ids) (old_is ∙ ap (range_with_len 0) same)

module _ (count : ℕ) (ids : List ℕ) (is : count ≡ named ids) (few : count < 2 ^ 62) (fits : All (λ n. n < 2 ^ 64) ids) where
  known : All (λ id. (id ≡ NULL_ID) ⊎ (id < count)) ids
  known k d lt = subst (λ (n : ℕ). (get_or ids k d ≡ NULL_ID) ⊎ (get_or ids k d < n)) (sym is) (ids_named 0 ids k d lt)

  range_fits : All (λ n. n < 2 ^ 64) (range_with_len 0 count)
  range_fits k d lt = let low : k < count = omega (arith, lt, length-range_with_len 0 count) in omega (arith, get_or-range_with_len 0 count k d low, low, few)

  from_none : 0 + count ≡ count
  from_none = omega arith

  all_named : named (all_ids count ids) ≡ count
  all_named = fold-append step 0 (range_with_len 0 count) ids ∙ ap (λ n. fold step n ids) (named_range 0 count (omega (arith, few)) ∙ from_none) ∙ named_known count ids known

  all_fields : AreFields kind.Symbol (all_ids count ids)
  all_fields = record {
    fit = All-append (λ n. n < 2 ^ 64) (range_with_len 0 count) ids range_fits fits;
    kept = range_kept 0 count ids (omega (arith, few)) (subst (λ (n : ℕ). All (λ id. (id ≡ NULL_ID) ⊎ (id < n)) ids) (sym from_none) known);
  }

  -- they name the texts of a dictionary, all of them in order
  pub all_symbols : (texts : List (List ℕ)) → AreDistinct texts → All (λ t. length t ≤ 65535) texts → length texts ≡ count → AreSymbols texts (all_ids count ids)
  all_symbols texts distinct short size = are_symbols texts (all_ids count ids) distinct short all_fields (size ∙ sym all_named)

  -- the rows behind those that name each text
  rows_left : (texts : List (List ℕ)) → drop count (map (symbol_cell texts) (all_ids count ids)) ≡ map (symbol_cell texts) ids
  rows_left texts =
      let front = map (symbol_cell texts) (range_with_len 0 count) in
      let size : length front ≡ count = length-map (range_with_len 0 count) (symbol_cell texts) ∙ length-range_with_len 0 count in
      ap (drop count) (map-append (symbol_cell texts) (range_with_len 0 count) ids) ∙ drop_at front (map (symbol_cell texts) ids) count size

  pub rows_behind : (texts : List (List ℕ)) → slice_range (map (symbol_cell texts) (all_ids count ids)) count (count + length ids) ≡ map (symbol_cell texts) ids
  rows_behind texts = ap (take (count + length ids - count)) (rows_left texts) ∙ take_all (count + length ids - count) (map (symbol_cell texts) ids) (omega (arith, length-map ids (symbol_cell texts)))

  pub part_is : {E : Type 0} (r : Result CellsOf E) (whole : CellsOf) (texts : List (List ℕ)) (items : List ℕ) → items ≡ all_ids count ids → whole ≡ column_of kind.Symbol (map (symbol_cell texts) items)
      → IfOk r (λ (column : CellsOf). column ≡ column_of whole.kind (slice_range whole.cells count (count + length ids))) → IfOk r (λ (column : CellsOf). column ≡ column_of kind.Symbol (map (symbol_cell texts) ids))
  part_is r whole texts items all made had = IfOk-weaker r (λ (column : CellsOf). column ≡ column_of whole.kind (slice_range whole.cells count (count + length ids))) (λ (column : CellsOf). column ≡ column_of kind.Symbol (map (symbol_cell texts) ids))
      (λ column h. h ∙ ap (λ (w : CellsOf). column_of w.kind (slice_range w.cells count (count + length ids))) (made ∙ ap (λ (l : List ℕ). column_of kind.Symbol (map (symbol_cell texts) l)) all) ∙ ap (column_of kind.Symbol) (rows_behind texts)) had

  -- they are held behind those
  pub symbols_kept : (start : ℕ) (main aux more : List ℕ) (texts : List (List ℕ)) → AreDistinct texts → All (λ t. length t ≤ 65535) texts → length texts ≡ count → BeginsWith aux (flat_map stored_text texts) → length ids < 2 ^ 62 → main ≡ flat_map (little_bytes 8) ids ++ more → IsHeldRest start main aux (column_of kind.Symbol (map (symbol_cell texts) ids))
  symbols_kept start main aux more texts distinct short size begins low at =
      let all = all_ids count ids in
      let are = all_symbols texts distinct short size in
      let has = symbol_column texts all are distinct (omega (arith, size, few)) all_fields.fit in
      let long : length all < 2 ^ 63 = omega (arith, length-append (range_with_len 0 count) ids, length-range_with_len 0 count, few, low) in
      let cells = map (symbol_cell texts) all in
      let numbers : drop (count * 8) (flat_map (little_bytes 8) (fields_of kind.Symbol cells)) ≡ flat_map (little_bytes 8) ids = ap (λ (fs : List ℕ). drop (count * 8) (flat_map (little_bytes 8) fs)) has.are
      ∙ bytes_dropped kind.Symbol all count (omega (arith, length-append (range_with_len 0 count) ids, length-range_with_len 0 count))
      ∙ ap (flat_map (little_bytes 8)) (drop_at (range_with_len 0 count) ids count (length-range_with_len 0 count)) in
      record {
        skip = count;
        whole = column_of kind.Symbol cells;
        held = record {
          stored = column_itself (column_of kind.Symbol cells) all has long;
          rows = (more, at ∙ ap (λ (l : List ℕ). l ++ more) (sym numbers));
          texts = subst (λ (ts : List (List ℕ)). BeginsWith aux (flat_map stored_text ts)) (sym are.appeared) begins;
          place = λ e. absurd (other e);
        };
        is = ap (column_of kind.Symbol) (sym (rows_left texts));
      }
    where
      other : kind.Symbol ≡ kind.Varchar → ⊥
      other e = cc

-- the first of distinct texts are distinct
each_front : (P : List ℕ → Type 0) (n : ℕ) (xs : List (List ℕ)) → AllByRecursion P xs → AllByRecursion P (take n xs)
each_front P zero xs h = tt
each_front P (suc n) [] h = tt
each_front P (suc n) (x ∷ xs) h = (h.0, each_front P n xs h.1)

distinct_front : (n : ℕ) (xs : List (List ℕ)) → AreDistinct xs → AreDistinct (take n xs)
unfolding IsDistinct
distinct_front zero xs h = tt
distinct_front (suc n) [] h = tt
distinct_front (suc n) (x ∷ xs) h = (each_front _ n xs h.0, distinct_front n xs h.1)

-- ids that name none but the first texts
first_named : (n : ℕ) (texts : List (List ℕ)) (ids : List ℕ) → All (λ id. (id ≡ NULL_ID) ⊎ (id < n)) ids → map (symbol_cell (take n texts)) ids ≡ map (symbol_cell texts) ids
first_named n texts [] each = refl
first_named n texts (id ∷ ids) each = ap₂ (λ a b. a ∷ b) (one (each zero 0 (omega arith))) (first_named n texts ids (λ k d lt. each (suc k) d (omega (arith, lt))))
  where
    one : (id ≡ NULL_ID) ⊎ (id < n) → symbol_cell (take n texts) id ≡ symbol_cell texts id
    one (inl null) = ap (symbol_cell (take n texts)) null ∙ sym (ap (symbol_cell texts) null)
    one (inr low) = ap (λ (t : List ℕ). cond (eqb id NULL_ID) cell.Null (cell.Text t)) (get_or-take n texts id [] low)

-- fewer ids name no more texts
named_most : (m most : ℕ) (ids : List ℕ) → m ≤ most → All (λ id. (id ≡ NULL_ID) ⊎ (id < most)) ids → fold step m ids ≤ most
named_most m most [] le each = le
named_most m most (id ∷ ids) le each = named_most (step m id) most ids (one (each zero 0 (omega arith))) (λ k d lt. each (suc k) d (omega (arith, lt)))
  where
    one : (id ≡ NULL_ID) ⊎ (id < most) → step m id ≤ most
    one (inl null) = rw null le
    one (inr low) = elim (cases_eq id NULL_ID) [
      | inl null ↦ rw null le
      | inr some ↦ rw (ne_eqb id NULL_ID some) (omega (arith, low, le))
    ]

module _ (skip start rows : ℕ) (main aux : List ℕ) (cells : List Cell) (size : length cells ≡ skip + rows) (h : HoldsRest skip start main aux (column_of kind.Symbol cells)) where
  abbrev whole_texts : List (List ℕ)
  whole_texts = texts_in cells

  abbrev whole_ids : List ℕ
  whole_ids = map (id_field whole_texts) cells

  few_whole : length whole_texts < 2 ^ 63
  few_whole = let few = h.stored.few in let most = few_texts [] cells in omega (arith, few, most)

  -- the ids that are read are those of the rows
  pub ids_read : (ids more : List ℕ) → main ≡ flat_map (little_bytes 8) ids ++ more → length ids ≡ rows → All (λ n. n < 256 ^ 8) ids → ids ≡ drop skip whole_ids
  ids_read ids more is count fits =
      let long : length (drop skip whole_ids) ≡ rows = omega (arith, ap length (take-append-drop skip whole_ids), length-append (take skip whole_ids) (drop skip whole_ids), length-take-le skip whole_ids (omega (arith, size, length-map cells (id_field whole_texts))), size, length-map cells (id_field whole_texts)) in
      words_are main ids (drop skip whole_ids) more is (numbers_held skip start main aux (column_of kind.Symbol cells) (omega (arith, size)) h) (count ∙ sym long) fits (All-drop (λ n. n < 256 ^ 8) skip whole_ids h.stored.fit)

  module _ (ids : List ℕ) (are : ids ≡ drop skip whole_ids) (count : ℕ) (is : count ≡ named ids) where
    pub within : count ≤ length whole_texts
    within =
        let all : named whole_ids ≡ length whole_texts = (ids_are_fields cells h.stored.few).1 in
        let known : All (λ id. (id ≡ NULL_ID) ⊎ (id < length whole_texts)) (drop skip whole_ids) = All-drop (λ id. (id ≡ NULL_ID) ⊎ (id < length whole_texts)) skip whole_ids (subst (λ (n : ℕ). All (λ id. (id ≡ NULL_ID) ⊎ (id < n)) whole_ids) all (ids_named 0 whole_ids)) in
        let most = named_most 0 (length whole_texts) (drop skip whole_ids) (omega arith) known in
        omega (arith, is, ap named are, most)

    -- the texts that they name stand first in the second file
    pub first_short : All (λ t. length t ≤ 65535) (take count whole_texts)
    first_short = All-take (λ t. length t ≤ 65535) count whole_texts (short_texts [] cells h.stored.cells (λ k d lt. absurd (omega (arith, lt))))

    pub first_distinct : AreDistinct (take count whole_texts)
    first_distinct = distinct_front count whole_texts (distinct_texts [] cells none_distinct)

    pub first_count : length (take count whole_texts) ≡ count
    first_count = length-take-le count whole_texts within

    pub first_begin : BeginsWith aux (flat_map stored_text (take count whole_texts))
    first_begin =
        let split : flat_map stored_text whole_texts ≡ flat_map stored_text (take count whole_texts) ++ flat_map stored_text (drop count whole_texts) = ap (flat_map stored_text) (sym (take-append-drop count whole_texts)) ∙ flat_map-append stored_text (take count whole_texts) (drop count whole_texts) in
        begins_append aux (flat_map stored_text (take count whole_texts)) (flat_map stored_text (drop count whole_texts)) (subst (BeginsWith aux) split h.texts)

    -- there are bytes for them
    pub first_room : 2 * count ≤ length aux
    first_room = omega (arith, first_count, stored_long (take count whole_texts), ap length first_begin.1, length-append (flat_map stored_text (take count whole_texts)) first_begin.0)
      where
        stored_long : (ts : List (List ℕ)) → 2 * length ts ≤ length (flat_map stored_text ts)
        stored_long [] = omega arith
        stored_long (t ∷ ts) = let rest = stored_long ts in omega (arith, rest, length-append (stored_text t) (flat_map stored_text ts), length-append (little_bytes 2 (length t)) t)

    -- a dictionary of so many texts of these bytes has those, and the rows' ids stand for the rows
    pub symbols_rest : OneDictionaryIsSpelled → (texts : List (List ℕ)) → length texts ≡ count → All (λ t. length t ≤ 65535) texts → BeginsWith aux (flat_map stored_text texts) → map (symbol_cell texts) ids ≡ drop skip cells
    symbols_rest one texts many short begins =
        let same : texts ≡ take count whole_texts = one aux texts (take count whole_texts) (many ∙ sym first_count) short first_short begins first_begin in
        let known : All (λ id. (id ≡ NULL_ID) ⊎ (id < count)) ids = subst (λ (n : ℕ). All (λ id. (id ≡ NULL_ID) ⊎ (id < n)) ids) (sym is) (ids_named 0 ids) in
        ap (λ (t : List (List ℕ)). map (symbol_cell t) ids) same
        ∙ first_named count whole_texts ids known
        ∙ ap (map (symbol_cell whole_texts)) are
        ∙ sym (drop-map (symbol_cell whole_texts) skip whole_ids)
        ∙ ap (drop skip) (symbols_back [] whole_texts cells refl (omega (arith, few_whole)) h.stored.cells)
