-- Columns of each kind, by the numbers of their rows.
use Rattle.std.proofs.Common.{◌≡◌, ◌≢◌, ℕ, ℤ, zero, suc, ◌*◌, ◌^◌, ◌<◌, ◌≤◌, ◌≤ℤ◌, ◌<ℤ◌, pos, negsuc, inl, inr, ⊎_elim, Bool, true, false, cond, List, [], ◌∷◌, ◌++◌, length, length-append, map, fold, ◌-◌, take, drop, get_or, refl, sym, ap, ◌∙◌, arith, All, subst, append-nil, FitsSigned}
use Rattle.std.specs.List.{flat_map}
use Rattle.std.specs.Int.{w64, cast_unsigned}
use Rattle.std.specs.Ordering.{int_eq}
use Rattle.std.proofs.lemmas.Bool.Decides.{eqb_tells, Decides-int_eq}
use Rattle.std.proofs.lemmas.Bool.{false≢true}
use Rattle.std.proofs.lemmas.Int.{ints}
use Rattle.std.proofs.lemmas.List.{length-map, take-append-drop, take_all, take_at, get_or_default}
use Rattle.std.proofs.lemmas.List.Sums.{fold-append}
use Rattle.std.proofs.lemmas.Grind.{flat_map-append}
use Rattle.qd_base.specs.declared.cell.Cell.{Cell}
use Rattle.qd_base.specs.declared.cell.Cell.TheVariants as cell
use Rattle.qd_base.specs.declared.limits.TheConstants.{MAX_LONG, NULL_ID, NULL_LONG, NULL_TIME}
use Rattle.qd_base.specs.declared.schema.ColType.{ColType}
use Rattle.qd_base.specs.declared.schema.ColType.TheVariants as kind
use Rattle.qd_base.specs.Dictionary.{AreDistinct}
use Rattle.qd_base.proofs.Texts.{none_distinct}
use Rattle.qd_column.specs.Cells.{CellsOf, long_cell, time_cell}
use Rattle.qd_column.specs.Symbols.{texts_in, symbol_cell, IsIdOf, AreSymbols}
use Rattle.qd_column.specs.Texts.{cells_from, Tile}
use Rattle.qd_column_format.specs.declared.encode.ColumnBytes.{ColumnBytes}
use Rattle.qd_column_format.specs.Fields.{named, end_of, field_size, fields_of, bytes_of_fields, truth_field, id_field}
use Rattle.qd_column_format.specs.Spelling.{stored_text, text_bytes, main_of, aux_of, IsStorable, BeginsWith, SpellsColumn}
use Rattle.qd_column_format.specs.Reading.{IsReadColumn}
use Rattle.qd_column_format.specs.Added.{column_of, first_rows, IsAdded}
use Rattle.qd_column_format.proofs.SpellingLemmas.{longs_again, times_again, truths_again, length-fields, main_added, main_place}
use Rattle.qd_column_format.proofs.SymbolLemmas.{ids_again, first_texts, ids_are_fields, distinct_texts, few_texts, step, named_grows}
use Rattle.qd_column_format.proofs.TextLemmas.{marks_again, texts_again, cells_storable, first_marks, end_of_marks}

-- a column of cells that can be stored, and the numbers of its rows
pub record HasFields (column : CellsOf) (fields : List ℕ) : Type 0 where
  pub are : fields_of column.kind column.cells ≡ fields
  pub storable : All (IsStorable column.kind) column.cells
  pub fit : All (λ n. n < 256 ^ field_size column.kind) (fields_of column.kind column.cells)

map_all : {X Y : Type 0} (P : Y → Type 0) (Q : X → Type 0) (f : X → Y) → ((x : X) → Q x → P (f x)) → (xs : List X) → All Q xs → All P (map f xs)
map_all P Q f h [] each k d lt = absurd (omega arith)
map_all P Q f h (x ∷ xs) each zero d lt = h x (each zero x (omega arith))
map_all P Q f h (x ∷ xs) each (suc k) d lt = map_all P Q f h xs (λ j e low. each (suc j) e (omega arith)) k d (omega arith)

all_true : {X : Type 0} (P : X → Type 0) → ((x : X) → P x) → (xs : List X) → All P xs
all_true P h xs k d lt = h (get_or xs k d)

pub all_fit : (xs : List ℕ) → ((i : ℕ) → get_or xs i 0 < 2 ^ 64) → All (λ n. n < 2 ^ 64) xs
all_fit xs h k d lt = subst (λ n. n < 2 ^ 64) (get_or_default xs k 0 d lt) (h k)

long_storable : (x : ℤ) → FitsSigned w64 x → IsStorable kind.Long (long_cell x)
long_storable x fits = go (int_eq x NULL_LONG) refl
  where
    low : (z : ℤ) → FitsSigned w64 z → z ≢ NULL_LONG → NULL_LONG <ℤ z
    low (pos n) h other = omega (arith, ints)
    low (negsuc n) h other = let room = h.sfits in let some : n ≢ 9223372036854775807 = λ e. other (ap negsuc e) in omega (arith, ints)

    high : (z : ℤ) → FitsSigned w64 z → z ≤ℤ MAX_LONG
    high (pos n) h = let room = h.sfits in omega (arith, ints)
    high (negsuc n) h = omega (arith, ints)

    go : (b : Bool) → int_eq x NULL_LONG ≡ b → IsStorable kind.Long (cond b cell.Null (cell.Long x))
    go true e = tt
    go false e = let other : x ≢ NULL_LONG = λ same. false≢true (sym e ∙ (Decides-int_eq x NULL_LONG).1 same) in (low x fits other, high x fits)

long_small : (x : ℤ) → FitsSigned w64 x → cast_unsigned w64 x < 256 ^ 8
long_small (pos n) h = let room = h.sfits in omega arith
long_small (negsuc n) h = omega arith

pub long_column : (xs : List ℤ) → All (FitsSigned w64) xs → HasFields (column_of kind.Long (map long_cell xs)) (map (cast_unsigned w64) xs)
long_column xs fits =
    record {
      are = longs_again xs;
      storable = map_all (IsStorable kind.Long) (FitsSigned w64) long_cell long_storable xs fits;
      fit = subst (All (λ n. n < 256 ^ 8)) (sym (longs_again xs)) (map_all (λ n. n < 256 ^ 8) (FitsSigned w64) (cast_unsigned w64) long_small xs fits);
    }

time_storable : (t : ℕ) → t < 2 ^ 64 → IsStorable kind.Time (time_cell t)
time_storable t h = elim (eqb_tells t NULL_TIME) [ inl null ↦ rw null.0 tt | inr some ↦ rw some.0 (let other = some.1 in omega arith) ]

pub time_column : (ts : List ℕ) → All (λ t. t < 2 ^ 64) ts → HasFields (column_of kind.Time (map time_cell ts)) ts
time_column ts fits =
    record {
      are = times_again ts;
      storable = map_all (IsStorable kind.Time) (λ t. t < 2 ^ 64) time_cell time_storable ts fits;
      fit = subst (All (λ n. n < 256 ^ 8)) (sym (times_again ts)) fits;
    }

truth_small : (b : Bool) → truth_field (cell.Bool b) < 256
truth_small true = omega arith
truth_small false = omega arith

pub truths_small : (bs : List Bool) → All (λ n. n < 256) (map (λ b. truth_field (cell.Bool b)) bs)
truths_small bs = map_all (λ n. n < 256) (λ b. Unit {0}) (λ b. truth_field (cell.Bool b)) (λ b h. truth_small b) bs (all_true (λ b. Unit {0}) (λ b. tt) bs)

pub truths_one : (bs : List Bool) → All (λ n. n < 2) (map (λ b. truth_field (cell.Bool b)) bs)
truths_one bs = map_all (λ n. n < 2) (λ b. Unit {0}) (λ b. truth_field (cell.Bool b)) (λ b h. one b) bs (all_true (λ b. Unit {0}) (λ b. tt) bs)
  where
    one : (b : Bool) → truth_field (cell.Bool b) < 2
    one true = omega arith
    one false = omega arith

pub truth_column : (bs : List Bool) → HasFields (column_of kind.Bool (map (λ b. cell.Bool b) bs)) (map (λ b. truth_field (cell.Bool b)) bs)
truth_column bs =
    record {
      are = truths_again bs;
      storable = map_all (IsStorable kind.Bool) (λ b. Unit {0}) (λ b. cell.Bool b) (λ b h. tt) bs (all_true (λ b. Unit {0}) (λ b. tt) bs);
      fit = subst (All (λ n. n < 256 ^ 1)) (sym (truths_again bs)) (map_all (λ n. n < 256 ^ 1) (λ b. Unit {0}) (λ b. truth_field (cell.Bool b)) (λ b h. truth_small b) bs (all_true (λ b. Unit {0}) (λ b. tt) bs));
    }

symbol_storable : (texts : List (List ℕ)) → All (λ t. length t ≤ 65535) texts → (id : ℕ) → IsIdOf texts id → IsStorable kind.Symbol (symbol_cell texts id)
symbol_storable texts short id known =
    elim (eqb_tells id NULL_ID) [
      | inl null ↦ rw null.0 tt
      | inr some ↦ rw some.0 (short id [] (⊎_elim (λ e. absurd (some.1 e)) (λ lt. lt) known))
    ]

pub symbol_column : (texts : List (List ℕ)) (ids : List ℕ) → AreSymbols texts ids → AreDistinct texts → length texts < 2 ^ 64 → All (λ n. n < 2 ^ 64) ids → HasFields (column_of kind.Symbol (map (symbol_cell texts) ids)) ids
symbol_column texts ids are distinct few fits =
    let cells = map (symbol_cell texts) ids in
    let same : fields_of kind.Symbol cells ≡ ids = ap (λ t. map (id_field t) cells) are.appeared ∙ ids_again texts ids distinct (omega arith) are.each in
    record {
      are = same;
      storable = map_all (IsStorable kind.Symbol) (IsIdOf texts) (symbol_cell texts) (symbol_storable texts are.short) ids are.each;
      fit = subst (All (λ n. n < 256 ^ 8)) (sym same) fits;
    }

pub text_column : (bytes marks : List ℕ) → Tile 0 marks (length bytes) → All (λ n. n < 2 ^ 64) marks → HasFields (column_of kind.Varchar (cells_from bytes 0 marks)) marks
text_column bytes marks tile fits =
    let same : fields_of kind.Varchar (cells_from bytes 0 marks) ≡ marks = marks_again bytes 0 (length bytes) marks tile (omega arith) in
    record {
      are = same;
      storable = cells_storable bytes (length bytes) marks tile;
      fit = subst (All (λ n. n < 256 ^ 8)) (sym same) fits;
    }

-- bytes that begin with the numbers of a column and with its texts spell it
pub column_spelled : (column : CellsOf) (fields main aux : List ℕ) → HasFields column fields → length fields < 2 ^ 63 → BeginsWith main (bytes_of_fields column.kind fields) → BeginsWith aux (aux_of column) → SpellsColumn main aux column
column_spelled column fields main aux has few b a =
    record {
      cells = has.storable;
      main_bytes = subst (λ fs. BeginsWith main (bytes_of_fields column.kind fs)) (sym has.are) b;
      aux_bytes = a;
      fit = has.fit;
      few = omega (arith, ap length has.are, length-fields column.kind column.cells);
    }

pub column_read : (column : CellsOf) (fields main aux : List ℕ) (rows : ℕ) → HasFields column fields → length fields ≡ rows → rows < 2 ^ 63 → BeginsWith main (bytes_of_fields column.kind fields) → BeginsWith aux (aux_of column) → IsReadColumn column.kind rows main aux column
column_read column fields main aux rows has size few b a =
    record {
      kind = refl;
      rows = sym (length-fields column.kind column.cells) ∙ ap length has.are ∙ size;
      spelled = column_spelled column fields main aux has (omega arith) b a;
    }

-- a column spells itself
pub column_itself : (column : CellsOf) (fields : List ℕ) → HasFields column fields → length fields < 2 ^ 63 → SpellsColumn (main_of column) (aux_of column) column
column_itself column fields has few =
    column_spelled column fields (main_of column) (aux_of column) has few ([], ap (bytes_of_fields column.kind) has.are ∙ sym (append-nil (bytes_of_fields column.kind fields))) ([], sym (append-nil (aux_of column)))

-- what rows add to the main file, by the numbers of all rows
pub numbers_added : (column : CellsOf) (fields : List ℕ) (n : ℕ) → HasFields column fields → n ≤ length fields → (main_of (first_rows n column) ++ bytes_of_fields column.kind (drop n fields) ≡ main_of column) × (length (main_of (first_rows n column)) ≡ n * field_size column.kind)
numbers_added column fields n has le =
    (ap (λ fs. main_of (first_rows n column) ++ bytes_of_fields column.kind (drop n fs)) (sym has.are) ∙ main_added column n, main_place column n (omega (arith, ap length has.are, length-fields column.kind column.cells)))

-- a column without texts, and what its rows add
pub plain_added : (k : ColType) (cells : List Cell) (fields : List ℕ) (n : ℕ) (bytes : ColumnBytes) → HasFields (column_of k cells) fields → n ≤ length fields → aux_of (column_of k cells) ≡ [] → aux_of (first_rows n (column_of k cells)) ≡ [] → bytes.main ≡ bytes_of_fields k (drop n fields) → bytes.main_at ≡ n * field_size k → bytes.aux ≡ [] → bytes.aux_at ≡ 0 → IsAdded n (column_of k cells) bytes
plain_added k cells fields n bytes has le none none_first main main_at aux aux_at =
    let column = column_of k cells in
    let added = numbers_added column fields n has le in
    record {
      main = ap (λ l. main_of (first_rows n column) ++ l) main ∙ added.0;
      main_at = main_at ∙ sym added.1;
      aux = ap (λ l. l ++ bytes.aux) none_first ∙ aux ∙ sym none;
      aux_at = aux_at ∙ sym (ap length none_first);
    }

-- a column with texts
pub texts_added : (k : ColType) (cells : List Cell) (fields : List ℕ) (n : ℕ) (bytes : ColumnBytes) → HasFields (column_of k cells) fields → n ≤ length fields → bytes.main ≡ bytes_of_fields k (drop n fields) → bytes.main_at ≡ n * field_size k → aux_of (first_rows n (column_of k cells)) ++ bytes.aux ≡ aux_of (column_of k cells) → bytes.aux_at ≡ length (aux_of (first_rows n (column_of k cells))) → IsAdded n (column_of k cells) bytes
texts_added k cells fields n bytes has le main main_at aux aux_at =
    let column = column_of k cells in
    let added = numbers_added column fields n has le in
    record {
      main = ap (λ l. main_of (first_rows n column) ++ l) main ∙ added.0;
      main_at = main_at ∙ sym added.1;
      aux = aux;
      aux_at = aux_at;
    }

-- the texts of a dictionary, from those on that the first rows name
pub symbols_front : (texts : List (List ℕ)) (ids : List ℕ) (n : ℕ) → AreSymbols texts ids → HasFields (column_of kind.Symbol (map (symbol_cell texts) ids)) ids → length ids < 2 ^ 63 → (aux_of (column_of kind.Symbol (map (symbol_cell texts) ids)) ≡ flat_map stored_text texts) × (aux_of (first_rows n (column_of kind.Symbol (map (symbol_cell texts) ids))) ≡ flat_map stored_text (take (named (take n ids)) texts))
symbols_front texts ids n are has few =
    let cells = map (symbol_cell texts) ids in
    let count = length-map ids (symbol_cell texts) in
    let front : texts_in (take n cells) ≡ take (named (take n ids)) texts = first_texts cells n (omega arith) ∙ ap (λ fs. take (named (take n fs)) (texts_in cells)) has.are ∙ ap (take (named (take n ids))) are.appeared in
    (ap (flat_map stored_text) are.appeared, ap (flat_map stored_text) front)

-- the texts of a dictionary are distinct
pub symbols_distinct : (texts : List (List ℕ)) (ids : List ℕ) → AreSymbols texts ids → AreDistinct texts
symbols_distinct texts ids are = subst AreDistinct are.appeared (distinct_texts [] (map (symbol_cell texts) ids) none_distinct)

pub symbols_few : (texts : List (List ℕ)) (ids : List ℕ) → AreSymbols texts ids → length texts ≤ length ids
symbols_few texts ids are = let few = few_texts [] (map (symbol_cell texts) ids) in omega (arith, few, ap length are.appeared, length-map ids (symbol_cell texts))

-- how many of them the first rows name
pub named_within : (texts : List (List ℕ)) (ids : List ℕ) (n : ℕ) → AreSymbols texts ids → HasFields (column_of kind.Symbol (map (symbol_cell texts) ids)) ids → length ids < 2 ^ 63 → named (take n ids) ≤ length texts
named_within texts ids n are has few =
    let cells = map (symbol_cell texts) ids in
    let count = length-map ids (symbol_cell texts) in
    let all : named ids ≡ length texts = ap named (sym has.are) ∙ (ids_are_fields cells (omega arith)).1 ∙ ap length are.appeared in
    let split : named ids ≡ fold step (named (take n ids)) (drop n ids) = ap named (sym (take-append-drop n ids)) ∙ fold-append step 0 (take n ids) (drop n ids) in
    let grows = named_grows (named (take n ids)) (drop n ids) in
    omega arith

-- the bytes of texts, from those on that the first rows take
pub texts_front : (bytes marks : List ℕ) (n : ℕ) → Tile 0 marks (length bytes) → (aux_of (column_of kind.Varchar (cells_from bytes 0 marks)) ≡ bytes) × (aux_of (first_rows n (column_of kind.Varchar (cells_from bytes 0 marks))) ≡ take (end_of (take n marks)) bytes) × (end_of (take n marks) ≤ length bytes)
texts_front bytes marks n tile =
    let cells = cells_from bytes 0 marks in
    let all : flat_map text_bytes cells ≡ bytes = texts_again bytes 0 (length bytes) marks tile ∙ take_all (length bytes - 0) bytes (omega arith) in
    let again = marks_again bytes 0 (length bytes) marks tile (omega arith) in
    let front = flat_map text_bytes (take n cells) in
    let split : front ++ flat_map text_bytes (drop n cells) ≡ bytes = sym (flat_map-append text_bytes (take n cells) (drop n cells)) ∙ ap (flat_map text_bytes) (take-append-drop n cells) ∙ all in
    let end : end_of (take n marks) ≡ length front = ap (λ ms. end_of (take n ms)) (sym again) ∙ ap end_of (sym (first_marks 0 cells n)) ∙ (let e = end_of_marks 0 (take n cells) in omega (arith, e)) in
    let size = length-append front (flat_map text_bytes (drop n cells)) in
    (all, sym (take_at front (flat_map text_bytes (drop n cells)) (end_of (take n marks)) (sym end)) ∙ ap (take (end_of (take n marks))) split, omega (arith, end, size, ap length split))

-- a column by its kind and its cells
pub same_column : (column : CellsOf) (k : ColType) (cells : List Cell) → k ≡ column.kind → column.cells ≡ cells → column_of k cells ≡ column
same_column column k cells kinds same = ap (λ (j : ColType). column_of j cells) kinds ∙ ap (column_of column.kind) (sym same)
