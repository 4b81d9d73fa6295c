-- What columns are spelled by, and what their rows add.
use Rattle.std.proofs.Common.{◌≡◌, ℕ, ℤ, suc, ◌*◌, ◌%◌, ◌^◌, ◌<◌, ◌≤◌, inl, inr, Bool, true, false, cond, List, [], ◌∷◌, ◌++◌, length, map, take, drop, get_or, refl, sym, ap, ◌∙◌, arith, All}
use Rattle.std.specs.List.{flat_map}
use Rattle.std.specs.Int.{w64, cast_unsigned}
use Rattle.std.proofs.lemmas.Bool.Decides.{eqb_tells, Decides-int_eq}
use Rattle.std.specs.Ordering.{int_eq}
use Rattle.std.proofs.lemmas.List.{take-append-drop, take-map, length-map, length-take-le, get_or-map}
use Rattle.std.proofs.lemmas.Grind.{flat_map-append}
use Rattle.byteorder.specs.Endian.{little_bytes}
use Rattle.qd_base.specs.declared.cell.Cell.{Cell}
use Rattle.qd_base.specs.declared.cell.Cell.TheVariants as cell
use Rattle.qd_base.specs.declared.limits.TheConstants.{NULL_LONG, NULL_TIME}
use Rattle.qd_base.specs.declared.schema.ColType.{ColType}
use Rattle.qd_base.specs.declared.schema.ColType.TheVariants as kind
use Rattle.qd_column.specs.Cells.{CellsOf, long_cell, time_cell}
use Rattle.qd_column.specs.Symbols.{texts_in}
use Rattle.qd_column_format.specs.Fields.{field_size, field_bytes, fields_of, bytes_of_fields, long_of, time_field, truth_field, id_field, AreFields}
use Rattle.qd_column_format.specs.Spelling.{main_of, IsStorable, SpellsColumn}
use Rattle.qd_column_format.specs.Added.{first_rows}
use Rattle.qd_column_format.proofs.FieldLemmas.{length-words}
use Rattle.qd_column_format.proofs.SymbolLemmas.{ids_are_fields, first_ids}
use Rattle.qd_column_format.proofs.TextLemmas.{length-marks, marks_are_fields, first_marks}

-- a number for each row
pub length-fields : (k : ColType) (cells : List Cell) → length (fields_of k cells) ≡ length cells
length-fields kind.Long cells = length-map cells (λ c. cast_unsigned w64 (long_of c))
length-fields kind.Bool cells = length-map cells truth_field
length-fields kind.Symbol cells = length-map cells (id_field (texts_in cells))
length-fields kind.Varchar cells = length-marks 0 cells
length-fields kind.Time cells = length-map cells time_field

-- the first rows have the first numbers
pub first_fields : (k : ColType) (cells : List Cell) (n : ℕ) → fields_of k (take n cells) ≡ take n (fields_of k cells)
first_fields kind.Long cells n = sym (take-map (λ c. cast_unsigned w64 (long_of c)) n cells)
first_fields kind.Bool cells n = sym (take-map truth_field n cells)
first_fields kind.Symbol cells n = first_ids cells n
first_fields kind.Varchar cells n = first_marks 0 cells n
first_fields kind.Time cells n = sym (take-map time_field n cells)

-- what rows add to the main file, and where
pub main_added : (column : CellsOf) (n : ℕ) → main_of (first_rows n column) ++ bytes_of_fields column.kind (drop n (fields_of column.kind column.cells)) ≡ main_of column
main_added column n =
    let fields = fields_of column.kind column.cells in
    let more = drop n fields in
    ap (λ fs. bytes_of_fields column.kind fs ++ bytes_of_fields column.kind more) (first_fields column.kind column.cells n) ∙ sym (flat_map-append (field_bytes column.kind) (take n fields) more) ∙ ap (bytes_of_fields column.kind) (take-append-drop n fields)

pub main_place : (column : CellsOf) (n : ℕ) → n ≤ length column.cells → length (main_of (first_rows n column)) ≡ n * field_size column.kind
main_place column n le =
    length-words (field_size column.kind) (fields_of column.kind (take n column.cells)) ∙ ap (λ m. m * field_size column.kind) (length-fields column.kind (take n column.cells) ∙ length-take-le n column.cells le)

-- numbers of cells that can be stored keep the rules
fields_kept : (k : ColType) (cells : List Cell) → All (IsStorable k) cells → All (λ n. n < 256 ^ field_size k) (fields_of k cells) → length cells < 2 ^ 63 → AreFields k (fields_of k cells)
fields_kept kind.Long cells each fit few = record { fit = fit; kept = λ i h. tt }
fields_kept kind.Bool cells each fit few = record { fit = fit; kept = λ i h. rw (get_or-map truth_field cells i cell.Null 0 (omega (arith, length-map cells truth_field))) (small (get_or cells i cell.Null)) }
  where
    small : (c : Cell) → truth_field c < 2
    small cell.Null = omega arith
    small (cell.Long x) = omega arith
    small (cell.Bool true) = omega arith
    small (cell.Bool false) = omega arith
    small (cell.Text t) = omega arith
    small (cell.Time t) = omega arith
fields_kept kind.Symbol cells each fit few = (ids_are_fields cells few).0
fields_kept kind.Varchar cells each fit few = marks_are_fields cells each fit
fields_kept kind.Time cells each fit few = record { fit = fit; kept = λ i h. tt }

pub spelled_fields : (main aux : List ℕ) (column : CellsOf) → SpellsColumn main aux column → AreFields column.kind (fields_of column.kind column.cells)
spelled_fields main aux column s = fields_kept column.kind column.cells s.cells s.fit s.few

-- the numbers of LONG and TIMESTAMP cells
long_again : (x : ℤ) → long_of (long_cell x) ≡ x
long_again x = go (int_eq x NULL_LONG) refl
  where
    go : (b : Bool) → int_eq x NULL_LONG ≡ b → long_of (cond b cell.Null (cell.Long x)) ≡ x
    go true e = sym ((Decides-int_eq x NULL_LONG).0 e)
    go false e = refl

pub longs_again : (xs : List ℤ) → fields_of kind.Long (map long_cell xs) ≡ map (cast_unsigned w64) xs
longs_again [] = refl
longs_again (x ∷ xs) = ap (λ z. cast_unsigned w64 z ∷ fields_of kind.Long (map long_cell xs)) (long_again x) ∙ ap (λ l. cast_unsigned w64 x ∷ l) (longs_again xs)

time_again : (t : ℕ) → time_field (time_cell t) ≡ t
time_again t = elim (eqb_tells t NULL_TIME) [ inl is ↦ rw is.0 (sym is.1) | inr other ↦ rw other.0 refl ]

pub times_again : (ts : List ℕ) → fields_of kind.Time (map time_cell ts) ≡ ts
times_again [] = refl
times_again (t ∷ ts) = ap (λ n. n ∷ fields_of kind.Time (map time_cell ts)) (time_again t) ∙ ap (λ l. t ∷ l) (times_again ts)

pub truths_again : (bs : List Bool) → fields_of kind.Bool (map (λ b. cell.Bool b) bs) ≡ map (λ b. truth_field (cell.Bool b)) bs
truths_again [] = refl
truths_again (b ∷ bs) = ap (λ l. truth_field (cell.Bool b) ∷ l) (truths_again bs)

pub flat_map-map : {X Y Z : Type 0} (f : Y → List Z) (g : X → Y) (xs : List X) → flat_map f (map g xs) ≡ flat_map (λ x. f (g x)) xs
flat_map-map f g [] = refl
flat_map-map f g (x ∷ xs) = ap (λ l. f (g x) ++ l) (flat_map-map f g xs)

-- numbers of one byte are their bytes
pub single_bytes : (bs : List ℕ) → All (λ b. b < 256) bs → flat_map (little_bytes 1) bs ≡ bs
single_bytes [] h = refl
single_bytes (b ∷ bs) h = let small = h 0 0 (omega arith) in let is : b % 256 ≡ b = omega arith in ap (λ n. n ∷ flat_map (little_bytes 1) bs) is ∙ ap (λ l. b ∷ l) (single_bytes bs (λ k d lt. h (suc k) d (omega arith)))
