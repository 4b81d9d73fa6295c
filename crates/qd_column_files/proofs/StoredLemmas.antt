-- What the bytes of a column are, as far as this crate needs it.
use Rattle.std.proofs.Common.{◌≡◌, ℕ, suc, ◌+◌, ◌*◌, Bool, true, false, cond, ltb, List, [], ◌∷◌, ◌++◌, length, fold, refl, sym, ap, ◌∙◌, arith, append-nil, length-append}
use Rattle.std.specs.List.{flat_map}
use Rattle.std.specs.Int.{cast_unsigned, w64}
use Rattle.std.proofs.lemmas.List.{append_assoc, length-map}
use Rattle.byteorder.specs.Endian.{little_bytes}
use Rattle.byteorder.specs.Numbers.{length-bytes_low_first}
use Rattle.qd_base.specs.declared.cell.Cell.{Cell}
use Rattle.qd_base.specs.declared.cell.Cell.TheVariants as cell
use Rattle.qd_base.specs.declared.schema.ColType.{ColType}
use Rattle.qd_base.specs.declared.schema.ColType.TheVariants as kind
use Rattle.qd_base.specs.Dictionary.{id_for, with_text}
use Rattle.qd_column.specs.Symbols.{texts_in, with_text_of}
use Rattle.qd_column_format.specs.Fields.{fields_of, id_field, long_of, marks_from, time_field, truth_field}

abbrev pub Texts : Type 0
Texts = List (List ℕ)

-- how many bytes numbers take
pub length-words : (n : ℕ) (xs : List ℕ) → length (flat_map (little_bytes n) xs) ≡ length xs * n
length-words n [] = omega arith
length-words n (x ∷ xs) = length-append (little_bytes n x) (flat_map (little_bytes n) xs) ∙ ap (λ m. m + length (flat_map (little_bytes n) xs)) (length-bytes_low_first 0 n x) ∙ ap (λ m. n + m) (length-words n xs) ∙ more n (length xs)
  where
    more : (n m : ℕ) → n + m * n ≡ suc m * n
    more n m = grind arith

length-marks : (start : ℕ) (cells : List Cell) → length (marks_from start cells) ≡ length cells
length-marks start [] = refl
length-marks start (cell.Null ∷ cs) = ap suc (length-marks start cs)
length-marks start (cell.Long x ∷ cs) = ap suc (length-marks start cs)
length-marks start (cell.Bool b ∷ cs) = ap suc (length-marks start cs)
length-marks start (cell.Text t ∷ cs) = ap suc (length-marks (start + length t) cs)
length-marks start (cell.Time t ∷ cs) = ap suc (length-marks start cs)

-- a number for each row
pub length-fields : (k : ColType) (cells : List Cell) → length (fields_of k cells) ≡ length cells
length-fields kind.Long cells = length-map cells (λ c. cast_unsigned w64 (long_of c))
length-fields kind.Bool cells = length-map cells truth_field
length-fields kind.Symbol cells = length-map cells (id_field (texts_in cells))
length-fields kind.Varchar cells = length-marks 0 cells
length-fields kind.Time cells = length-map cells time_field

with_more : (texts : Texts) (t : List ℕ) → (more : Texts) × (with_text texts t ≡ texts ++ more)
with_more texts t = go (ltb (id_for texts t) (length texts))
  where
    go : (b : Bool) → (more : Texts) × (cond b texts (texts ++ t ∷ []) ≡ texts ++ more)
    go true = ([], sym (append-nil texts))
    go false = (t ∷ [], refl)

with_cell_more : (texts : Texts) (c : Cell) → (more : Texts) × (with_text_of texts c ≡ texts ++ more)
with_cell_more texts cell.Null = ([], sym (append-nil texts))
with_cell_more texts (cell.Long x) = ([], sym (append-nil texts))
with_cell_more texts (cell.Bool b) = ([], sym (append-nil texts))
with_cell_more texts (cell.Text t) = with_more texts t
with_cell_more texts (cell.Time t) = ([], sym (append-nil texts))

-- the texts of more cells are more texts
pub texts_more : (texts : Texts) (cells : List Cell) → (more : Texts) × (fold with_text_of texts cells ≡ texts ++ more)
texts_more texts [] = ([], sym (append-nil texts))
texts_more texts (c ∷ cs) =
    let one = with_cell_more texts c in
    let rest = texts_more (with_text_of texts c) cs in
    (one.0 ++ rest.0, rest.1 ∙ ap (λ (l : Texts). l ++ rest.0) one.1 ∙ append_assoc texts one.0 rest.0)
