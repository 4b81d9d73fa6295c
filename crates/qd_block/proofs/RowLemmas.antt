-- The rows of columns, one by one.
use Rattle.std.proofs.Common.{◌≡◌, ℕ, zero, suc, ◌+◌, ◌<◌, List, [], ◌∷◌, ◌++◌, Some, length, map, get_or, refl, sym, ap, ◌∙◌, arith, slice_get}
use Rattle.std.proofs.lemmas.List.{ext_get_or, get_or-map, length-map}
use Rattle.std.proofs.lemmas.List.FromFn.{get_or-map-range_with_len, length-map-range_with_len, map-range_with_len_more}
use Rattle.qd_base.specs.declared.cell.Cell.{Cell}
use Rattle.qd_base.specs.declared.cell.Cell.TheVariants as cell
use Rattle.qd_base.specs.declared.schema.ColType.{ColType}
use Rattle.qd_base.specs.Rows.{Row, cell_at}
use Rattle.qd_column.specs.Cells.{CellsOf, cell_of_row, cells_at}
use Rattle.qd_block.specs.Blocks.{row_at, rows_of, kinds_of}

pub length-rows_of : (n : ℕ) (columns : List CellsOf) → length (rows_of n columns) ≡ n
length-rows_of n columns = length-map-range_with_len (row_at columns) 0 n

pub get_or-rows_of : (n i : ℕ) (columns : List CellsOf) (d : Row) → i < n → get_or (rows_of n columns) i d ≡ row_at columns i
get_or-rows_of n i columns d h = get_or-map-range_with_len (row_at columns) 0 n i i d h (omega arith)

-- rows that are the same one by one
pub rows_same : (n : ℕ) (a b : List CellsOf) → ((i : ℕ) → i < n → row_at a i ≡ row_at b i) → rows_of n a ≡ rows_of n b
rows_same n a b same =
    ext_get_or [] (rows_of n a) (rows_of n b) (length-rows_of n a ∙ sym (length-rows_of n b)) (λ i h. let low : i < n = omega (arith, length-rows_of n a) in get_or-rows_of n i a [] low ∙ same i low ∙ sym (get_or-rows_of n i b [] low))

pub rows_more : (n : ℕ) (columns : List CellsOf) → rows_of (n + 1) columns ≡ rows_of n columns ++ row_at columns n ∷ []
rows_more n columns = map-range_with_len_more (row_at columns) 0 n n (omega arith)

-- the cell of a row in a column
pub cell_at-row_at : (columns : List CellsOf) (i k : ℕ) (d : CellsOf) → k < length columns → cell_at (row_at columns i) k ≡ cell_of_row (get_or columns k d) i
cell_at-row_at columns i k d h = get_or-map (λ (c : CellsOf). cell_of_row c i) columns k d cell.Null h

-- the column of rows
pub column_of_rows : (n k : ℕ) (columns : List CellsOf) (d : CellsOf) → k < length columns → length (get_or columns k d).cells ≡ n → map (λ r. cell_at r k) (rows_of n columns) ≡ (get_or columns k d).cells
column_of_rows n k columns d h size =
    let f : Row → Cell = λ r. cell_at r k in
    let count : length (map f (rows_of n columns)) ≡ n = length-map (rows_of n columns) f ∙ length-rows_of n columns in
    ext_get_or cell.Null (map f (rows_of n columns)) (get_or columns k d).cells (count ∙ sym size) (λ i lt. let low : i < n = omega (arith, count) in get_or-map f (rows_of n columns) i [] cell.Null (omega (arith, length-rows_of n columns)) ∙ ap f (get_or-rows_of n i columns [] low) ∙ cell_at-row_at columns i k d h)

pub kind_at : (columns : List CellsOf) (k : ℕ) (d : CellsOf) (e : ColType) → k < length columns → get_or (kinds_of columns) k e ≡ (get_or columns k d).kind
kind_at columns k d e h = get_or-map (λ (c : CellsOf). c.kind) columns k d e h

-- what is got is there
pub got_there : {X : Type 0} (xs : List X) (i : ℕ) (x : X) → slice_get xs i ≡ Some x → i < length xs
got_there [] i x e = cc
got_there (y ∷ ys) zero x e = omega arith
got_there (y ∷ ys) (suc i) x e = let h = got_there ys i x e in omega arith

-- the rows at chosen places
pub rows_chosen : (columns : List CellsOf) (places : List ℕ) → rows_of (length places) (map (λ (c : CellsOf). cells_at c places) columns) ≡ map (row_at columns) places
rows_chosen columns places =
    let chosen = map (λ (c : CellsOf). cells_at c places) columns in
    let n = length places in
    let row : (i : ℕ) → i < n → row_at chosen i ≡ row_at columns (get_or places i 0) = λ i h. row_chosen columns places i h in
    ext_get_or [] (rows_of n chosen) (map (row_at columns) places) (length-rows_of n chosen ∙ sym (length-map places (row_at columns))) (λ i h. let low : i < n = omega (arith, length-rows_of n chosen) in get_or-rows_of n i chosen [] low ∙ row i low ∙ sym (get_or-map (row_at columns) places i 0 [] low))
  where
    row_chosen : (columns : List CellsOf) (places : List ℕ) (i : ℕ) → i < length places → row_at (map (λ (c : CellsOf). cells_at c places) columns) i ≡ row_at columns (get_or places i 0)
    row_chosen [] places i h = refl
    row_chosen (c ∷ cs) places i h = ap (λ (x : Cell). x ∷ row_at (map (λ (c : CellsOf). cells_at c places) cs) i) (get_or-map (cell_of_row c) places i 0 cell.Null h) ∙ ap (λ (r : Row). cell_of_row c (get_or places i 0) ∷ r) (row_chosen cs places i h)

pub kinds_kept : (columns : List CellsOf) (f : CellsOf → CellsOf) → ((c : CellsOf) → (f c).kind ≡ c.kind) → kinds_of (map f columns) ≡ kinds_of columns
kinds_kept [] f h = refl
kinds_kept (c ∷ cs) f h = ap (λ (k : ColType). k ∷ kinds_of (map f cs)) (h c) ∙ ap (λ (ks : List ColType). c.kind ∷ ks) (kinds_kept cs f h)
