-- A block made of the rows of a part's columns from one on.
use Rattle.std.proofs.Common.{◌≡◌, inl, inr, ℕ, ◌+◌, ◌-◌, ◌<◌, ◌≤◌, Bool, true, List, [], ◌∷◌, ◌++◌, length, length-drop, map, drop, get_or, Option, None, Some, IfSome, Ok, slice_get, refl, sym, ◌∙◌, ap, subst, arith, eq-eqb}
use Rattle.std.proofs.lemmas.List.{ext_get_or, get_or-drop, get_or-map, length-map}
use Rattle.std.proofs.lemmas.List.FromFn.{get_or-map-range_with_len, length-map-range_with_len, map-range_with_len_more}
use Rattle.qd_base.specs.declared.cell.Cell.{Cell}
use Rattle.qd_base.specs.declared.cell.Cell.TheVariants as cell
use Rattle.qd_base.specs.declared.part.Part.{Part}
use Rattle.qd_base.specs.declared.schema.ColType.{ColType}
use Rattle.qd_base.specs.declared.schema.ColType.TheVariants as kind
use Rattle.qd_base.specs.declared.schema.Schema.{Schema}
use Rattle.qd_base.specs.Lawful.{IsSchema}
use Rattle.qd_base.specs.Rows.{Row, cell_at, time_in}
use Rattle.qd_block.specs.Blocks.{Block, block_of, column_in, kinds_of, row_at, rows_of}
use Rattle.qd_block.proofs.RowLemmas.{cell_at-row_at, get_or-rows_of, length-rows_of}
use Rattle.qd_column.specs.Cells.{CellsOf, no_cells}
use Rattle.qd_column_format.specs.Rests.{rows_from}
use Rattle.qd_column_format.specs.Unsorted.{IsFirstUnsorted, IsUnsortedAt, times_in}
use Rattle.qd_manifest.specs.Spelling.{IsPart}
use Rattle.qd_scan.specs.Sources.{IsBlockOf}
use Rattle.qd_volume.specs.Disk.{Disk, Image, reads_of}
use Rattle.qd_column_files.specs.Columns.{AreTimely, is_designated}
use Rattle.qd_column_files.specs.Reading.{IsFitColumn}
use Rattle.qd_column_files.specs.Rests.{AreRestsIn, AreTimedRests, HoldsTimed, IsRestIn, IsRestOf, IsRestRead, IsTimedRest, rest_of, rests_in}
use Rattle.qd_column_files.proofs.LawLemmas.{row_has}
use Rattle.qd_column_files.proofs.MadeLemmas.{each_more}
use Rattle.qd_column_files.proofs.RowsMade.{IsShownColumn, column_made, designated_made, kinds_made, rows_fit, times_long}

-- ---- the times

-- a time that is out of order among the last ones is so among all
unsorted_behind : (skip row : ℕ) (cells : List Cell) → IsUnsortedAt (drop skip cells) row → IsUnsortedAt cells (skip + row)
unsorted_behind skip row cells (inl null) = inl (sym (get_or-drop skip cells row cell.Null) ∙ null)
unsorted_behind skip row cells (inr falls) =
    let here : time_in (get_or (drop skip cells) row cell.Null) ≡ time_in (get_or cells (skip + row) cell.Null) = ap time_in (get_or-drop skip cells row cell.Null) in
    let place : skip + (row - 1) ≡ skip + row - 1 = omega (arith, falls.0) in
    let before : time_in (get_or (drop skip cells) (row - 1) cell.Null) ≡ time_in (get_or cells (skip + row - 1) cell.Null) = ap time_in (get_or-drop skip cells (row - 1) cell.Null) ∙ ap (λ (i : ℕ). time_in (get_or cells i cell.Null)) place in
    inr (omega (arith, falls.0), omega (arith, falls.1, here, before))

module _ (s : Schema) (p : Part) (times : CellsOf) (skip : ℕ) (columns : List CellsOf) (schema : IsSchema s) (part : IsPart s p) (fit : IsFitColumn s p s.time_col times) (within : skip ≤ p.rows) (all : length columns ≡ p.cols) (are : AreTimedRests s p times skip columns) where
  abbrev none : CellsOf
  none = no_cells kind.Time

  abbrev made : Block
  made = block_of (p.rows - skip) s.time_col columns

  rests : (k : ℕ) (d : CellsOf) → k < p.cols → IsTimedRest s p times skip k (get_or columns k d)
  rests k d lt = are.each k d (omega (arith, all, lt))

  each : (k : ℕ) (d : CellsOf) → k < p.cols → IsShownColumn s (p.rows - skip) k (get_or columns k d)
  each k d lt = let one = rests k d lt in record { kind = one.fit.kind; rows = omega (arith, one.fit.rows); takes = one.fit.takes }

  here : is_designated s s.time_col ≡ true
  here = eq-eqb s.time_col s.time_col refl

  times_are : get_or columns s.time_col none ≡ rows_from skip times
  times_are = (rests s.time_col none part.timed).timed here

  timely : AreTimely true times.cells
  timely = subst (λ (b : Bool). AreTimely b times.cells) here fit.is.timely

  pub beside_designated : slice_get (kinds_of columns) s.time_col ≡ Some kind.Time
  beside_designated = designated_made s p.cols (p.rows - skip) columns schema part.timed part.columns all each

  pub beside_rows : length (times_in s.time_col columns) ≡ p.rows - skip
  beside_rows = times_long s p.cols (p.rows - skip) columns schema part.timed part.columns all each

  pub beside_sorted : (row : ℕ) → IsFirstUnsorted (times_in s.time_col columns) row → ⊥
  beside_sorted row first =
      let is : times_in s.time_col columns ≡ drop skip times.cells = ap (λ (c : CellsOf). c.cells) times_are in
      let unsorted : IsUnsortedAt (drop skip times.cells) row = subst (λ (cs : List Cell). IsUnsortedAt cs row) is first.unsorted in
      timely (skip + row) (omega (arith, first.there, ap length is, length-drop skip times.cells)) (inr (unsorted_behind skip row times.cells unsorted))

  pub beside_rest : IsRestOf s p times skip made
  beside_rest = record {
    rows = omega (arith, length-rows_of (p.rows - skip) columns, within);
    kinds = kinds_made s p.cols (p.rows - skip) columns schema part.timed part.columns all each;
    time_col = refl;
    fit = rows_fit s p.cols (p.rows - skip) columns schema part.timed part.columns all each;
    timed = sym (column_made s p.cols (p.rows - skip) columns schema part.timed part.columns all each s.time_col part.timed) ∙ times_are;
  }

-- ---- the rows of a block

module _ (s : Schema) (p : Part) (skip : ℕ) (b : Block) (is : IsBlockOf s p b) (within : skip ≤ p.rows) where
  abbrev rests_made : List CellsOf
  rests_made = rests_in skip p.cols b

  abbrev one : ℕ → CellsOf
  one col = rows_from skip (column_in b col)

  rests_long : length rests_made ≡ p.cols
  rests_long = length-map-range_with_len one 0 p.cols

  rest_at : (k : ℕ) (d : CellsOf) → k < p.cols → get_or rests_made k d ≡ one k
  rest_at k d lt = get_or-map-range_with_len one 0 p.cols k k d lt (omega arith)

  kinds_are : kinds_of rests_made ≡ b.kinds
  kinds_are =
      let size : length (kinds_of rests_made) ≡ p.cols = length-map rests_made (λ (c : CellsOf). c.kind) ∙ rests_long in
      ext_get_or kind.Time (kinds_of rests_made) b.kinds (size ∙ sym is.columns)
      (λ k lt.
      let low : k < p.cols = omega (arith, size, lt) in
      get_or-map (λ (c : CellsOf). c.kind) rests_made k (no_cells kind.Time) kind.Time (omega (arith, rests_long, low)) ∙ ap (λ (c : CellsOf). c.kind) (rest_at k (no_cells kind.Time) low))

  cell_is : (i k : ℕ) → i < p.rows - skip → k < p.cols → get_or (row_at rests_made i) k cell.Null ≡ get_or (get_or b.rows (skip + i) []) k cell.Null
  cell_is i k lt low =
      let f : Row → Cell = λ r. cell_at r k in
      cell_at-row_at rests_made i k (no_cells kind.Time) (omega (arith, rests_long, low))
      ∙ ap (λ (c : CellsOf). get_or c.cells i cell.Null) (rest_at k (no_cells kind.Time) low)
      ∙ get_or-drop skip (map f b.rows) i cell.Null
      ∙ get_or-map f b.rows (skip + i) [] cell.Null (omega (arith, is.rows, lt))

  row_is : (i : ℕ) → i < p.rows - skip → row_at rests_made i ≡ get_or b.rows (skip + i) []
  row_is i lt =
      let long : length (row_at rests_made i) ≡ p.cols = length-map rests_made (λ (c : CellsOf). get_or c.cells i cell.Null) ∙ rests_long in
      let also : length (get_or b.rows (skip + i) []) ≡ p.cols = row_has s p b (skip + i) [] is (omega (arith, lt)) in
      ext_get_or cell.Null (row_at rests_made i) (get_or b.rows (skip + i) []) (long ∙ sym also) (λ k low. cell_is i k lt (omega (arith, long, low)))

  pub rests_are : block_of (p.rows - skip) s.time_col rests_made ≡ rest_of skip b
  rests_are =
      let size : length (rows_of (p.rows - skip) rests_made) ≡ p.rows - skip = length-rows_of (p.rows - skip) rests_made in
      let rows : rows_of (p.rows - skip) rests_made ≡ drop skip b.rows = ext_get_or [] (rows_of (p.rows - skip) rests_made) (drop skip b.rows) (omega (arith, size, length-drop skip b.rows, is.rows))
      (λ i lt.
      let low : i < p.rows - skip = omega (arith, size, lt) in
      get_or-rows_of (p.rows - skip) i rests_made [] low ∙ row_is i low ∙ sym (get_or-drop skip b.rows i [])) in
      ap (λ (ks : List ColType). record { kinds = ks; time_col = s.time_col; rows = rows_of (p.rows - skip) rests_made }) kinds_are
      ∙ ap (λ (n : ℕ). record { kinds = b.kinds; time_col = n; rows = rows_of (p.rows - skip) rests_made }) (sym is.time_col)
      ∙ ap (λ (rs : List Row). record { kinds = b.kinds; time_col = b.time_col; rows = rs }) rows

-- ---- what is told

-- the rows of the columns of whatever block an image holds
abbrev pub AreRests : Schema → Part → CellsOf → ℕ → ℕ → List CellsOf → Image → Type 0
AreRests s p times skip col columns image = (b : Block) → HoldsTimed s p times image b → columns ≡ rests_in skip col b

module _ (s : Schema) (p : Part) (times : CellsOf) (skip : ℕ) where
  some_is : (x y : CellsOf) → Some x ≡ Some y → x ≡ y
  some_is x y e = cc

  -- one column more
  pub one_more : (col : ℕ) (old mid : Option Disk) (columns : List CellsOf) (column : CellsOf) → mid ≡ old → IfSome old (λ disk. AreRests s p times skip col columns (reads_of disk)) → IfSome mid (λ disk. IsRestIn (Ok (Some column)) s p times skip col (reads_of disk)) → IfSome old (λ disk. AreRests s p times skip (col + 1) (columns ++ column ∷ []) (reads_of disk))
  one_more col None mid columns column same had read = tt
  one_more col (Some disk) mid columns column same had read = λ b h.
      let here : IsRestIn (Ok (Some column)) s p times skip col (reads_of disk) = subst (λ (m : Option Disk). IfSome m (λ d. IsRestIn (Ok (Some column)) s p times skip col (reads_of d))) same read in
      ap (λ (cs : List CellsOf). cs ++ column ∷ []) (had b h) ∙ ap (λ (c : CellsOf). rests_in skip col b ++ c ∷ []) (some_is column (rows_from skip (column_in b col)) (here b h)) ∙ sym (map-range_with_len_more (λ (k : ℕ). rows_from skip (column_in b k)) 0 col col (omega arith))

  -- the block of them
  pub block_told : skip ≤ p.rows → (old : Option Disk) (columns : List CellsOf) → IfSome old (λ disk. AreRestsIn (Ok (Some columns)) s p times skip (reads_of disk)) → IfSome old (λ disk. IsRestRead (Ok (block_of (p.rows - skip) s.time_col columns)) s p times skip (reads_of disk))
  block_told within None columns read = tt
  block_told within (Some disk) columns read = λ b h. ap (block_of (p.rows - skip) s.time_col) (many columns (rests_in skip p.cols b) (read b h)) ∙ rests_are s p skip b h.is within
    where
      many : (xs ys : List CellsOf) → Some xs ≡ Some ys → xs ≡ ys
      many xs ys e = cc

  pub more_timed : (columns : List CellsOf) (column : CellsOf) (col : ℕ) → AreTimedRests s p times skip columns → length columns ≡ col → IsTimedRest s p times skip col column → AreTimedRests s p times skip (columns ++ column ∷ [])
  more_timed columns column col are at fits = record { each = each_more (IsTimedRest s p times skip) columns column are.each (subst (λ (n : ℕ). IsTimedRest s p times skip n column) (sym at) fits) }
