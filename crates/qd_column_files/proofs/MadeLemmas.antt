-- A block made of the columns of a part.
use Rattle.std.proofs.Common.{◌≡◌, ◌⊎◌, inl, ℕ, ◌-◌, ◌<◌, ◌≤◌, true, inr, List, [], ◌∷◌, ◌++◌, Some, length, get_or, slice_get, refl, sym, ◌∙◌, subst, arith, eq-eqb}
use Rattle.std.proofs.lemmas.List.{length-map, get_or_append_left, get_or_at, length_push}
use Rattle.std.proofs.lemmas.Bool.{cases_lt}
use Rattle.qd_base.specs.declared.part.Part.{Part}
use Rattle.qd_base.specs.declared.schema.ColType.TheVariants as kind
use Rattle.qd_base.specs.declared.schema.Schema.{Schema}
use Rattle.qd_base.specs.Lawful.{IsSchema}
use Rattle.qd_base.specs.Rows.{time_of}
use Rattle.qd_block.specs.Blocks.{Block, block_of, kinds_of, rows_of}
use Rattle.qd_block.proofs.RowLemmas.{length-rows_of}
use Rattle.qd_column.specs.Cells.{CellsOf, no_cells}
use Rattle.qd_manifest.specs.Spelling.{IsPart}
use Rattle.qd_scan.specs.Sources.{IsBlockOf}
use Rattle.qd_column_format.specs.Unsorted.{IsFirstUnsorted, times_in}
use Rattle.qd_volume.specs.Disk.{Image}
use Rattle.qd_column_files.specs.Calls.{HoldsColumn}
use Rattle.qd_column_files.specs.Columns.{AreTimely, HasEnds, IsColumnOf, is_designated, time_at}
use Rattle.qd_column_files.specs.Files.{HoldsBlock}
use Rattle.qd_column_files.specs.Reading.{AreColumnsOf, HoldsColumns, IsFitColumn}
use Rattle.qd_column_files.proofs.RowsMade.{IsShownColumn, column_made, designated_made, kinds_made, rows_fit, time_shown, times_long}

-- what holds of each item and of one more
pub each_more : (P : ℕ → CellsOf → Type 0) (columns : List CellsOf) (column : CellsOf) → ((k : ℕ) (d : CellsOf) → k < length columns → P k (get_or columns k d)) → P (length columns) column → (k : ℕ) (d : CellsOf) → k < length (columns ++ column ∷ []) → P k (get_or (columns ++ column ∷ []) k d)
each_more P columns column had here k d lt = by (cases_lt k (length columns))
  where
    by : (k < length columns) ⊎ (length columns ≤ k) → P k (get_or (columns ++ column ∷ []) k d)
    by (inl less) = subst (P k) (sym (get_or_append_left columns (column ∷ []) d k less)) (had k d less)
    by (inr most) =
        let at : length columns ≡ k = omega (arith, most, lt, length_push columns column) in
        subst (P k) (sym (get_or_at columns column [] d k at)) (subst (λ n. P n column) at here)

pub more_columns : (s : Schema) (p : Part) (columns : List CellsOf) (column : CellsOf) (col : ℕ) → AreColumnsOf s p columns → length columns ≡ col → IsFitColumn s p col column → AreColumnsOf s p (columns ++ column ∷ [])
more_columns s p columns column col are at fits = record { each = each_more (IsFitColumn s p) columns column are.each (subst (λ n. IsFitColumn s p n column) (sym at) fits) }

pub more_held : (block : ℕ) (columns : List CellsOf) (column : CellsOf) (col : ℕ) (image : Image) → HoldsColumns block columns image → length columns ≡ col → HoldsColumn block col column image → HoldsColumns block (columns ++ column ∷ []) image
more_held block columns column col image had at here = each_more (λ k c. HoldsColumn block k c image) columns column had (subst (λ n. HoldsColumn block n column image) (sym at) here)

module _ (s : Schema) (p : Part) (columns : List CellsOf) (schema : IsSchema s) (part : IsPart s p) (all : length columns ≡ p.cols) (are : AreColumnsOf s p columns) where
  abbrev none : CellsOf
  none = no_cells kind.Time

  abbrev made : Block
  made = block_of p.rows s.time_col columns

  fits : (k : ℕ) (d : CellsOf) → k < p.cols → IsFitColumn s p k (get_or columns k d)
  fits k d lt = are.each k d (omega (arith, all, lt))

  each : (k : ℕ) (d : CellsOf) → k < p.cols → IsShownColumn s p.rows k (get_or columns k d)
  each k d lt = let one = fits k d lt in record { kind = one.is.kind; rows = one.is.rows; takes = one.takes }

  pub made_designated : slice_get (kinds_of columns) s.time_col ≡ Some kind.Time
  made_designated = designated_made s p.cols p.rows columns schema part.timed part.columns all each

  times : IsColumnOf s p s.time_col (get_or columns s.time_col none)
  times = (fits s.time_col none part.timed).is

  pub made_rows : length (times_in s.time_col columns) ≡ p.rows
  made_rows = times_long s p.cols p.rows columns schema part.timed part.columns all each

  here : is_designated s s.time_col ≡ true
  here = eq-eqb s.time_col s.time_col refl

  timely : AreTimely true (times_in s.time_col columns)
  timely = subst (λ b. AreTimely b (times_in s.time_col columns)) here times.timely

  ends : HasEnds true p (times_in s.time_col columns)
  ends = subst (λ b. HasEnds b p (times_in s.time_col columns)) here times.ends

  pub made_sorted : (row : ℕ) → IsFirstUnsorted (times_in s.time_col columns) row → ⊥
  made_sorted row first = timely row first.there (inr first.unsorted)

  shown : (i : ℕ) → i < p.rows → time_of s.time_col (get_or (rows_of p.rows columns) i []) ≡ time_at (times_in s.time_col columns) i
  shown = time_shown s p.cols p.rows columns schema part.timed part.columns all each

  pub made_is : IsBlockOf s p made
  made_is = record {
    rows = length-rows_of p.rows columns;
    columns = length-map columns (λ (c : CellsOf). c.kind) ∙ all;
    kinds = kinds_made s p.cols p.rows columns schema part.timed part.columns all each;
    time_col = refl;
    fit = rows_fit s p.cols p.rows columns schema part.timed part.columns all each;
    first = shown 0 (omega (arith, part.some)) ∙ ends.0;
    last = shown (p.rows - 1) (omega (arith, part.some)) ∙ ends.1;
  }

  pub made_held : (image : Image) → HoldsColumns p.block columns image → HoldsBlock p.block made image
  made_held image holds = record {
    each = λ col low.
        let small : col < p.cols = omega (arith, low, length-map columns (λ (c : CellsOf). c.kind), all) in
        subst (λ c. HoldsColumn p.block col c image) (column_made s p.cols p.rows columns schema part.timed part.columns all each col small) (holds col none (omega (arith, all, small)));
  }
