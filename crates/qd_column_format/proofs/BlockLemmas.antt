-- Columns whose times are in order, and the first row that isn't.
use Rattle.std.proofs.Common.{◌≡◌, ◌≢◌, ℕ, ◌+◌, ◌-◌, ◌<◌, ◌≤◌, inl, inr, List, Some, length, map, take, get_or, refl, sym, ap, ◌∙◌, arith, All, slice_get, subst}
use Rattle.std.specs.List.{AllByRecursion}
use Rattle.std.specs.List.Sorted.{IsNonDecreasing}
use Rattle.std.proofs.lemmas.Bool.{ne_eqb}
use Rattle.std.proofs.lemmas.Bool.Decides.{eqb_tells}
use Rattle.std.proofs.lemmas.List.{get_or-map, get_or_default, get_or-take, length-take-le, take_more}
use Rattle.std.proofs.lemmas.List.Elements.{recursion_from_All}
use Rattle.std.proofs.lemmas.List.Sorted.{IsNonDecreasingBy-push}
use Rattle.qd_base.specs.declared.cell.Cell.{Cell}
use Rattle.qd_base.specs.declared.cell.Cell.TheVariants as cell
use Rattle.qd_base.specs.declared.limits.TheConstants.{NULL_TIME}
use Rattle.qd_base.specs.declared.schema.ColType.TheVariants as kind
use Rattle.qd_base.specs.Rows.{Row, cell_at, time_in}
use Rattle.qd_column.specs.Cells.{CellsOf, time_cell, no_cells}
use Rattle.qd_block.specs.Blocks.{rows_of, kinds_of, IsTimed, IsBlock}
use Rattle.qd_column_format.specs.Unsorted.{times_in, IsUnsortedAt, AreSorted}
use Rattle.qd_block.proofs.RowLemmas.{length-rows_of, get_or-rows_of, cell_at-row_at}
use Rattle.qd_block.proofs.OrderLemmas.{AreTimes, are_times, rows_rise}
use Rattle.qd_block.proofs.BlockLemmas.{designated_there}

abbrev cells : List ℕ → List Cell
cells times = map time_cell times

shown : (times : List ℕ) (i : ℕ) → i < length times → get_or (cells times) i cell.Null ≡ time_cell (get_or times i 0)
shown times i h = get_or-map time_cell times i 0 cell.Null h

time_of_some : (t : ℕ) → t ≢ NULL_TIME → time_cell t ≡ cell.Time t
time_of_some t some = rw (ne_eqb t NULL_TIME some) refl

null_is : (t : ℕ) → time_cell t ≡ cell.Null → t ≡ NULL_TIME
null_is t e = elim (eqb_tells t NULL_TIME) [ inl null ↦ null.1 | inr some ↦ (let no : cell.Time t ≡ cell.Null = sym (time_of_some t some.1) ∙ e in cc) ]

time_at_most : (t : ℕ) → time_in (time_cell t) ≤ t
time_at_most t = elim (eqb_tells t NULL_TIME) [ inl null ↦ rw null.0 (omega arith) | inr some ↦ rw some.0 (omega arith) ]

-- a row in order
pub row_sorted : (times : List ℕ) (i : ℕ) → i < length times → get_or times i 0 ≢ NULL_TIME → (0 < i → get_or times (i - 1) 0 ≤ get_or times i 0) → IsUnsortedAt (cells times) i → ⊥
row_sorted times i h some rises (inl null) = some (null_is (get_or times i 0) (sym (shown times i h) ∙ null))
row_sorted times i h some rises (inr falls) =
    let here : time_in (get_or (cells times) i cell.Null) ≡ get_or times i 0 = ap time_in (shown times i h ∙ time_of_some (get_or times i 0) some) in
    let before : time_in (get_or (cells times) (i - 1) cell.Null) ≡ time_in (time_cell (get_or times (i - 1) 0)) = ap time_in (shown times (i - 1) (omega (arith, falls.0))) in
    let most = time_at_most (get_or times (i - 1) 0) in
    let up = rises falls.0 in
    absurd (omega (arith, falls.1, here, before, most, up))

-- a row whose time is NULL
pub null_unsorted : (times : List ℕ) (i : ℕ) → i < length times → get_or times i 0 ≡ NULL_TIME → IsUnsortedAt (cells times) i
null_unsorted times i h null = inl (shown times i h ∙ ap time_cell null)

-- a row whose time falls, behind rows in order
pub fall_unsorted : (times : List ℕ) (i : ℕ) → i < length times → ((k : ℕ) → k < i → IsUnsortedAt (cells times) k → ⊥) → 0 < i → get_or times i 0 ≢ NULL_TIME → get_or times i 0 < get_or times (i - 1) 0 → IsUnsortedAt (cells times) i
fall_unsorted times i h before some here falls =
    let last : get_or times (i - 1) 0 ≢ NULL_TIME = λ null. before (i - 1) (omega arith) (null_unsorted times (i - 1) (omega arith) null) in
    let one : time_in (get_or (cells times) i cell.Null) ≡ get_or times i 0 = ap time_in (shown times i h ∙ time_of_some (get_or times i 0) here) in
    let other : time_in (get_or (cells times) (i - 1) cell.Null) ≡ get_or times (i - 1) 0 = ap time_in (shown times (i - 1) (omega arith) ∙ time_of_some (get_or times (i - 1) 0) last) in
    inr (some, omega arith)

-- the rows have times
timed_rows : (n time_col : ℕ) (columns : List CellsOf) → n ≡ length (times_in time_col columns) → time_col < length columns → AreSorted (times_in time_col columns) → AllByRecursion (IsTimed time_col) (rows_of n columns)
timed_rows n time_col columns size there sorted =
    recursion_from_All (IsTimed time_col) (rows_of n columns) (λ k d lt.
    let low : k < n = omega (arith, length-rows_of n columns) in
    λ null. sorted k (omega arith) (inl (sym (cell_at-row_at columns k time_col (no_cells kind.Time) there) ∙ ap (λ (r : Row). cell_at r time_col) (sym (get_or-rows_of n k columns d low)) ∙ null)))

-- columns with times in order are a block
pub columns_are_block : (n time_col : ℕ) (columns : List CellsOf) (times : List ℕ) → n ≡ length (times_in time_col columns) → length columns ≤ 256 → slice_get (kinds_of columns) time_col ≡ Some kind.Time → All (λ (c : CellsOf). length c.cells ≡ length (times_in time_col columns)) columns → times_in time_col columns ≡ map time_cell times → AreSorted (map time_cell times) → IsNonDecreasing times → IsBlock n time_col columns
columns_are_block n time_col columns times size few designated even are sorted rising =
    let there : time_col < length columns = designated_there columns time_col designated in
    let timed = timed_rows n time_col columns size there (subst AreSorted (sym are) sorted) in
    let moments : AreTimes n time_col columns times = are_times n time_col columns times (no_cells kind.Time) there (sym size) are timed in
    record {
      sizes = λ k d h. even k d h ∙ sym size;
      few = few;
      designated = designated;
      order = rows_rise n time_col columns times moments rising;
      timed = timed;
    }

-- times that rise with the next, which is no less than the last
pub rises_more : (times : List ℕ) (i : ℕ) → i < length times → IsNonDecreasing (take i times) → (0 < i → get_or times (i - 1) 0 ≤ get_or times i 0) → IsNonDecreasing (take (i + 1) times)
rises_more times i h ordered step =
    let size : length (take i times) ≡ i = length-take-le i times (omega arith) in
    rw (take_more times i 0 h) (IsNonDecreasingBy-push (λ (x : ℕ). x) (take i times) (get_or times i 0) ordered (λ d some. let low : 0 < i = omega arith in let one = step low in let last : get_or (take i times) (length (take i times) - 1) d ≡ get_or times (i - 1) 0 = ap (λ n. get_or (take i times) (n - 1) d) size ∙ get_or-take i times (i - 1) d (omega arith) ∙ get_or_default times (i - 1) d 0 (omega arith) in rw last one))

-- the cells of the designated timestamp, as they were read
pub times_read : (time_col : ℕ) (columns : List CellsOf) (d : CellsOf) (times : List ℕ) → slice_get (kinds_of columns) time_col ≡ Some kind.Time → d ≡ get_or columns time_col d → d.cells ≡ map time_cell times → times_in time_col columns ≡ map time_cell times
times_read time_col columns d times designated is cells =
    let there : time_col < length columns = designated_there columns time_col designated in
    ap (λ (x : CellsOf). x.cells) (get_or_default columns time_col (no_cells kind.Time) d there ∙ sym is) ∙ cells
