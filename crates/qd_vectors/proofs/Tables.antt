-- The small table of the tests.
use Rattle.std.proofs.Common.{◌≡◌, ◌<◌, ◌≤◌, ◌<ℤ◌, ◌≤ℤ◌, ◌∙◌, ℕ, ℤ, zero, Bool, List, [], ◌∷◌, ◌++◌, length, Some, take, get_or, slice_get, ap, ap₂, sym, refl, subst, arith, All}
use Rattle.std.specs.List.{AllByRecursion}
use Rattle.std.proofs.lemmas.List.{length-map}
use Rattle.std.proofs.lemmas.List.Elements.{All-append, All-cons, All-nil, All-from_recursion, recursion_from_All}
use Rattle.std.proofs.lemmas.Option.{get_or_from_slice_get}
use Rattle.std.proofs.lemmas.List.Sorted.{All-permutation}
use Rattle.qd_base.specs.declared.cell.Cell.{Cell}
use Rattle.qd_base.specs.declared.cell.Cell.TheVariants as cell
use Rattle.qd_base.specs.declared.limits.TheConstants.{MAX_COLUMNS, MAX_LONG, MAX_TIME, NULL_LONG}
use Rattle.qd_base.specs.declared.schema.ColType.{ColType}
use Rattle.qd_base.specs.declared.schema.ColType.TheVariants as kind
use Rattle.qd_base.specs.declared.schema.Col.{Col}
use Rattle.qd_base.specs.declared.schema.Schema.{Schema}
use Rattle.qd_base.specs.Lawful.{HasKinds, Takes}
use Rattle.qd_base.specs.Rows.{Row, time_in, time_of}
use Rattle.qd_block.specs.Blocks.{Block, FitsKinds, IsTimed, in_time_order, kinds_in}
use Rattle.qd_merge.specs.Batch.{batch, last_of_equals}
use Rattle.qd_merge.specs.Laws.{AreKeys, IsBatch}
use Rattle.qd_merge.specs.Merged.{block_in, merged}
use Rattle.qd_vectors.specs.Tables.{IsRowOf, IsOlderRow, IsTable, IsTableRow, IsOfTable, table_kinds}
use Rattle.qd_merge.proofs.Batches.{batch_is_batch, each-lasts, put-moves}

-- cells that the kinds take are cells that the columns take
cols_fit : (cols : List Col) (row : Row) → FitsKinds (kinds_in cols) row → HasKinds cols row
cols_fit [] [] h = tt
cols_fit [] (x ∷ xs) h = absurd h
cols_fit (c ∷ cs) [] h = absurd h
cols_fit (c ∷ cs) (x ∷ xs) h = (h.0, cols_fit cs xs h.1)

pub rows_fit : (kinds : List ColType) (cols : List Col) (rows : List Row) → kinds_in cols ≡ kinds → All (IsRowOf kinds) rows → All (HasKinds cols) rows
rows_fit kinds cols rows e h k d lt = let is = h k d lt in cols_fit cols (get_or rows k d) (subst (λ (ks : List ColType). FitsKinds ks (get_or rows k d)) (sym e) is.fits)

pub rows_timed : (kinds : List ColType) (rows : List Row) → All (IsRowOf kinds) rows → All (IsTimed 0) rows
rows_timed kinds rows h k d lt = let is = h k d lt in is.timed

pub few_columns : (schema : Schema) → IsTable schema → length schema.cols ≤ MAX_COLUMNS
few_columns schema table = let size = ap length table.kinds in omega (arith, length-map schema.cols (λ (c : Col). c.kind))

pub designated : (schema : Schema) → IsTable schema → slice_get (kinds_in schema.cols) schema.time_col ≡ Some kind.Time
designated schema table = ap₂ (λ (ks : List ColType) (col : ℕ). slice_get ks col) table.kinds table.time_col

-- the rows of a batch are among those that came
pub all-batch : (P : Row → Type 0) (col : ℕ) (keys : List ℕ) (rows : List Row) → All P rows → All P (batch col keys rows)
all-batch P col [] rows h = All-permutation P rows (in_time_order col rows) (put-moves col [] rows) h
all-batch P col (k ∷ ks) rows h =
    let sorted : List Row = in_time_order col rows in
    All-from_recursion P (last_of_equals (k ∷ ks) sorted) (each-lasts (k ∷ ks) P sorted (recursion_from_All P sorted (All-permutation P rows sorted (put-moves col [] rows) h)))

-- the moments of rows are within their range
time_within : (row : Row) → FitsKinds table_kinds row → time_of 0 row ≤ MAX_TIME
time_within [] h = absurd h
time_within (cell.Null ∷ xs) h = omega arith
time_within (cell.Long x ∷ xs) h = absurd h.0
time_within (cell.Bool x ∷ xs) h = absurd h.0
time_within (cell.Text x ∷ xs) h = absurd h.0
time_within (cell.Time x ∷ xs) h = h.0

pub times_within : (rows : List Row) → All IsTableRow rows → All (λ r. time_of 0 r ≤ MAX_TIME) rows
times_within rows h k d lt = let is = h k d lt in time_within (get_or rows k d) is.fits

-- rows of the table and of its form before
pub older_row : (time : ℕ) (number : ℤ) (none first made : Row) → time ≤ MAX_TIME → NULL_LONG <ℤ number → number ≤ℤ MAX_LONG → none ≡ [] → first ≡ none ++ cell.Time time ∷ [] → made ≡ first ++ cell.Long number ∷ [] → IsOlderRow made
older_row time number none first made moment low high empty begun is = subst IsOlderRow (sym (is ∙ ap (λ (l : Row). l ++ cell.Long number ∷ []) (begun ∙ ap (λ (l : Row). l ++ cell.Time time ∷ []) empty))) (record { fits = (moment, ((low, high), tt)); timed = λ e. cc })

pub table_row : (row : Row) (name : Cell) (truth : Bool) (named made : Row) → IsOlderRow row → Takes kind.Symbol name → named ≡ row ++ name ∷ [] → made ≡ named ++ cell.Bool truth ∷ [] → IsTableRow made
table_row [] name truth named made older takes begun is = absurd older.fits
table_row (t ∷ []) name truth named made older takes begun is = absurd older.fits.1
table_row (t ∷ n ∷ []) name truth named made older takes begun is = subst IsTableRow (sym (is ∙ ap (λ (l : Row). l ++ cell.Bool truth ∷ []) begun)) (record { fits = (older.fits.0, (older.fits.1.0, (takes, (tt, tt)))); timed = older.timed })
table_row (t ∷ n ∷ x ∷ xs) name truth named made older takes begun is = absurd older.fits.1.1

-- one item more
pub all_more : {T : Type 0} (P : T → Type 0) (xs : List T) (x : T) → All P xs → P x → All P (xs ++ x ∷ [])
all_more P xs x h is = All-append P xs (x ∷ []) h (All-cons P x [] is (All-nil P))
