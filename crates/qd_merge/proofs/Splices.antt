-- Columns of rows that are laid by runs.
use Rattle.std.proofs.Common.{◌≡◌, ℕ, zero, suc, ◌-◌, ◌<◌, ◌≤◌, List, [], ◌∷◌, length, map, take, drop, get_or, sym, ap, ap₂, ◌∙◌, arith, All, slice_get, slice_range, subst, replicate}
use Rattle.std.specs.List.{range_with_len, AllByRecursion}
use Rattle.std.proofs.lemmas.List.{get_or-map, length-map, ext_get_or, get_or-take, length-take, length-replicate}
use Rattle.std.proofs.lemmas.List.FromFn.{get_or-map-range_with_len, length-map-range_with_len}
use Rattle.std.proofs.lemmas.List.Elements.{All-append, All-take}
use Rattle.qd_base.specs.declared.cell.Cell.{Cell}
use Rattle.qd_base.specs.declared.cell.Cell.TheVariants as cell
use Rattle.qd_base.specs.declared.schema.ColType.{ColType}
use Rattle.qd_base.specs.declared.schema.ColType.TheVariants as kind
use Rattle.qd_base.specs.Database.{missing}
use Rattle.qd_base.specs.Rows.{Row, cell_at}
use Rattle.qd_base.specs.Laws.{IsInOrder}
use Rattle.qd_column.specs.declared.runs.Run.{Run}
use Rattle.qd_column.specs.declared.runs.Side.{Side}
use Rattle.qd_column.specs.declared.runs.Side.TheVariants as side
use Rattle.qd_column.specs.Cells.{CellsOf, cell_of_row}
use Rattle.qd_column.specs.Runs.{of_side, items_in, laid, IsRunOf}
use Rattle.qd_column.proofs.RunLemmas.{map-laid}
use Rattle.qd_block.specs.Blocks.{Block, block_of, row_at, rows_of, kinds_of, column_in, IsBlock, IsTimed, IsWhole}
use Rattle.std.proofs.lemmas.List.Elements.{All-from_recursion, recursion_from_All}
use Rattle.qd_block.proofs.RowLemmas.{got_there, length-rows_of, get_or-rows_of}
use Rattle.qd_merge.specs.Merged.{with_missing, laid_rows}
use Rattle.qd_merge.specs.Order.{AreRunsOf}
use Rattle.qd_merge.proofs.Wide.{wide_cell, wide_size, wide_column, lacking_column}

-- a fact of the rows of both lists holds of those that are laid
all_drop : {T : Type 0} (P : T → Type 0) (a : ℕ) (xs : List T) → All P xs → All P (drop a xs)
all_drop P zero xs h = h
all_drop P (suc a) [] h = h
all_drop P (suc a) (x ∷ xs) h = all_drop P a xs (λ k d lt. h (suc k) d (omega arith))

all-part : {T : Type 0} (P : T → Type 0) (xs : List T) (a b : ℕ) → All P xs → All P (slice_range xs a b)
all-part P xs a b h = All-take P (b - a) (drop a xs) (all_drop P a xs h)

pub all-laid : {T : Type 0} (P : T → Type 0) (first second : List T) (runs : List Run) → All P first → All P second → All P (laid first second runs)
all-laid P first second [] a b = λ k d lt. absurd (omega arith)
all-laid P first second (run ∷ runs) a b = All-append P (items_in first second run) (laid first second runs) (go run.side) (all-laid P first second runs a b)
  where
    go : (s : Side) → All P (slice_range (of_side first second s) run.from run.to)
    go side.First = all-part P first run.from run.to a
    go side.Second = all-part P second run.from run.to b

pub all-map : {X Y : Type 0} (P : Y → Type 0) (f : X → Y) (Q : X → Type 0) → ((x : X) → Q x → P (f x)) → (xs : List X) → All Q xs → All P (map f xs)
all-map P f Q step [] h k d lt = absurd (omega arith)
all-map P f Q step (x ∷ xs) h zero d lt = step x (h zero x (omega arith))
all-map P f Q step (x ∷ xs) h (suc k) d lt = all-map P f Q step xs (λ j e less. h (suc j) e (omega arith)) k d (omega arith)

-- rows with a cell for each of some columns are the rows of these columns
columns_of : Block → List CellsOf
columns_of b = map (column_in b) (range_with_len 0 (length b.kinds))

pub rows_shown : (b : Block) (n : ℕ) → n ≡ length b.rows → All (λ r. length r ≡ length b.kinds) b.rows → rows_of n (map (column_in b) (range_with_len 0 (length b.kinds))) ≡ b.rows
rows_shown b n size sizes =
    let width : ℕ = length b.kinds in
    let columns : List CellsOf = map (column_in b) (range_with_len 0 width) in
    let count : length columns ≡ width = length-map-range_with_len (column_in b) 0 width in
    ext_get_or [] (rows_of n columns) b.rows (length-rows_of n columns ∙ size) (λ i h.
    let low : i < n = omega (arith, length-rows_of n columns) in
    let row : Row = get_or b.rows i [] in
    let row_size : length row ≡ width = sizes i [] (omega arith) in
    let there : length (row_at columns i) ≡ width = length-map columns (λ (c : CellsOf). cell_of_row c i) ∙ count in
    get_or-rows_of n i columns [] low ∙ ext_get_or cell.Null (row_at columns i) row (there ∙ sym row_size) (λ k lt.
    let in_width : k < width = omega arith in
    let d : CellsOf = record { kind = kind.Time; cells = [] } in
    get_or-map (λ (c : CellsOf). cell_of_row c i) columns k d cell.Null (omega arith) ∙ ap (λ (c : CellsOf). cell_of_row c i) (get_or-map-range_with_len (column_in b) 0 width k k d in_width (omega arith)) ∙ get_or-map (λ r. cell_at r k) b.rows i [] cell.Null (omega arith)))

pub kinds_shown : (b : Block) → kinds_of (map (column_in b) (range_with_len 0 (length b.kinds))) ≡ b.kinds
kinds_shown b =
    let width : ℕ = length b.kinds in
    let columns : List CellsOf = map (column_in b) (range_with_len 0 width) in
    let count : length columns ≡ width = length-map-range_with_len (column_in b) 0 width in
    let size : length (kinds_of columns) ≡ width = length-map columns (λ (c : CellsOf). c.kind) ∙ count in
    ext_get_or kind.Time (kinds_of columns) b.kinds size (λ k h. let low : k < width = omega arith in let d : CellsOf = record { kind = kind.Time; cells = [] } in get_or-map (λ (c : CellsOf). c.kind) columns k d kind.Time (omega arith) ∙ ap (λ (c : CellsOf). c.kind) (get_or-map-range_with_len (column_in b) 0 width k k d low (omega arith)))

-- whole columns of rows in order of time make a block
pub block_laid : (b : Block) (n : ℕ) → n ≡ length b.rows → IsWhole b → IsBlock n b.time_col (map (column_in b) (range_with_len 0 (length b.kinds))) × (block_of n b.time_col (map (column_in b) (range_with_len 0 (length b.kinds))) ≡ b)
block_laid b n size whole =
    let width : ℕ = length b.kinds in
    let columns : List CellsOf = map (column_in b) (range_with_len 0 width) in
    let count : length columns ≡ width = length-map-range_with_len (column_in b) 0 width in
    let rows : rows_of n columns ≡ b.rows = rows_shown b n size whole.cells in
    let kinds : kinds_of columns ≡ b.kinds = kinds_shown b in
    let few = whole.few in (
      record {
        sizes = all-map (λ (c : CellsOf). length c.cells ≡ n) (column_in b) (λ k. Unit {0}) (λ k _. length-map b.rows (λ r. cell_at r k) ∙ sym size) (range_with_len 0 width) (λ k d lt. tt);
        few = omega arith;
        designated = ap (λ (ks : List ColType). slice_get ks b.time_col) kinds ∙ whole.designated;
        order = subst (IsInOrder b.time_col) (sym rows) whole.order;
        timed = subst (λ (rs : List Row). AllByRecursion (IsTimed b.time_col) rs) (sym rows) whole.timed;
      },
      ap₂ (λ (ks : List ColType) (rs : List Row). record { kinds = ks; time_col = b.time_col; rows = rs }) kinds rows,
    )

-- the kinds that a narrower block has
pub kinds_narrow : (old batch : Block) → take (length old.kinds) batch.kinds ≡ old.kinds → length old.kinds ≤ length batch.kinds
kinds_narrow old batch e = let size = length-take (length old.kinds) batch.kinds in let same = ap length e in omega (arith, size, same)

pub kind_same : (old batch : Block) (col : ℕ) → take (length old.kinds) batch.kinds ≡ old.kinds → col < length old.kinds → get_or old.kinds col kind.Time ≡ get_or batch.kinds col kind.Time
kind_same old batch col e h = ap (λ (ks : List ColType). get_or ks col kind.Time) (sym e) ∙ get_or-take (length old.kinds) batch.kinds col kind.Time h

-- the cells of two columns, in the order of runs
abbrev pub cells_laid : CellsOf → CellsOf → List Run → CellsOf
cells_laid first second runs = record { kind = first.kind; cells = laid first.cells second.cells runs }

-- a column of both blocks
pub column_laid : (old batch : Block) (runs : List Run) (col : ℕ) → IsWhole old → take (length old.kinds) batch.kinds ≡ old.kinds → col < length old.kinds → cells_laid (column_in old col) (column_in batch col) runs ≡ column_in (record batch { rows = laid_rows old batch runs }) col
column_laid old batch runs col whole e h =
    let f : Row → Cell = λ r. cell_at r col in
    let wide : List Row = map (with_missing batch.kinds) old.rows in
    let cells : laid (map f old.rows) (map f batch.rows) runs ≡ map f (laid wide batch.rows runs) = ap (λ l. laid l (map f batch.rows) runs) (sym (wide_column batch.kinds old.rows (length old.kinds) col whole.cells h)) ∙ sym (map-laid f wide batch.rows runs) in
    ap₂ (λ (k : ColType) (cs : List Cell). record { kind = k; cells = cs }) (kind_same old batch col e h) cells

-- a column that the first lacks
pub column_lacking : (old batch : Block) (runs : List Run) (col : ℕ) → IsWhole old → length old.kinds ≤ col → col < length batch.kinds → cells_laid (record { kind = (column_in batch col).kind; cells = replicate (length old.rows) (missing (column_in batch col).kind) }) (column_in batch col) runs ≡ column_in (record batch { rows = laid_rows old batch runs }) col
column_lacking old batch runs col whole low high =
    let f : Row → Cell = λ r. cell_at r col in
    let wide : List Row = map (with_missing batch.kinds) old.rows in
    let cells : laid (replicate (length old.rows) (missing (get_or batch.kinds col kind.Time))) (map f batch.rows) runs ≡ map f (laid wide batch.rows runs) = ap (λ l. laid l (map f batch.rows) runs) (sym (lacking_column batch.kinds old.rows (length old.kinds) col kind.Time whole.cells low high)) ∙ sym (map-laid f wide batch.rows runs) in
    ap (λ (cs : List Cell). record { kind = get_or batch.kinds col kind.Time; cells = cs }) cells

-- rows of whole blocks make one in order of time
pub laid_whole : (old batch : Block) (runs : List Run) → IsWhole old → IsWhole batch → old.time_col ≡ batch.time_col → length old.kinds ≤ length batch.kinds → IsInOrder batch.time_col (laid_rows old batch runs) → IsWhole (record batch { rows = laid_rows old batch runs })
laid_whole old batch runs whole_old whole_batch same_col narrow order =
    let n : ℕ = length old.kinds in
    let col : ℕ = batch.time_col in
    let there : old.time_col < n = got_there old.kinds old.time_col kind.Time whole_old.designated in
    let wide : List Row = map (with_missing batch.kinds) old.rows in
    let old_timed : All (IsTimed old.time_col) old.rows = All-from_recursion (IsTimed old.time_col) old.rows whole_old.timed in
    let new_timed : All (IsTimed col) batch.rows = All-from_recursion (IsTimed col) batch.rows whole_batch.timed in
    record {
      few = whole_batch.few;
      designated = whole_batch.designated;
      cells = all-laid (λ r. length r ≡ length batch.kinds) wide batch.rows runs (all-map (λ r. length r ≡ length batch.kinds) (with_missing batch.kinds) (λ r. length r ≡ n) (λ r e. wide_size batch.kinds r (omega arith)) old.rows whole_old.cells) whole_batch.cells;
      order = order;
      timed = recursion_from_All (IsTimed col) (laid_rows old batch runs) (all-laid (IsTimed col) wide batch.rows runs (all-map (IsTimed col) (with_missing batch.kinds) (λ r. (length r ≡ n) × IsTimed old.time_col r) (λ r h. λ null. h.1 (ap (cell_at r) same_col ∙ sym (wide_cell batch.kinds r col (let size = h.0 in omega arith)) ∙ null)) old.rows (λ k d lt. (whole_old.cells k d lt, old_timed k d lt))) new_timed);
    }

-- runs of two blocks are runs of their columns
pub runs_fit : (old batch : Block) (col : ℕ) (first second : CellsOf) (runs : List Run) → length first.cells ≡ length old.rows → second ≡ column_in batch col → AreRunsOf (length old.rows) (length batch.rows) runs → All (IsRunOf (length first.cells) (length second.cells)) runs
runs_fit old batch col first second runs m is fit =
    let n : length second.cells ≡ length batch.rows = ap (λ (c : CellsOf). length c.cells) is ∙ length-map batch.rows (λ r. cell_at r col) in
    subst (λ (k : ℕ). All (IsRunOf k (length second.cells)) runs) (sym m) (subst (λ (k : ℕ). All (IsRunOf (length old.rows) k) runs) (sym n) fit)

pub column_size : (old : Block) (col : ℕ) (first : CellsOf) → first ≡ column_in old col → length first.cells ≡ length old.rows
column_size old col first is = ap (λ (c : CellsOf). length c.cells) is ∙ length-map old.rows (λ r. cell_at r col)

-- a column that a block lacks
abbrev pub lacking_of : Block → Block → ℕ → CellsOf
lacking_of old batch col = record { kind = (column_in batch col).kind; cells = replicate (length old.rows) (missing (column_in batch col).kind) }

pub lacking_is : (old batch : Block) (col n : ℕ) (kind : ColType) (second column : CellsOf) → kind ≡ second.kind → second ≡ column_in batch col → n ≡ length old.rows → column ≡ record { kind = kind; cells = replicate n (missing kind) } → column ≡ lacking_of old batch col
lacking_is old batch col n kind second column k is size e = e ∙ ap₂ (λ (x : ColType) (m : ℕ). record { kind = x; cells = replicate m (missing x) }) (k ∙ ap (λ (c : CellsOf). c.kind) is) size

pub lacking_size : (old batch : Block) (col : ℕ) (column : CellsOf) → column ≡ lacking_of old batch col → length column.cells ≡ length old.rows
lacking_size old batch col column is = ap (λ (c : CellsOf). length c.cells) is ∙ length-replicate (length old.rows) (missing (column_in batch col).kind)

-- the columns of all rows make the block
pub block_made : (old batch : Block) (runs : List Run) (columns : List CellsOf) (n : ℕ) → IsWhole old → IsWhole batch → old.time_col ≡ batch.time_col → take (length old.kinds) batch.kinds ≡ old.kinds → IsInOrder batch.time_col (laid_rows old batch runs) → columns ≡ map (column_in (record batch { rows = laid_rows old batch runs })) (range_with_len 0 (length batch.kinds)) → n ≡ length (laid_rows old batch runs)
    → IsBlock n batch.time_col columns × (block_of n batch.time_col columns ≡ record batch { rows = laid_rows old batch runs })
block_made old batch runs columns n whole_old whole_batch same_col kinds order columns_are size =
    let made : Block = record batch { rows = laid_rows old batch runs } in
    let laid = block_laid made n size (laid_whole old batch runs whole_old whole_batch same_col (kinds_narrow old batch kinds) order) in
    subst (λ (cs : List CellsOf). IsBlock n batch.time_col cs × (block_of n batch.time_col cs ≡ made)) (sym columns_are) laid

-- the designated column is there
pub designated_within : (b : Block) → IsWhole b → b.time_col < length b.kinds
designated_within b whole = got_there b.kinds b.time_col kind.Time whole.designated

-- how many columns there are so far, and how many rows one of all columns has
pub columns_filled : (made : Block) (columns : List CellsOf) (n : ℕ) → columns ≡ map (column_in made) (range_with_len 0 n) → length columns ≡ n
columns_filled made columns n are = ap length are ∙ length-map-range_with_len (column_in made) 0 n

pub rows_counted : (made : Block) (columns : List CellsOf) (k : ℕ) (d x : CellsOf) (n : ℕ) → columns ≡ map (column_in made) (range_with_len 0 (length made.kinds)) → k < length made.kinds → x ≡ get_or columns k d → n ≡ length x.cells → n ≡ length made.rows
rows_counted made columns k d x n are low at size =
    let column : x ≡ column_in made k = at ∙ ap (λ (l : List CellsOf). get_or l k d) are ∙ get_or-map-range_with_len (column_in made) 0 (length made.kinds) k k d low (omega arith) in
    size ∙ ap (λ (c : CellsOf). length c.cells) column ∙ length-map made.rows (λ r. cell_at r k)
