-- Blocks of whole columns.
use Rattle.std.proofs.Common.{◌≡◌, ℕ, zero, suc, ◌+◌, ◌-◌, ◌<◌, ◌≤◌, List, [], ◌∷◌, Some, length, map, take, drop, get_or, refl, sym, ap, ◌∙◌, arith, All, slice_get, slice_range, subst, length-drop}
use Rattle.std.specs.List.{AllByRecursion}
use Rattle.std.specs.List.Sorted.{IsNonDecreasing}
use Rattle.std.proofs.lemmas.List.{get_or-map, length-map, ext_get_or, get_or-take, get_or-drop, length-take-le}
use Rattle.qd_base.specs.declared.cell.Cell.{Cell}
use Rattle.qd_base.specs.declared.cell.Cell.TheVariants as cell
use Rattle.qd_base.specs.declared.schema.ColType.{ColType}
use Rattle.qd_base.specs.declared.schema.ColType.TheVariants as kind
use Rattle.qd_base.specs.Rows.{Row, cell_at, time_of, time_in}
use Rattle.qd_base.specs.Laws.{IsInOrder}
use Rattle.qd_base.specs.declared.schema.Col.{Col}
use Rattle.qd_base.proofs.Sorted.{stable_is_put}
use Rattle.qd_column.specs.Cells.{CellsOf, cell_of_row, cells_at, no_cells}
use Rattle.qd_column.proofs.ListLemmas.{got}
use Rattle.qd_block.specs.Blocks.{Block, Building, block_of, building_of, row_at, rows_of, kinds_of, kinds_in, column_in, part_of_column, in_time_order, IsTimed, IsBlock, IsBuilding, IsWhole}
use Rattle.qd_block.proofs.RowLemmas.{length-rows_of, get_or-rows_of, column_of_rows, kind_at, got_there, rows_chosen, kinds_kept}
use Rattle.qd_block.proofs.BuildLemmas.{next_col}
use Rattle.qd_block.proofs.OrderLemmas.{AreTimes, ArePlaced, rows_rise}

pub designated_there : (columns : List CellsOf) (time_col : ℕ) → slice_get (kinds_of columns) time_col ≡ Some kind.Time → time_col < length columns
designated_there columns time_col h = let there = got_there (kinds_of columns) time_col kind.Time h in omega (arith, length-map columns (λ (c : CellsOf). c.kind))

-- a builder without an open row has columns of one length
pub nothing_open : (n filled time_col : ℕ) (columns : List CellsOf) (b : Building) → IsBuilding n filled time_col columns → building_of n filled time_col columns ≡ b → b.open_row ≡ [] → All (λ (c : CellsOf). length c.cells ≡ n) columns
nothing_open n filled time_col columns b is view none k d h =
    let zero_filled : filled ≡ 0 = sym (next_col n filled time_col columns is) ∙ ap (λ (x : Building). length x.open_row) view ∙ ap length none in
    is.others k d (omega arith) h

-- the columns as they are, where the times rise
pub block_as_is : (n filled time_col : ℕ) (columns : List CellsOf) (times : List ℕ) → IsBuilding n filled time_col columns → All (λ (c : CellsOf). length c.cells ≡ n) columns → AreTimes n time_col columns times → IsNonDecreasing times → IsBlock n time_col columns × (rows_of n columns ≡ in_time_order time_col (rows_of n columns))
block_as_is n filled time_col columns times is sizes are rising =
    let order = rows_rise n time_col columns times are rising in
    (record { sizes = sizes; few = is.few; designated = is.designated; order = order; timed = is.timed }, stable_is_put time_col (rows_of n columns) (rows_of n columns) order (λ t. refl))

chosen_sizes : (columns : List CellsOf) (places : List ℕ) (n : ℕ) → length places ≡ n → All (λ (c : CellsOf). length c.cells ≡ n) (map (λ (c : CellsOf). cells_at c places) columns)
chosen_sizes [] places n e k d h = absurd (omega arith)
chosen_sizes (c ∷ cs) places n e zero d h = length-map places (cell_of_row c) ∙ e
chosen_sizes (c ∷ cs) places n e (suc k) d h = chosen_sizes cs places n e k d (omega arith)

-- the columns gathered in order of time
pub block_gathered : (n filled time_col : ℕ) (columns made : List CellsOf) (places : List ℕ) → IsBuilding n filled time_col columns → ArePlaced n time_col columns places → made ≡ map (λ (c : CellsOf). cells_at c places) columns → IsBlock n time_col made × (block_of n time_col made ≡ record { kinds = kinds_of columns; time_col = time_col; rows = in_time_order time_col (rows_of n columns) })
block_gathered n filled time_col columns made places is are e =
    let chosen = map (λ (c : CellsOf). cells_at c places) columns in
    let rows : rows_of n chosen ≡ map (row_at columns) places = ap (λ (k : ℕ). rows_of k chosen) (sym are.count) ∙ rows_chosen columns places in
    let kinds : kinds_of chosen ≡ kinds_of columns = kinds_kept columns (λ (c : CellsOf). cells_at c places) (λ c. refl) in
    let block : IsBlock n time_col chosen = record {
      sizes = chosen_sizes columns places n are.count;
      few = omega (arith, length-map columns (λ (c : CellsOf). cells_at c places), is.few);
      designated = ap (λ (ks : List ColType). slice_get ks time_col) kinds ∙ is.designated;
      order = subst (IsInOrder time_col) (sym rows) are.order;
      timed = subst (λ (rs : List Row). AllByRecursion (IsTimed time_col) rs) (sym rows) are.timed;
    } in
    (subst (IsBlock n time_col) (sym e) block, ap (block_of n time_col) e ∙ ap (λ (ks : List ColType). record { kinds = ks; time_col = time_col; rows = rows_of n chosen }) kinds ∙ ap (λ (rs : List Row). record { kinds = kinds_of columns; time_col = time_col; rows = rs }) (rows ∙ are.rows))

-- each place is in each column
pub places_within : (n : ℕ) (columns : List CellsOf) (places : List ℕ) → All (λ (c : CellsOf). length c.cells ≡ n) columns → All (λ i. i < n) places → All (λ (c : CellsOf). All (λ i. i < length c.cells) places) columns
places_within n columns places sizes within k d h j e low = subst (λ (m : ℕ). get_or places j e < m) (sym (sizes k d h)) (within j e low)

-- a column of a block
pub column_shown : (n time_col k : ℕ) (columns : List CellsOf) (d : CellsOf) → IsBlock n time_col columns → k < length columns → get_or columns k d ≡ column_in (block_of n time_col columns) k
column_shown n time_col k columns d is there =
    ap (λ (t : ColType). record { kind = t; cells = (get_or columns k d).cells }) (sym (kind_at columns k d kind.Time there)) ∙ ap (λ (cs : List Cell). record { kind = get_or (kinds_of columns) k kind.Time; cells = cs }) (sym (column_of_rows n k columns d there (is.sizes k d there)))

-- the designated timestamps
pub times_shown : (n time_col : ℕ) (columns : List CellsOf) (times : List ℕ) → AreTimes n time_col columns times → map (λ t. cell.Time t) times ≡ map (λ r. cell_at r time_col) (rows_of n columns)
times_shown n time_col columns times are =
    let f : ℕ → Cell = λ t. cell.Time t in
    let h : Row → Cell = λ r. cell_at r time_col in
    ext_get_or cell.Null (map f times) (map h (rows_of n columns)) (length-map times f ∙ are.count ∙ sym (length-map (rows_of n columns) h ∙ length-rows_of n columns)) (λ i lt. let low : i < n = omega (arith, length-map times f, are.count) in get_or-map f times i 0 cell.Null (omega (arith, are.count)) ∙ sym (are.each i low) ∙ ap h (sym (get_or-rows_of n i columns [] low)) ∙ sym (get_or-map h (rows_of n columns) i [] cell.Null (omega (arith, length-rows_of n columns))))

pub time_read : (times : List ℕ) (rows : List Row) (col i : ℕ) (row : Row) → map (λ t. cell.Time t) times ≡ map (λ r. cell_at r col) rows → i < length rows → slice_get rows i ≡ Some row → get_or times i 0 ≡ time_of col row
time_read times rows col i row same low e =
    let f : ℕ → Cell = λ t. cell.Time t in
    let h : Row → Cell = λ r. cell_at r col in
    let count : length times ≡ length rows = sym (length-map times f) ∙ ap length same ∙ length-map rows h in
    let at : cell.Time (get_or times i 0) ≡ cell_at row col = sym (get_or-map f times i 0 cell.Null (omega arith)) ∙ ap (λ (cs : List Cell). get_or cs i cell.Null) same ∙ get_or-map h rows i [] cell.Null low ∙ ap h (got rows i [] row low e) in
    ap time_in at

-- a part of the rows
row_part : (columns : List CellsOf) (a b i : ℕ) → i < b - a → row_at (map (part_of_column a b) columns) i ≡ row_at columns (a + i)
row_part [] a b i h = refl
row_part (c ∷ cs) a b i h = ap (λ (x : Cell). x ∷ row_at (map (part_of_column a b) cs) i) (get_or-take (b - a) (drop a c.cells) i cell.Null h ∙ get_or-drop a c.cells i cell.Null) ∙ ap (λ (r : Row). cell_of_row c (a + i) ∷ r) (row_part cs a b i h)

length-part : {X : Type 0} (xs : List X) (a b : ℕ) → b ≤ length xs → length (slice_range xs a b) ≡ b - a
length-part xs a b h = length-take-le (b - a) (drop a xs) (omega (arith, length-drop a xs))

rows_part : (n a b : ℕ) (columns : List CellsOf) → a ≤ b → b ≤ n → rows_of (b - a) (map (part_of_column a b) columns) ≡ slice_range (rows_of n columns) a b
rows_part n a b columns low high =
    let parts = map (part_of_column a b) columns in
    let size : length (slice_range (rows_of n columns) a b) ≡ b - a = length-part (rows_of n columns) a b (omega (arith, length-rows_of n columns)) in
    ext_get_or [] (rows_of (b - a) parts) (slice_range (rows_of n columns) a b) (length-rows_of (b - a) parts ∙ sym size) (λ i lt. let small : i < b - a = omega (arith, length-rows_of (b - a) parts) in
    get_or-rows_of (b - a) i parts [] small ∙ row_part columns a b i small ∙ sym (get_or-rows_of n (a + i) columns [] (omega arith)) ∙ sym (get_or-take (b - a) (drop a (rows_of n columns)) i [] small ∙ get_or-drop a (rows_of n columns) i []))

each-take : {X : Type 0} (P : X → Type 0) (n : ℕ) (xs : List X) → AllByRecursion P xs → AllByRecursion P (take n xs)
each-take P zero xs h = tt
each-take P (suc n) [] h = tt
each-take P (suc n) (x ∷ xs) h = (h.0, each-take P n xs h.1)

each-drop : {X : Type 0} (P : X → Type 0) (n : ℕ) (xs : List X) → AllByRecursion P xs → AllByRecursion P (drop n xs)
each-drop P zero xs h = h
each-drop P (suc n) [] h = tt
each-drop P (suc n) (x ∷ xs) h = each-drop P n xs h.1

order-take : (col n : ℕ) (xs : List Row) → IsInOrder col xs → IsInOrder col (take n xs)
order-take col zero xs h = tt
order-take col (suc n) [] h = tt
order-take col (suc n) (x ∷ xs) h = (each-take (λ y. time_of col x ≤ time_of col y) n xs h.0, order-take col n xs h.1)

order-drop : (col n : ℕ) (xs : List Row) → IsInOrder col xs → IsInOrder col (drop n xs)
order-drop col zero xs h = h
order-drop col (suc n) [] h = tt
order-drop col (suc n) (x ∷ xs) h = order-drop col n xs h.1

part_sizes : (n a b : ℕ) (columns : List CellsOf) → b ≤ n → All (λ (c : CellsOf). length c.cells ≡ n) columns → All (λ (c : CellsOf). length c.cells ≡ b - a) (map (part_of_column a b) columns)
part_sizes n a b [] high each k d h = absurd (omega arith)
part_sizes n a b (c ∷ cs) high each zero d h = length-part c.cells a b (omega (arith, each zero d (omega arith)))
part_sizes n a b (c ∷ cs) high each (suc k) d h = part_sizes n a b cs high (λ j e lt. each (suc j) e (omega arith)) k d (omega arith)

pub block_part : (n time_col a b : ℕ) (columns made : List CellsOf) (whole : Block) → IsBlock n time_col columns → block_of n time_col columns ≡ whole → a ≤ b → b ≤ length whole.rows → made ≡ map (part_of_column a b) columns → IsBlock (b - a) time_col made × (block_of (b - a) time_col made ≡ record whole { rows = slice_range whole.rows a b })
block_part n time_col a b columns made whole is view low high e =
    let parts = map (part_of_column a b) columns in
    let top : b ≤ n = omega (arith, high, ap (λ (x : Block). length x.rows) view, length-rows_of n columns) in
    let rows : rows_of (b - a) parts ≡ slice_range (rows_of n columns) a b = rows_part n a b columns low top in
    let kinds : kinds_of parts ≡ kinds_of columns = kinds_kept columns (part_of_column a b) (λ c. refl) in
    let block : IsBlock (b - a) time_col parts = record {
      sizes = part_sizes n a b columns top is.sizes;
      few = omega (arith, length-map columns (part_of_column a b), is.few);
      designated = ap (λ (ks : List ColType). slice_get ks time_col) kinds ∙ is.designated;
      order = subst (IsInOrder time_col) (sym rows) (order-take time_col (b - a) (drop a (rows_of n columns)) (order-drop time_col a (rows_of n columns) is.order));
      timed = subst (λ (rs : List Row). AllByRecursion (IsTimed time_col) rs) (sym rows) (each-take (IsTimed time_col) (b - a) (drop a (rows_of n columns)) (each-drop (IsTimed time_col) a (rows_of n columns) is.timed));
    } in
    (subst (IsBlock (b - a) time_col) (sym e) block, ap (block_of (b - a) time_col) e ∙ ap (λ (ks : List ColType). record { kinds = ks; time_col = time_col; rows = rows_of (b - a) parts }) kinds ∙ ap (λ (rs : List Row). record { kinds = kinds_of columns; time_col = time_col; rows = rs }) rows ∙ ap (λ (x : Block). record x { rows = slice_range x.rows a b }) view)

-- columns without rows
pub block_begun : (cols : List Col) (time_col : ℕ) (columns : List CellsOf) → columns ≡ map (λ (c : Col). no_cells c.kind) cols → length cols ≤ 256 → slice_get (kinds_in cols) time_col ≡ Some kind.Time → IsBuilding 0 0 time_col columns × (building_of 0 0 time_col columns ≡ record { kinds = kinds_in cols; time_col = time_col; rows = []; open_row = [] })
block_begun cols time_col columns e few designated =
    let empty = map (λ (c : Col). no_cells c.kind) cols in
    let kinds : kinds_of empty ≡ kinds_in cols = kinds_begun cols in
    let is : IsBuilding 0 0 time_col empty = record {
      begun = λ k d h. absurd (omega arith);
      others = λ k d low h. none_begun cols k d h;
      within = omega arith;
      few = omega (arith, length-map cols (λ (c : Col). no_cells c.kind));
      designated = ap (λ (ks : List ColType). slice_get ks time_col) kinds ∙ designated;
      timed = tt;
      open_timed = λ h. absurd (omega arith);
    } in
    (subst (IsBuilding 0 0 time_col) (sym e) is, ap (building_of 0 0 time_col) e ∙ ap (λ (ks : List ColType). record { kinds = ks; time_col = time_col; rows = []; open_row = [] }) kinds)
  where
    kinds_begun : (cols : List Col) → kinds_of (map (λ (c : Col). no_cells c.kind) cols) ≡ kinds_in cols
    kinds_begun [] = refl
    kinds_begun (c ∷ cs) = ap (λ (ks : List ColType). c.kind ∷ ks) (kinds_begun cs)

    none_begun : (cols : List Col) (k : ℕ) (d : CellsOf) → k < length (map (λ (c : Col). no_cells c.kind) cols) → length (get_or (map (λ (c : Col). no_cells c.kind) cols) k d).cells ≡ 0
    none_begun [] k d h = absurd (omega arith)
    none_begun (c ∷ cs) zero d h = refl
    none_begun (c ∷ cs) (suc k) d h = none_begun cs k d (omega arith)

-- every block is whole
pub block_is_whole : (n time_col : ℕ) (columns : List CellsOf) → IsBlock n time_col columns → IsWhole (block_of n time_col columns)
block_is_whole n time_col columns is =
    let size : (i : ℕ) → length (row_at columns i) ≡ length (kinds_of columns) = λ i. length-map columns (λ (c : CellsOf). cell_of_row c i) ∙ sym (length-map columns (λ (c : CellsOf). c.kind)) in
    record {
      few = omega (arith, length-map columns (λ (c : CellsOf). c.kind), is.few);
      designated = is.designated;
      cells = λ k d lt. let low : k < n = omega (arith, length-rows_of n columns) in ap length (get_or-rows_of n k columns d low) ∙ size k;
      order = is.order;
      timed = is.timed;
    }
