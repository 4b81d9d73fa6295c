-- The cells of rows that are there.
use Rattle.std.proofs.Common.{◌≡◌, ℕ, zero, suc, ◌+◌, ◌-◌, ◌<◌, ◌≤◌, List, [], ◌∷◌, ◌++◌, Option, Some, None, length, map, take, drop, get_or, refl, sym, ap, ◌∙◌, arith, subst, slice_get, length-append, length-drop}
use Rattle.std.proofs.lemmas.List.{get_or_append_left, get_or-append_right, get_or-map, get_or-drop, get_or_past, length-map, length-take, append-nil}
use Rattle.std.proofs.lemmas.Option.{get_or_from_slice_get}
use Rattle.qd_base.specs.declared.cell.Cell.{Cell}
use Rattle.qd_base.specs.declared.cell.Cell.TheVariants as cell
use Rattle.qd_base.specs.declared.schema.Col.{Col}
use Rattle.qd_base.specs.declared.schema.ColType.{ColType}
use Rattle.qd_base.specs.Database.{missing}
use Rattle.qd_base.specs.Rows.{Row, cell_at}
use Rattle.qd_column.specs.Cells.{cell_of_row}
use Rattle.qd_block.specs.Blocks.{Block, column_in, kinds_in, IsWhole}
use Rattle.qd_rows.specs.declared.runs.Run.{Run}
use Rattle.qd_rows.specs.Runs.{Spot}
use Rattle.qd_rows.specs.Sets.{ResultRows, Joined, absent, block_at, no_block, right_row, row_of_place, rows_in, side_row, IsPlaced, IsRight, IsRowAt, IsRunOf}
use Rattle.qd_rows.proofs.SetLemmas.{found_image}
use Rattle.qd_expr.specs.Passing.{row_in}

-- the row of a position is that of the place that stands there
pub row_found : (s : ResultRows) (i : ℕ) (p : Joined) → slice_get s.places i ≡ Some p → row_in s i ≡ row_of_place s p
row_found s i p e = get_or_from_slice_get (rows_in s) i (row_of_place s p) [] (found_image (row_of_place s) s.places i p e)

pub block_found : (blocks : List Block) (i : ℕ) (b : Block) → slice_get blocks i ≡ Some b → block_at blocks i ≡ b
block_found blocks i b e = get_or_from_slice_get blocks i b no_block e

pub few_kinds : (kinds : List ColType) (cols : List Col) → kinds ≡ take (length kinds) (kinds_in cols) → length kinds ≤ length cols
few_kinds kinds cols e = omega (arith, ap length e, length-take (length kinds) (kinds_in cols), length-map cols (λ (c : Col). c.kind))

-- the row of a place in a whole block has a cell for each of the block's columns
row_size : (blocks : List Block) (cols : List Col) (p : Spot) → IsRowAt blocks cols p → IsWhole (block_at blocks p.0) → length (get_or (block_at blocks p.0).rows p.1 []) ≡ length (block_at blocks p.0).kinds
row_size blocks cols p at whole = whole.cells p.1 [] at.row

-- a side's row has a cell for each of its columns
pub length-side : (blocks : List Block) (cols : List Col) (p : Spot) → IsRowAt blocks cols p → IsWhole (block_at blocks p.0) → length (side_row blocks cols (Some p)) ≡ length cols
length-side blocks cols p at whole =
    let n = length (block_at blocks p.0).kinds in
    let row = get_or (block_at blocks p.0).rows p.1 [] in
    let size : length (get_or (block_at blocks p.0).rows p.1 []) ≡ length (block_at blocks p.0).kinds = row_size blocks cols p at whole in
    let few : length (block_at blocks p.0).kinds ≤ length cols = few_kinds (block_at blocks p.0).kinds cols at.kinds in
    omega (arith, length-append row (absent (drop n cols)), length-map (drop n cols) (λ (c : Col). missing c.kind), length-drop n cols)

-- a column that the block has
pub cell_there : (blocks : List Block) (cols : List Col) (p : Spot) (at : ℕ) → IsRowAt blocks cols p → IsWhole (block_at blocks p.0) → at < length (block_at blocks p.0).kinds
    → cell_of_row (column_in (block_at blocks p.0) at) p.1 ≡ cell_at (side_row blocks cols (Some p)) at
cell_there blocks cols p at is whole low =
    let b = block_at blocks p.0 in
    let row = get_or b.rows p.1 [] in
    let size : length (get_or (block_at blocks p.0).rows p.1 []) ≡ length (block_at blocks p.0).kinds = row_size blocks cols p is whole in
    get_or-map (λ r. cell_at r at) b.rows p.1 [] cell.Null is.row ∙ sym (get_or_append_left row (absent (drop (length b.kinds) cols)) cell.Null at (omega arith))

sub-zero : (a : ℕ) → a - 0 ≡ a
sub-zero a = omega arith

less-one : (a n : ℕ) → suc a - suc n ≡ a - n
less-one a n = omega arith

absent_behind : (cols : List Col) (n at : ℕ) → n ≤ at → cell_at (absent (drop n cols)) (at - n) ≡ cell_at (absent cols) at
absent_behind cols zero at h = ap (cell_at (absent cols)) (sub-zero at)
absent_behind [] (suc n) at h = refl
absent_behind (c ∷ cs) (suc n) zero h = absurd (omega arith)
absent_behind (c ∷ cs) (suc n) (suc at) h = ap (cell_at (absent (drop n cs))) (less-one at n) ∙ absent_behind cs n at (omega arith)

-- a column that the block lacks
pub cell_absent : (blocks : List Block) (cols : List Col) (p : Spot) (at : ℕ) → IsRowAt blocks cols p → IsWhole (block_at blocks p.0) → length (block_at blocks p.0).kinds ≤ at
    → cell_at (absent cols) at ≡ cell_at (side_row blocks cols (Some p)) at
cell_absent blocks cols p at is whole high =
    let b = block_at blocks p.0 in
    let row = get_or b.rows p.1 [] in
    let n = length b.kinds in
    sym (get_or-append_right row (absent (drop n cols)) n at cell.Null (row_size blocks cols p is whole) high ∙ absent_behind cols n at high)

-- a cell of the left side, of the right side, and behind both
pub cell_left : (s : ResultRows) (p : Joined) (at n : ℕ) → length (side_row s.blocks s.left (Some p.0)) ≡ n → at < n → cell_at (side_row s.blocks s.left (Some p.0)) at ≡ cell_at (row_of_place s p) at
cell_left s p at n size low = sym (get_or_append_left (side_row s.blocks s.left (Some p.0)) (right_row s.blocks s.right p.1) cell.Null at (omega arith))

pub cell_right : (s : ResultRows) (p : Joined) (at n : ℕ) (cols : List Col) → s.right ≡ Some cols → length (side_row s.blocks s.left (Some p.0)) ≡ n → n ≤ at → cell_at (side_row s.blocks cols p.1) (at - n) ≡ cell_at (row_of_place s p) at
cell_right s p at n cols e size high =
    sym (get_or-append_right (side_row s.blocks s.left (Some p.0)) (right_row s.blocks s.right p.1) n at cell.Null size high ∙ ap (λ (o : Option (List Col)). cell_at (right_row s.blocks o p.1) (at - n)) e)

pub cell_behind : (s : ResultRows) (p : Joined) (at n : ℕ) → s.right ≡ None → length (side_row s.blocks s.left (Some p.0)) ≡ n → n ≤ at → cell.Null ≡ cell_at (row_of_place s p) at
cell_behind s p at n e size high =
    sym (get_or-append_right (side_row s.blocks s.left (Some p.0)) (right_row s.blocks s.right p.1) n at cell.Null size high ∙ ap (λ (o : Option (List Col)). cell_at (right_row s.blocks o p.1) (at - n)) e)

no_right : (blocks : List Block) (right : Option (List Col)) → IsRight blocks right None
no_right blocks None = refl
no_right blocks (Some cols) = tt

-- a row of a run is there, without a right row
pub run_placed : (s : ResultRows) (r : Run) (i : ℕ) → IsRunOf s r → r.from ≤ i → i < r.to → IsPlaced s ((r.block, i), None)
run_placed s r i there low high =
    record {
      left = record { block = there.block; row = omega (arith, there.within); kinds = there.kinds };
      right = no_right s.blocks s.right;
    }
