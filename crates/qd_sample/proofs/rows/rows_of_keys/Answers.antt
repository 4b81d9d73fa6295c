use Rattle.std.proofs.Common.{◌∙◌, ◌++◌, [], ℕ, List, Vec, Global, ap, ap₂, arith, length, map, replicate, slice_index, slice_index_or, sym}
use Rattle.std.proofs.lemmas.List.{get_or-map, length-map, length-replicate}
use Rattle.qd_base.specs.declared.cell.Cell.TheVariants as cell
use Rattle.qd_base.specs.Rows.{Row}
use Rattle.qd_value.specs.declared.scalars.Scalar.{Scalar}
use Rattle.qd_value.specs.Scalars.{cell_of}
use Rattle.qd_sample.specs.Cells.{key_rows, next_cells, with_bucket}
use Rattle.qd_sample.proofs.Filled.{next_length}
use Rattle.qd_sample.proofs.Steps.{fold_range_more}
use Rattle.qd_sample.proofs.Turns.{next_wide, null_rows, rows_wide, shown_size, shown_wide}
use Rattle.qd_sample.proofs.rows.rows_of_keys.Goals as goal

pub loop-b-init : goal.loop-b-init
loop-b-init g c =
    let n : ℕ = length c.args.heads.now.firsts.now in
    let m : ℕ = length c.args.fills.now in
    let cells = c.in_ok-cells.cells.items in
    let none = c.in_ok-cells.ensures.nulls in (
      shown_size (λ (v : Vec Scalar Global). v.items) cells (replicate n (replicate m cell.Null)) none ∙ length-replicate n (replicate m cell.Null),
      shown_wide (λ (v : Vec Scalar Global). v.items) cells (replicate n (replicate m cell.Null)) none m (null_rows n m),
      ap₂ (λ (made cs : List Row). (made, cs)) c.new-made.ensures.empty none,
    )

pub push_keys-requires-clause-count : goal.push_keys-requires-clause-count
push_keys-requires-clause-count g c =
    let heads = c.args.heads.now in
    let b : ℕ = c.loop-b.b in
    let columns = map (λ (v : Vec Scalar Global). map cell_of v.items) c.args.columns.now in
    let lists = map (λ (v : Vec ℕ Global). v.items) c.args.lists.now in
    let befores = map (λ (v : Vec Scalar Global). map cell_of v.items) c.loop-b.cells.items in
    let fills = c.args.fills.now in
    let keys = c.args.keys.now in
    let read = c.as_slice-groups.ensures.value ∙ ap (λ (v : Vec ℕ Global). v.items) c.index-lists-b.is ∙ sym (get_or-map (λ (v : Vec ℕ Global). v.items) c.args.lists.now b c.index-lists-b.result [] (omega (arith, c.requires.count))) in
    let groups = slice_index_or lists b [] in
    let here = c.in_ok-cells-2.ensures.cells ∙ ap₂ (λ (bs : List (Vec Scalar Global)) (gs : List ℕ). next_cells columns keys fills (map (λ (v : Vec Scalar Global). map cell_of v.items) bs) gs) c.as_slice.ensures.value read in
    let now = next_cells columns keys fills befores groups in
    let size = shown_size (λ (v : Vec Scalar Global). v.items) c.in_ok-cells-2.cells.items now here ∙ next_length columns keys fills befores groups ∙ length-map c.loop-b.cells.items (λ (v : Vec Scalar Global). map cell_of v.items) ∙ c.loop-b.invariant.0 in
    ap length c.as_slice-in-loop-b.ensures.value ∙ size

pub loop-b-preserved : goal.loop-b-preserved
loop-b-preserved g c =
    let heads = c.args.heads.now in
    let b : ℕ = c.loop-b.b in
    let columns = map (λ (v : Vec Scalar Global). map cell_of v.items) c.args.columns.now in
    let lists = map (λ (v : Vec ℕ Global). v.items) c.args.lists.now in
    let befores = map (λ (v : Vec Scalar Global). map cell_of v.items) c.loop-b.cells.items in
    let fills = c.args.fills.now in
    let keys = c.args.keys.now in
    let read = c.as_slice-groups.ensures.value ∙ ap (λ (v : Vec ℕ Global). v.items) c.index-lists-b.is ∙ sym (get_or-map (λ (v : Vec ℕ Global). v.items) c.args.lists.now b c.index-lists-b.result [] (omega (arith, c.requires.count))) in
    let groups = slice_index_or lists b [] in
    let here = c.in_ok-cells-2.ensures.cells ∙ ap₂ (λ (bs : List (Vec Scalar Global)) (gs : List ℕ). next_cells columns keys fills (map (λ (v : Vec Scalar Global). map cell_of v.items) bs) gs) c.as_slice.ensures.value read in
    let now = next_cells columns keys fills befores groups in
    let size = shown_size (λ (v : Vec Scalar Global). v.items) c.in_ok-cells-2.cells.items now here ∙ next_length columns keys fills befores groups ∙ length-map c.loop-b.cells.items (λ (v : Vec Scalar Global). map cell_of v.items) ∙ c.loop-b.invariant.0 in
    let start : ℕ = slice_index c.args.starts.now b in
    let more = with_bucket heads.rows.now heads.keys.now heads.firsts.now columns keys fills c.args.starts.now lists in
    let begun : List Row × List Row = ([], replicate (length heads.firsts.now) (replicate (length fills) cell.Null)) in
    let wide = length-map c.args.columns.now (λ (v : Vec Scalar Global). map cell_of v.items) ∙ sym c.requires.fills in (
      size,
      shown_wide (λ (v : Vec Scalar Global). v.items) c.in_ok-cells-2.cells.items now here (length fills) (next_wide columns keys fills befores groups wide (rows_wide (λ (v : Vec Scalar Global). v.items) c.loop-b.cells.items (length fills) c.loop-b.invariant.1)),
      ap₂ (λ (made cs : List Row). (made, cs)) (c.in_ok-push_keys.ensures.rows ∙ ap (λ (cs : List Row). c.loop-b.made ++ key_rows heads.rows.now heads.keys.now heads.firsts.now cs start) (ap (map (λ (v : Vec Scalar Global). map cell_of v.items)) c.as_slice-in-loop-b.ensures.value ∙ here)) here
          ∙ ap (λ (done : List Row × List Row). more done b) c.loop-b.invariant.2
          ∙ sym (fold_range_more more begun b),
    )
