use Rattle.std.proofs.Common.{◌≡◌, ◌∙◌, ◌<◌, ◌++◌, ◌∷◌, [], ap, sym, List, length, map, take, get_or, arith, append_assoc}
use Rattle.std.proofs.lemmas.List.{take_all, map_more}
use Rattle.qd_base.specs.declared.cell.Cell.{Cell}
use Rattle.qd_base.specs.declared.cell.Cell.TheVariants as cell
use Rattle.qd_base.specs.Rows.{Row}
use Rattle.qd_column.specs.Cells.{CellsOf, cell_of_row}
use Rattle.qd_column.proofs.ListLemmas.{got}
use Rattle.qd_block.specs.Blocks.{Block, row_at}
use Rattle.qd_block.proofs.RowLemmas.{length-rows_of, get_or-rows_of}
use Rattle.qd_block.proofs.block.Block.with_cells.Goals as goal

pub cell-requires : goal.cell-requires
cell-requires g c =
    let n = c.self.inside.rows in
    let columns = c.self.inside.columns.items in
    let k = c.loop-column.column-index in
    let x = c.column-item.result in
    let at : x ≡ get_or columns k x = c.column-item.is ∙ ap (λ (cs : List CellsOf). get_or cs k x) c.deref-column-items.ensures.value in
    let size : length (get_or columns k x).cells ≡ n = c.self.invariant.sizes k x (omega (arith, ap length c.deref-column-items.ensures.value)) in
    omega (arith, ap (λ (y : CellsOf). length y.cells) at, size, c.requires, ap (λ (b : Block). length b.rows) c.self.view_is, length-rows_of n columns)

pub loop-column-preserved : goal.loop-column-preserved
loop-column-preserved g c =
    let n = c.self.inside.rows in
    let columns = c.self.inside.columns.items in
    let k = c.loop-column.column-index in
    let x = c.column-item.result in
    let items = c.deref-column-items.result.now in
    let f : CellsOf → Cell = λ (y : CellsOf). cell_of_row y c.args.i in
    let at : x ≡ get_or columns k x = c.column-item.is ∙ ap (λ (cs : List CellsOf). get_or cs k x) c.deref-column-items.ensures.value in
    let size : length (get_or columns k x).cells ≡ n = c.self.invariant.sizes k x (omega (arith, ap length c.deref-column-items.ensures.value)) in
    let low : c.args.i < length x.cells = omega (arith, ap (λ (y : CellsOf). length y.cells) at, size, c.requires, ap (λ (b : Block). length b.rows) c.self.view_is, length-rows_of n columns) in
    let found : f x ≡ c.in_ok-cell.field-0 = got x.cells c.args.i cell.Null c.in_ok-cell.field-0 low c.in_ok-cell.ensures.cell in
    let item : c.in_ok-cell.field-0 ≡ f (get_or items k x) = sym found ∙ ap f c.column-item.is in
    c.in_ok-push.ensures.ok
    ∙ ap (λ (r : Row). r ++ c.in_ok-cell.field-0 ∷ []) c.loop-column.invariant
    ∙ append_assoc c.args.row (map f (take k items)) (c.in_ok-cell.field-0 ∷ [])
    ∙ ap (λ (y : Cell). c.args.row ++ (map f (take k items) ++ y ∷ [])) item
    ∙ ap (λ (r : Row). c.args.row ++ r) (sym (map_more f items k x c.loop-column-test.true))

pub returns : goal.returns
returns g c =
    let n = c.self.inside.rows in
    let columns = c.self.inside.columns.items in
    let items = c.deref-column-items.result.now in
    let f : CellsOf → Cell = λ (y : CellsOf). cell_of_row y c.args.i in
    let low : c.args.i < n = omega (arith, c.requires, ap (λ (b : Block). length b.rows) c.self.view_is, length-rows_of n columns) in
    let all : take c.loop-column.column-index items ≡ columns = take_all c.loop-column.column-index items c.loop-column-test.false ∙ c.deref-column-items.ensures.value in
    let row : row_at columns c.args.i ≡ get_or c.args.self.now.rows c.args.i [] = sym (get_or-rows_of n c.args.i columns [] low) ∙ ap (λ (b : Block). get_or b.rows c.args.i []) c.self.view_is in
    record { cells = c.loop-column.invariant ∙ ap (λ (cs : List CellsOf). c.args.row ++ map f cs) all ∙ ap (λ (r : Row). c.args.row ++ r) row }
