use Rattle.std.proofs.Common.{◌≡◌, ◌∙◌, [], ℕ, ap, sym, length, get_or, arith}
use Rattle.std.proofs.lemmas.List.{get_or-map}
use Rattle.qd_base.specs.declared.cell.Cell.TheVariants as cell
use Rattle.qd_base.specs.Rows.{Row, cell_at}
use Rattle.qd_column.specs.Cells.{CellsOf, cell_of_row}
use Rattle.qd_merge.proofs.Wide.{cell_behind}
use Rattle.qd_merge.proofs.cells.lent_in.Goals as goal

pub returns-then-cols-col : goal.returns-then-cols-col
returns-then-cols-col c =
    let row : Row = get_or c.args.block.now.rows c.args.place [] in
    let size : length row ≡ length c.args.block.now.kinds = c.is_whole.ensures.whole.cells c.args.place [] c.requires.there in
    record { cell = sym (cell_behind row c.args.col (omega (arith, c.cols.ensures.count))) }

pub returns : goal.returns
returns c =
    let rows = c.args.block.now.rows in
    record { cell = c.of_column.ensures.cell ∙ ap (λ (x : CellsOf). cell_of_row x c.args.place) c.column.ensures.column ∙ get_or-map (λ (r : Row). cell_at r c.args.col) rows c.args.place [] cell.Null c.requires.there }
