use Rattle.std.proofs.Common.{rules}
use Rattle.qd_base.specs.declared.cell.Cell.TheVariants as cell
use Rattle.qd_column.specs.Cells.{long_cell}
use Rattle.qd_value.specs.Cells as spec
use Rattle.qd_expr.proofs.ListLemmas.{image_by}
use Rattle.qd_expr.proofs.columns.against_number.Goals as goal

pub returns-in_ok-compared_longs-in-Long : goal.returns-in_ok-compared_longs-in-Long
returns-in_ok-compared_longs-in-Long g c =
    record {
      truths = image_by _ long_cell (λ x. spec.compares c.args.op x (cell.Long c.args.y)) _ c.longs.result.now c.args.column.now.cells c.args.from c.args.to (λ x. search rules) c.in_ok-compared_longs-in-Long.ensures.truths c.longs.ensures.cells;
    }
