use Rattle.std.proofs.Common.{◌≡◌, ◌∙◌, ◌<◌, List, length, get_or, ap, arith}
use Rattle.qd_base.specs.declared.cell.Cell.{Cell}
use Rattle.qd_base.specs.declared.cell.Cell.TheVariants as cell
use Rattle.qd_base.specs.Rows.{cell_at}
use Rattle.std.proofs.lemmas.List.{get_or_default}
use Rattle.qd_print.specs.Printed.{csv_cell}
use Rattle.qd_print.proofs.LengthLemmas.{line_total}
use Rattle.qd_value.specs.Scalars.{cell_of}
use Rattle.qd_query.proofs.Lines.{line_more}
use Rattle.qd_query.proofs.partitions.line_len.Goals as goal

pub loop-cell-preserved : goal.loop-cell-preserved
loop-cell-preserved c =
    let row : List Cell = c.args.row.now in
    let i = c.loop-cell.cell-index in
    let lent : c.as_slice-cell-items.result.now ≡ row = c.as_slice-cell-items.ensures.items in
    let size = ap length lent in
    let low : i < length row = omega (arith, size, c.loop-cell-test.true) in
    let same : cell_of c.of.result ≡ cell_at row i =
    c.of.ensures.same ∙ c.cell-item.is ∙ ap (λ (l : List Cell). get_or l i c.cell-item.result) lent ∙ get_or_default row i c.cell-item.result cell.Null low in
    line_more row i c.loop-cell.len c.value_len.result c.saturating_add.result c.saturating_add-len.result (cell_of c.of.result) low same c.loop-cell.invariant c.value_len.ensures.value c.saturating_add.ensures
    c.saturating_add-len.ensures

pub returns : goal.returns
returns c =
    let size = ap length c.as_slice-cell-items.ensures.items in
    record { length = line_total csv_cell c.args.row.now c.loop-cell.cell-index c.loop-cell.len c.max.result (omega (arith, size, c.loop-cell-test.false)) c.loop-cell.invariant c.max.ensures }
