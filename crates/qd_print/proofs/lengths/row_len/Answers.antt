use Rattle.std.proofs.Common.{arith, ap, length}
use Rattle.qd_print.specs.Printed.{csv_cell}
use Rattle.qd_print.proofs.LengthLemmas.{line_total}
use Rattle.qd_print.proofs.lengths.row_len.Goals as goal

pub returns : goal.returns
returns c =
    let lent = ap length c.as_slice-cell-items.ensures.items in
    line_total csv_cell c.args.row.now c.loop-cell.cell-index c.loop-cell.len c.max.result (omega arith) c.loop-cell.invariant c.max.ensures
