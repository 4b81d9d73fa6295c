use Rattle.std.proofs.Common.{arith, ap, length}
use Rattle.qd_print.specs.Printed.{csv_cell}
use Rattle.qd_print.proofs.PrintLemmas.{field_step}
use Rattle.qd_print.proofs.push_row.Goals as goal

pub loop-i-preserved : goal.loop-i-preserved
loop-i-preserved c =
    let lent = c.as_slice-cell-items.ensures.items in
    let within = ap length lent in
    let is = c.cell-item.is in
    field_step csv_cell c.args.out.now.items c.args.row.now c.loop-i.i c.cell-item.result (omega arith) (rw lent at is) _ _ _ c.loop-i.invariant c.in_ok-push_comma.ensures c.in_ok-push_cell.ensures
