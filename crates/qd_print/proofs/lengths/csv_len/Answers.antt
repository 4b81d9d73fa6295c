use Rattle.std.proofs.Common.{arith, ap, length, List, map}
use Rattle.qd_base.specs.declared.cell.Cell.{Cell}
use Rattle.qd_base.specs.declared.schema.Col.{Col}
use Rattle.qd_print.specs.Printed.{csv_cell, csv_line, csv_text}
use Rattle.qd_print.proofs.LengthLemmas.{csv_total}
use Rattle.qd_print.proofs.lengths.csv_len.Goals as goal

pub returns : goal.returns
returns c =
    let table = c.args.table.now in
    let lent = ap length c.as_slice-row-items.ensures.items in
    csv_total (csv_line (map (λ (c : Col). csv_text c.name) table.cols)) (λ (row : List Cell). csv_line (map csv_cell row)) table.rows c.loop-row.row-index c.loop-row.len (omega arith) c.loop-row.invariant
