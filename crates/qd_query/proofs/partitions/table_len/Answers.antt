use Rattle.std.proofs.Common.{map, arith}
use Rattle.qd_base.specs.declared.schema.Col.{Col}
use Rattle.qd_base.specs.Rows.{Row}
use Rattle.qd_print.specs.Printed.{csv_cell, csv_line, csv_text}
use Rattle.qd_print.proofs.LengthLemmas.{csv_total}
use Rattle.qd_query.proofs.partitions.table_len.Goals as goal

pub returns : goal.returns
returns c =
    record {
      length = csv_total (csv_line (map (λ (x : Col). csv_text x.name) c.args.cols.now)) (λ (row : Row). csv_line (map csv_cell row)) c.args.rows.now c.loop-row.row-index c.loop-row.len (omega arith) c.loop-row.invariant;
    }
