use Rattle.std.proofs.Common.{arith}
use Rattle.qd_base.specs.declared.schema.Col.{Col}
use Rattle.qd_print.specs.Printed.{csv_text}
use Rattle.qd_print.proofs.LengthLemmas.{line_total}
use Rattle.qd_print.proofs.lengths.header_len.Goals as goal

pub returns : goal.returns
returns c =
    line_total (λ (c : Col). csv_text c.name) c.args.cols.now c.loop-col.col-index c.loop-col.len c.max.result (omega arith) c.loop-col.invariant c.max.ensures
