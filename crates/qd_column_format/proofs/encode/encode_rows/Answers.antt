use Rattle.std.proofs.Common.{ap, length, arith}
use Rattle.qd_column_format.proofs.TextLemmas.{length-cells}
use Rattle.qd_column_format.proofs.encode.encode_rows.Goals as goal

pub texts_added-requires-clause-from : goal.texts_added-requires-clause-from
texts_added-requires-clause-from g c = omega (arith, c.requires, ap length c.marks_and_bytes.ensures.cells, length-cells c.marks_and_bytes.result.1.now 0 c.marks_and_bytes.result.0.now)
