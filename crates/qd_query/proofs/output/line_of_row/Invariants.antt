use Rattle.std.proofs.Common.{◌≡◌, min, sum_by, take}
use Rattle.qd_meaning.specs.Answer.{output_row}
use Rattle.qd_query.proofs.Lines.{field_bytes}
use Rattle.qd_query.proofs.output.line_of_row.Given as goal

-- the values so far are counted, and a byte behind each
abbrev pub invariant-loop-at : goal.invariant-loop-at
invariant-loop-at l = l.len ≡ min (sum_by field_bytes (take l.at (output_row l.plan.picks l.plan.out l.row))) 18446744073709551615
