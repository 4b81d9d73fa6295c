use Rattle.std.proofs.Common.{◌≡◌, min, sum_by, take}
use Rattle.qd_meaning.specs.Answer.{output_row}
use Rattle.qd_meaning.specs.Grouped.{key_of}
use Rattle.qd_rows.specs.Sets.{row_of_place}
use Rattle.qd_query.proofs.Lines.{field_bytes}
use Rattle.qd_query.proofs.output.line_of_place.Given as goal

-- the values so far are counted, and a byte behind each
abbrev pub invariant-loop-at : goal.invariant-loop-at
invariant-loop-at g l = l.len ≡ min (sum_by field_bytes (take l.at (output_row l.plan.picks l.plan.out (key_of l.exprs (row_of_place l.rows l.place))))) 18446744073709551615
