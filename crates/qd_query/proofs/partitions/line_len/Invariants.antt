use Rattle.std.proofs.Common.{◌≡◌, min, sum_by, take}
use Rattle.qd_query.proofs.Lines.{field_bytes}
use Rattle.qd_query.proofs.partitions.line_len.Given as goal

-- the values so far are counted, and a byte behind each
abbrev pub invariant-loop-cell : goal.invariant-loop-cell
invariant-loop-cell l = l.len ≡ min (sum_by field_bytes (take l.cell-index l.row)) 18446744073709551615
