use Rattle.std.proofs.Common.{◌≡◌, ◌+◌, length, map, min, sum_by, take}
use Rattle.qd_base.specs.declared.schema.Col.{Col}
use Rattle.qd_print.specs.Printed.{csv_line, csv_text}
use Rattle.qd_query.proofs.Lines.{line_bytes}
use Rattle.qd_query.proofs.partitions.table_len.Given as goal

-- the header and the rows so far are counted
abbrev pub invariant-loop-row : goal.invariant-loop-row
invariant-loop-row l = l.len ≡ min (length (csv_line (map (λ (c : Col). csv_text c.name) l.cols)) + sum_by line_bytes (take l.row-index l.rows)) 18446744073709551615
