use Rattle.std.proofs.Common.{◌≡◌, ◌+◌, List, length, map, min, sum_by, take}
use Rattle.qd_base.specs.declared.cell.Cell.{Cell}
use Rattle.qd_base.specs.declared.schema.Col.{Col}
use Rattle.qd_print.specs.Printed.{csv_cell, csv_line, csv_text}
use Rattle.qd_print.proofs.lengths.csv_len.Given as goal

-- the header and the rows so far are counted
abbrev pub invariant-loop-row : goal.invariant-loop-row
invariant-loop-row l = l.len ≡ min (length (csv_line (map (λ (c : Col). csv_text c.name) l.table.cols)) + sum_by (λ (row : List Cell). length (csv_line (map csv_cell row))) (take l.row-index l.table.rows)) 18446744073709551615
