use Rattle.std.proofs.Common.{◌≡◌, ◌++◌, List, map, flat_map, take}
use Rattle.qd_base.specs.declared.cell.Cell.{Cell}
use Rattle.qd_print.specs.Printed.{csv_cell, csv_line}
use Rattle.qd_print.proofs.push_csv.Given as goal

-- the rows so far are written
abbrev pub invariant-loop-row : goal.invariant-loop-row
invariant-loop-row l = l.out.items ≡ l.initial.out.items ++ flat_map (λ (row : List Cell). csv_line (map csv_cell row)) (take l.row-index l.table.rows)
