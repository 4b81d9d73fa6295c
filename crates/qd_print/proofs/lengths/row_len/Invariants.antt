use Rattle.std.proofs.Common.{◌≡◌, ◌+◌, length, min, sum_by, take}
use Rattle.qd_base.specs.declared.cell.Cell.{Cell}
use Rattle.qd_print.specs.Printed.{csv_cell}
use Rattle.qd_print.proofs.lengths.row_len.Given as goal

-- the cells so far are counted, and a byte behind each
abbrev pub invariant-loop-cell : goal.invariant-loop-cell
invariant-loop-cell l = l.len ≡ min (sum_by (λ (c : Cell). length (csv_cell c) + 1) (take l.cell-index l.row)) 18446744073709551615
