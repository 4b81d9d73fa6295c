use Rattle.std.proofs.Common.{◌++◌, ℕ, List, map, take}
use Rattle.qd_base.specs.declared.cell.Cell.{Cell}
use Rattle.qd_base.specs.declared.op.Op.{Op}
use Rattle.qd_lines.specs.Cells.{named_cell}
use Rattle.qd_lines.specs.Sinks.{with_row}
use Rattle.qd_lines.proofs.cells.push_cells.Given as goal

-- the cells of the columns so far
abbrev pub invariant-loop-j : goal.invariant-loop-j
invariant-loop-j g l =
    (table : List ℕ) (cells : List Cell) (ops : List Op) → g.T.OpSink.taken l.fn.sink (with_row table cells ops)
    → g.T.OpSink.taken l.sink (with_row table (cells ++ map (named_cell l.row.items) (take l.j l.cols)) ops)
