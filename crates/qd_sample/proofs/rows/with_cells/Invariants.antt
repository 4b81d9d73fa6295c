use Rattle.std.proofs.Common.{◌≡◌, ◌++◌, map, take}
use Rattle.qd_value.specs.Scalars.{cell_of}
use Rattle.qd_sample.proofs.rows.with_cells.Given as goal

-- the cells so far
abbrev pub invariant-loop-cell : goal.invariant-loop-cell
invariant-loop-cell l = l.row ≡ l.fn.row ++ map cell_of (take l.cell-index l.cells)
