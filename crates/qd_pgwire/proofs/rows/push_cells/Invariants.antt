use Rattle.std.proofs.Common.{◌≡◌, ◌++◌, take}
use Rattle.std.specs.List.{flat_map}
use Rattle.qd_pgwire.specs.Replies.{cell_value}
use Rattle.qd_pgwire.proofs.rows.push_cells.Given as goal

-- what was gone over is written
abbrev pub invariant-loop-cell : goal.invariant-loop-cell
invariant-loop-cell l = l.out.items ≡ l.initial.out.items ++ flat_map cell_value (take l.cell-index l.cells)
