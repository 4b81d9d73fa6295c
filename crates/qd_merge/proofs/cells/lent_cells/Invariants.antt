use Rattle.std.proofs.Common.{◌≡◌, map, take}
use Rattle.qd_base.specs.Rows.{cell_at}
use Rattle.qd_merge.specs.Classes.{cell_of}
use Rattle.qd_merge.proofs.cells.lent_cells.Given as goal

-- the cells of the rows so far
abbrev pub invariant-loop-row : goal.invariant-loop-row
invariant-loop-row l = map cell_of l.cells.items ≡ map (λ r. cell_at r l.col) (take l.row-index l.rows)
