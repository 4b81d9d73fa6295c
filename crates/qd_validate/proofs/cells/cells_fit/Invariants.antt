use Rattle.std.proofs.Common.{ℕ, ◌<◌, get_or}
use Rattle.qd_base.specs.declared.schema.Col.{Col}
use Rattle.qd_base.specs.declared.cell.Cell.{Cell}
use Rattle.qd_base.specs.Lawful.{Takes}
use Rattle.qd_validate.proofs.cells.cells_fit.Given as goal

abbrev pub invariant-loop-i : goal.invariant-loop-i
invariant-loop-i l = (k : ℕ) (d : Col) (x : Cell) → k < l.i → Takes (get_or l.cols k d).kind (get_or l.row k x)
