use Rattle.std.proofs.Common.{◌≡◌, map, take}
use Rattle.qd_value.specs.Scalars.{cell_of}
use Rattle.qd_sample.specs.Cells.{filled_by}
use Rattle.qd_sample.proofs.filling.filled.Given as goal

-- the cells so far
abbrev pub invariant-loop-i : goal.invariant-loop-i
invariant-loop-i l = map cell_of l.cells.items ≡ filled_by (take l.i l.fills) (take l.i (map cell_of l.before))
