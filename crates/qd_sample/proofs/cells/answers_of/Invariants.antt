use Rattle.std.proofs.Common.{◌≡◌, map, take}
use Rattle.qd_value.specs.Scalars.{cell_of}
use Rattle.qd_sample.specs.Cells.{answers_at}
use Rattle.qd_sample.proofs.cells.answers_of.Given as goal

-- the answers so far
abbrev pub invariant-loop-column : goal.invariant-loop-column
invariant-loop-column l = map cell_of l.cells.items ≡ answers_at (map (λ c. map cell_of c.items) (take l.column-index l.columns)) l.group
