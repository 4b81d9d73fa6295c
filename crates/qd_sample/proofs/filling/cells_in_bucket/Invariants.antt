use Rattle.std.proofs.Common.{◌≡◌, length, map, take}
use Rattle.qd_value.specs.Scalars.{cell_of}
use Rattle.qd_sample.specs.Cells.{next_cells}
use Rattle.qd_sample.proofs.filling.cells_in_bucket.Given as goal

-- the cells with the groups so far
abbrev pub invariant-loop-group : goal.invariant-loop-group
invariant-loop-group l =
    (length l.now.items ≡ length l.befores)
    × (map (λ c. map cell_of c.items) l.now.items ≡ next_cells (map (λ c. map cell_of c.items) l.columns) l.keys l.fills (map (λ c. map cell_of c.items) l.befores) (take l.group-index l.groups))
