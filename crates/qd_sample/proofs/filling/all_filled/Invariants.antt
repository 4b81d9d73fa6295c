use Rattle.std.proofs.Common.{◌≡◌, map, take}
use Rattle.qd_value.specs.Scalars.{cell_of}
use Rattle.qd_sample.specs.Cells.{filled_by}
use Rattle.qd_sample.proofs.filling.all_filled.Given as goal

-- the keys so far
abbrev pub invariant-loop-before : goal.invariant-loop-before
invariant-loop-before l = map (λ c. map cell_of c.items) l.all.items ≡ map (filled_by l.fills) (map (λ c. map cell_of c.items) (take l.before-index l.befores))
