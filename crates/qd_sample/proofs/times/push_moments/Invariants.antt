use Rattle.std.proofs.Common.{◌≡◌, ◌++◌, map, take}
use Rattle.qd_base.specs.Rows.{time_in}
use Rattle.qd_column.specs.Cells.{time_cell}
use Rattle.qd_sample.proofs.times.push_moments.Given as goal

-- the moments so far
abbrev pub invariant-loop-moment : goal.invariant-loop-moment
invariant-loop-moment l = l.times.items ≡ l.initial.times.items ++ map (λ t. time_in (time_cell t)) (take l.moment-index l.moments)
