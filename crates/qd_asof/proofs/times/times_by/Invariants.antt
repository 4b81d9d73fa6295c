use Rattle.std.proofs.Common.{◌≡◌, map, take}
use Rattle.qd_base.specs.Rows.{time_in}
use Rattle.qd_rows.specs.Sets.{rows_in}
use Rattle.qd_value.specs.Value.{value}
use Rattle.qd_asof.proofs.times.times_by.Given as goal

-- the times of the rows so far
abbrev pub invariant-loop-i : goal.invariant-loop-i
invariant-loop-i g l = l.times.items ≡ map (λ r. time_in (value l.expr r)) (take l.i (rows_in l.rows))
