use Rattle.std.proofs.Common.{◌≡◌, map, take}
use Rattle.qd_base.specs.Rows.{time_of}
use Rattle.qd_rows.specs.Sets.{rows_in}
use Rattle.qd_sample.proofs.times.times_by_row.Given as goal

-- the times of the rows so far
abbrev pub invariant-loop-i : goal.invariant-loop-i
invariant-loop-i g l = l.times.items ≡ map (time_of l.time_col) (take l.i (rows_in l.rows))
