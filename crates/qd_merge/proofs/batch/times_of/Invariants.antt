use Rattle.std.proofs.Common.{◌≡◌, map, take}
use Rattle.qd_base.specs.Rows.{time_of}
use Rattle.qd_merge.proofs.batch.times_of.Given as goal

-- the times of the rows so far
abbrev pub invariant-loop-row : goal.invariant-loop-row
invariant-loop-row l = l.times.items ≡ map (time_of l.fn.time_col) (take l.row-index l.rows)
