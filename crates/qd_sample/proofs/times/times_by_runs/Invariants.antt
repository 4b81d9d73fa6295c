use Rattle.std.proofs.Common.{◌≡◌, map, take}
use Rattle.qd_rows.specs.Runs.{places_of_runs}
use Rattle.qd_sample.proofs.RunTimes.{time_at}
use Rattle.qd_sample.proofs.times.times_by_runs.Given as goal

-- the times of the runs so far
abbrev pub invariant-loop-run : goal.invariant-loop-run
invariant-loop-run g l = l.times.items ≡ map (time_at l.rows l.time_col) (places_of_runs (take l.run-index l.run-items))
