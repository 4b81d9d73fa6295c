use Rattle.std.proofs.Common.{◌≡◌, ◌-◌, ◌++◌, map}
use Rattle.std.specs.List.{range_with_len}
use Rattle.qd_sample.proofs.RunTimes.{time_at}
use Rattle.qd_sample.proofs.times.push_rows.Given as goal

-- the rows so far
abbrev pub invariant-loop-i : goal.invariant-loop-i
invariant-loop-i g l = l.times.items ≡ l.initial.times.items ++ map (λ j. time_at l.rows l.time_col (l.run.block, j)) (range_with_len l.run.from (l.i - l.run.from))
