use Rattle.std.proofs.Common.{◌-◌, ◌≤◌, length}
use Rattle.qd_merge.specs.Replaced.{FlagsSoFar}
use Rattle.qd_merge.proofs.replaced.replaced.Given as goal

-- the flags of the rows that are no later than the batch's rows so far
abbrev pub invariant-loop-place : goal.invariant-loop-place
invariant-loop-place l = record {
  within : l.place ≤ length l.batch.rows;
  so_far : FlagsSoFar l.batch.time_col l.keys l.batch.kinds l.batch.rows l.old.rows l.place l.gone.items;
}

abbrev pub decreases-loop-place : goal.decreases-loop-place
decreases-loop-place l = length l.batch.rows - l.place
