use Rattle.std.proofs.Common.{◌-◌, ◌<◌, ◌≤◌, ◌++◌, drop, length, take}
use Rattle.qd_memory.specs.Kept.{HasPut}
use Rattle.qd_memory.proofs.PassLemmas.{StartBefore}
use Rattle.qd_memory.proofs.merging.with_batch.Given as goal

-- the rows so far are put, and the slots up to them are done
abbrev pub invariant-loop-from : goal.invariant-loop-from
invariant-loop-from l = record {
  within : l.from ≤ length l.batch.rows;
  passed : l.passed ≤ length l.old;
  put : HasPut l.schema l.old (take l.from l.batch.rows) (l.slots.items ++ drop l.passed l.old);
  before : l.from < length l.batch.rows → StartBefore l.schema l.batch.rows l.from l.slots.items;
}

abbrev pub decreases-loop-from : goal.decreases-loop-from
decreases-loop-from l = length l.batch.rows - l.from
