use Rattle.std.proofs.Common.{◌≡◌, length}
use Rattle.std.specs.List.{AllByRecursion}
use Rattle.qd_block.specs.Blocks.{kinds_in}
use Rattle.qd_apply.specs.Waiting.{IsStage}
use Rattle.qd_apply.proofs.BatchLemmas.{AreJoined}
use Rattle.qd_apply.proofs.batching.joined.Given as goal

-- the stages that are left stand before the batch so far
abbrev pub invariant-loop-stage : goal.invariant-loop-stage
invariant-loop-stage l = record {
  kinds : l.batch.kinds ≡ kinds_in l.schema.cols;
  time_col : l.batch.time_col ≡ l.schema.time_col;
  each : AllByRecursion (IsStage l.schema) l.stages.items;
  joined : AreJoined l.schema.time_col l.schema.cols l.initial.stages.items l.fn.last.rows l.stages.items l.batch.rows;
}

abbrev pub decreases-loop-stage : goal.decreases-loop-stage
decreases-loop-stage l = length l.stages.items
