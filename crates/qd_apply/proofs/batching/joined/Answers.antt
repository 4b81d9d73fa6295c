use Rattle.std.proofs.Common.{arith}
use Rattle.qd_apply.proofs.BatchLemmas.{all_joined, stage_joined}
use Rattle.qd_apply.proofs.batching.joined.Goals as goal

pub loop-stage-preserved : goal.loop-stage-preserved
loop-stage-preserved c =
    let v = c.loop-stage.invariant in
    let j = stage_joined c.args.schema.now c.args.stages.items c.args.last.rows c.loop-stage.stages.items c.pop.new.self.items c.in-Some.stage c.new-keys.result c.in_ok-finish.field-0 c.loop-stage.batch c.in_ok-batch.batch
    c.in-Some.ensures.items v.each v.kinds v.time_col v.joined c.new-keys.ensures.empty c.in_ok-finish.ensures.block c.in_ok-batch.ensures.merged c.is_whole.ensures.whole.order in
    record { kinds = j.kinds; time_col = j.time_col; each = j.each; joined = j.joined }

pub returns : goal.returns
returns c =
    let v = c.loop-stage.invariant in
    record { block = all_joined c.args.schema.now c.args.stages.items c.args.last.rows c.loop-stage.stages.items c.loop-stage.batch v.kinds v.time_col v.joined (omega (arith, c.in_default.ensures.cases.0, c.loop-stage.stages.ok.0)) }
