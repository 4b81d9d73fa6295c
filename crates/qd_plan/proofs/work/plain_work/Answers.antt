use Rattle.std.proofs.Common.{sym, ◌∙◌}
use Rattle.qd_plan.proofs.SeatLemmas.{work_empty, work_filled}
use Rattle.qd_plan.proofs.work.plain_work.Goals as goal

pub returns-then-is_empty : goal.returns-then-is_empty
returns-then-is_empty c = record { work = work_empty c.args.kinds.now c.args.keys c.args.aggs (sym c.is_empty.ensures ∙ c.if-is_empty.true) }

pub returns-else-is_empty : goal.returns-else-is_empty
returns-else-is_empty c = record { work = work_filled c.args.kinds.now c.args.keys c.args.aggs (sym c.is_empty.ensures ∙ c.if-is_empty.false) }
