use Rattle.std.proofs.Common.{sym, subst}
use Rattle.qd_base.specs.Lawful.{IsSchema}
use Rattle.qd_apply.proofs.ServeLemmas.{plan_of, times_few, times_in_order, times_of_batch}
use Rattle.qd_apply.proofs.plans.plan_table.Goals as goal

pub rules_of-rules-requires : goal.rules_of-rules-requires
rules_of-rules-requires c = record { schema = subst IsSchema (sym c.in_ok-made.ensures.schema) c.waits.ensures.schema }

pub share_batch-requires-clause-in_order : goal.share_batch-requires-clause-in_order
share_batch-requires-clause-in_order c = times_in_order c.args.table c.times.result.now c.waits.ensures (times_of_batch c.args.table c.in_ok-made.made.block c.times.result.now c.in_ok-made.ensures.block c.times.ensures.times)

pub share_batch-requires-clause-times : goal.share_batch-requires-clause-times
share_batch-requires-clause-times c = times_few c.args.table c.times.result.now c.waits.ensures (times_of_batch c.args.table c.in_ok-made.made.block c.times.result.now c.in_ok-made.ensures.block c.times.ensures.times)

pub returns : goal.returns
returns c = record {
  plan = plan_of c.args.counts.now c.args.split_rows c.args.parts.now c.args.table c.in_ok-made.made.schema c.in_ok-made.made.block c.rules_of-rules.result c.in_ok-shares.shares c.times.result.now c.waits.ensures c.in_ok-made.ensures.schema c.in_ok-made.ensures.block
      (times_of_batch c.args.table c.in_ok-made.made.block c.times.result.now c.in_ok-made.ensures.block c.times.ensures.times) c.rules_of-rules.ensures.rules c.in_ok-shares.ensures.shares;
}
