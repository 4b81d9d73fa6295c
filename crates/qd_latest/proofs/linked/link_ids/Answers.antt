use Rattle.std.proofs.Common.{◌-◌, length, arith}
use Rattle.qd_latest.proofs.ChainLemmas.{linked_none, linked_more}
use Rattle.qd_latest.proofs.linked.link_ids.Goals as goal

pub loop-i-init : goal.loop-i-init
loop-i-init c = record { linked = linked_none c.args.links.now c.args.ids.now c.args.from c.args.to (length c.args.ids.now) (omega arith) c.requires.count c.requires.above; once = c.requires.once }

pub link_id-requires-clause-above : goal.link_id-requires-clause-above
link_id-requires-clause-above c = λ other listed. let h = c.loop-i.invariant.linked.above other listed in omega (arith, h)

pub returns-clause-above : goal.returns-clause-above
returns-clause-above c = λ node listed. let h = c.loop-i.invariant.linked.above node listed in omega (arith, h)

pub loop-i-preserved : goal.loop-i-preserved
loop-i-preserved c = record {
  linked = linked_more c.args.links.now c.loop-i.links c.link_id.new.links c.args.ids.now c.args.from c.loop-i.i (c.loop-i.i - 1) (omega arith) c.loop-i.invariant.linked c.link_id.ensures.nodes c.link_id.ensures.count c.link_id.ensures.lists c.link_id.ensures.above;
  once = c.link_id.ensures.once;
}
