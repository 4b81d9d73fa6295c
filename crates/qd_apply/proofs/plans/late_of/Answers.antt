use Rattle.qd_apply.specs.declared.plans.Planned.{Planned}
use Rattle.qd_apply.specs.Plans.{late_from}
use Rattle.qd_apply.proofs.ServeLemmas.{plan_told}
use Rattle.qd_apply.proofs.plans.late_of.Goals as goal

pub loop-i-preserved : goal.loop-i-preserved
loop-i-preserved c =
    let i = c.loop-i.i in
    let p : Planned = c.index-plans-i.result in
    plan_told i c.args.plans.now p c.loop-i.list.items c.push_late.new.list.items (late_from 0 c.args.plans.now) c.loop-i-test.true c.index-plans-i.is c.loop-i.invariant
    c.in_ok-push_late.ensures.added
