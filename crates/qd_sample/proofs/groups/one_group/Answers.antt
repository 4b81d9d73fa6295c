use Rattle.qd_sample.proofs.Settings.{one_more_row}
use Rattle.qd_sample.proofs.groups.one_group.Goals as goal

pub loop-preserved : goal.loop-preserved
loop-preserved c = one_more_row c.loop.counter c.loop.groups.numbers.items c.loop.groups.firsts.items c.push.new.self.numbers.items c.push.new.self.firsts.items c.loop.invariant c.in_ok-push.ensures.numbers c.in_ok-push.ensures.firsts
