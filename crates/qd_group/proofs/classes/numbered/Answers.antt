use Rattle.std.proofs.Common.{arith, subst, ℕ}
use Rattle.qd_group.specs.Grouping.{same_items, AreGroups}
use Rattle.qd_group.proofs.Numbers.{numbered_none, numbered_more}
use Rattle.qd_group.proofs.classes.numbered.Goals as goal

pub loop-key-init : goal.loop-key-init
loop-key-init g c = numbered_none g.K.Ord.cmp c.new-numbers.result c.args.keys.now c.new-groups.result.numbers.items c.new-groups.result.firsts.items c.new-numbers.ensures.empty c.new-groups.ensures.numbers c.new-groups.ensures.firsts

pub loop-key-preserved : goal.loop-key-preserved
loop-key-preserved g c =
    numbered_more g.K.Ord.cmp g.met.K.Ord.total c.loop-key.numbers c.number_of.new.numbers c.args.keys.now c.key-item.result c.loop-key.key-index c.in_ok-number.number c.loop-key.groups.numbers.items c.loop-key.groups.firsts.items
    c.push.new.self.numbers.items c.push.new.self.firsts.items c.loop-key-test.true c.key-item.is c.loop-key.invariant c.in_ok-number.ensures.number c.in_ok-number.ensures.known c.in_ok-number.ensures.count c.in_ok-push.ensures.numbers c.in_ok-push.ensures.firsts

pub returns : goal.returns
returns g c = record { groups = λ d. subst (λ (n : ℕ). AreGroups (same_items g.K.Ord.cmp c.args.keys.now d) n c.loop-key.groups.numbers.items c.loop-key.groups.firsts.items) (omega arith) (c.loop-key.invariant.groups d) }
