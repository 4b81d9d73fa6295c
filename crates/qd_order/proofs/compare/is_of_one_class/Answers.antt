use Rattle.std.proofs.Common.{ap, arith, length}
use Rattle.qd_order.specs.declared.keys.Key.TheVariants as key
use Rattle.qd_order.specs.Keys.{lent}
use Rattle.qd_order.proofs.Standing.{class_all, class_more}
use Rattle.qd_order.proofs.compare.is_of_one_class.Goals as goal

pub loop-key-preserved : goal.loop-key-preserved
loop-key-preserved c =
    class_more (lent c.loop-key.lead) (lent c.in-Some.next) c.args.column.now.values.items c.deref-key-items.result.now c.loop-key.key-index key.Null c.deref-key-items.ensures.value c.loop-key-test.true c.in-Some.ensures.kept c.in-Some.ensures.added c.loop-key.invariant

pub returns : goal.returns
returns c = class_all (lent c.loop-key.lead) c.args.column.now.values.items c.loop-key.key-index (omega (arith, ap length c.deref-key-items.ensures.value)) c.loop-key.invariant
