use Rattle.std.proofs.Common.{ap, arith, length}
use Rattle.qd_time.specs.Buckets.{bucket_end, bucket_start}
use Rattle.qd_sample.proofs.StartLists.{walk_ends, walk_long, walk_more}
use Rattle.qd_sample.proofs.Walks.{length-iterated}
use Rattle.qd_sample.proofs.buckets.starts_between.Goals as goal

pub returns-in-None-clause-starts : goal.returns-in-None-clause-starts
returns-in-None-clause-starts c =
    walk_ends c.args.stride c.args.align c.args.first c.args.last c.requires.stride c.requires.reached c.requires.order c.requires.high c.loop.counter c.loop.starts.items c.loop.next c.loop.invariant c.in-None.ensures

pub returns-in-None-clause-few : goal.returns-in-None-clause-few
returns-in-None-clause-few c =
    omega (arith, ap length c.loop.invariant.walked, length-iterated (bucket_end c.args.stride c.args.align) c.loop.counter (bucket_start c.args.stride c.args.align c.args.first))

pub loop-preserved : goal.loop-preserved
loop-preserved c =
    walk_more c.args.stride c.args.align c.args.first c.args.last c.requires.stride c.requires.reached c.requires.order c.requires.high c.loop.counter c.in-Some.start c.loop.starts.items c.add.new.starts.items c.loop.next c.next_bucket-next.result
    c.loop.invariant c.in-Some.ensures c.in_ok-add-in-Some.ensures c.next_bucket-next.ensures.next

pub returns-in-Some-within-clause-too_many : goal.returns-in-Some-within-clause-too_many
returns-in-Some-within-clause-too_many c = λ e.
    let long = walk_long c.args.stride c.args.align c.args.first c.args.last c.requires.stride c.requires.reached c.requires.order c.requires.high c.loop.counter c.in-Some-within.field-0 c.loop.starts.items c.loop.next c.loop.invariant c.in-Some-within.ensures in
    omega (arith, long)

pub returns-in-None-within-clause-starts : goal.returns-in-None-within-clause-starts
returns-in-None-within-clause-starts c =
    walk_ends c.args.stride c.args.align c.args.first c.args.last c.requires.stride c.requires.reached c.requires.order c.requires.high c.loop.counter c.loop.starts.items c.loop.next c.loop.invariant c.in-None-within.ensures

pub returns-in-None-within-clause-few : goal.returns-in-None-within-clause-few
returns-in-None-within-clause-few c =
    omega (arith, ap length c.loop.invariant.walked, length-iterated (bucket_end c.args.stride c.args.align) c.loop.counter (bucket_start c.args.stride c.args.align c.args.first))
