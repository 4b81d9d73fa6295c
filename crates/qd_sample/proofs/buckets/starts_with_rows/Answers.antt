use Rattle.std.proofs.Common.{◌∙◌, arith, sym}
use Rattle.qd_sample.proofs.StartLists.{seen_all, seen_push, seen_stay}
use Rattle.qd_sample.proofs.buckets.starts_with_rows.Goals.{then-is_behind+in_ok-push, else-is_behind}
use Rattle.qd_sample.proofs.buckets.starts_with_rows.Goals as goal

pub loop-time-preserved : goal.loop-time-preserved
loop-time-preserved c = elim c.if-is_behind.branch [
  | then-is_behind+in_ok-push w ↦
      rw (w.starts-is, w.end-is) (seen_push c.args.stride c.args.align c.args.times.now c.requires.stride c.requires.times c.loop-time.time-index c.loop-time.starts.items c.loop-time.end c.loop-time-test.true c.loop-time.invariant
      w.push.new.self.items w.bucket_of.result w.next_bucket-end.result (sym c.is_behind.ensures ∙ w.if-is_behind.true) w.bucket_of.ensures.value w.in_ok-push.ensures.items w.next_bucket-end.ensures.next)
  | else-is_behind w ↦
      rw (w.starts-is, w.end-is) (seen_stay c.args.stride c.args.align c.args.times.now c.requires.stride c.requires.times c.loop-time.time-index c.loop-time.starts.items c.loop-time.end c.loop-time-test.true c.loop-time.invariant
      (sym c.is_behind.ensures ∙ w.if-is_behind.false))
]

pub returns-clause-rows : goal.returns-clause-rows
returns-clause-rows c = (seen_all c.args.stride c.args.align c.args.times.now c.loop-time.time-index c.loop-time.starts.items c.loop-time.end (omega arith) c.loop-time.invariant).1
