use Rattle.std.proofs.Common.{arith}
use Rattle.qd_time.proofs.BucketLemmas.{moved_end-far}
use Rattle.qd_time.proofs.buckets.moved_end.Goals as goal

pub returns-then-month_number-months-gt-LAST_MONTH : goal.returns-then-month_number-months-gt-LAST_MONTH
returns-then-month_number-months-gt-LAST_MONTH c = λ within.
    omega (arith, moved_end-far c.args.ts c.args.n c.args.t0 c.last_period.result c.if-ts-t0.false c.last_period.ensures.value (omega (arith, c.month_number.ensures.value)))
