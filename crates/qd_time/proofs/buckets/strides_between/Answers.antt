use Rattle.std.proofs.Common.{arith}
use Rattle.qd_time.specs.Buckets.{months_to}
use Rattle.qd_time.proofs.BucketLemmas.{months_to-high, stride_reaches}
use Rattle.qd_time.proofs.MonthLemmas.{months_to-mono}
use Rattle.qd_time.proofs.buckets.strides_between.Goals as goal

pub overflow_sub-result : goal.overflow_sub-result
overflow_sub-result c = omega (arith, c.month_number.ensures.value, c.month_number-2.ensures.value, months_to-mono c.args.t0 c.args.ts c.requires.reached)

pub returns-clause-bound : goal.returns-clause-bound
returns-clause-bound c =
    let reaches = stride_reaches (months_to c.args.t0) (months_to c.args.ts) c.args.n c.requires.n_low (months_to-mono c.args.t0 c.args.ts c.requires.reached) in
    let high = months_to-high c.args.ts c.requires.ts_high in
    rw (c.month_number.ensures.value, c.month_number-2.ensures.value) (omega arith)
