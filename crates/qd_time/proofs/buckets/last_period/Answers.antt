use Rattle.std.proofs.Common.{arith, mul-le-mul, sym, ◌≤◌, ◌-◌, ◌*◌}
use Rattle.qd_time.proofs.BucketLemmas.{last_index-here, last_index-before, from_first}
use Rattle.qd_time.proofs.buckets.last_period.Goals as goal

pub overflow_sub-result : goal.overflow_sub-result
overflow_sub-result c = from_first c.args.t0 c.args.n c.args.ts c.strides_between-k.result c.requires.reached (omega (arith, c.moved.ensures.value))

pub returns-then-moved-ts-clause-value : goal.returns-then-moved-ts-clause-value
returns-then-moved-ts-clause-value c =
    sym (last_index-here c.args.t0 c.args.n c.args.ts c.strides_between-k.result c.strides_between-k.ensures.value c.requires.n_low c.requires.reached (omega (arith, c.moved.ensures.value)))

pub returns-else-moved-ts-clause-value : goal.returns-else-moved-ts-clause-value
returns-else-moved-ts-clause-value c =
    sym (last_index-before c.args.t0 c.args.n c.args.ts c.strides_between-k.result c.strides_between-k.ensures.value c.requires.n_low c.requires.reached (omega (arith, c.moved.ensures.value)))

pub returns-else-moved-ts-clause-bound : goal.returns-else-moved-ts-clause-bound
returns-else-moved-ts-clause-bound c =
    let fewer : (c.strides_between-k.result - 1) * c.args.n ≤ c.strides_between-k.result * c.args.n = mul-le-mul (omega arith) (omega arith) in
    omega (arith, c.strides_between-k.ensures.bound)
