use Rattle.qd_sample.proofs.Numbers.{NumbersTo}
use Rattle.qd_sample.proofs.buckets.bucket_numbers.Given as goal

-- the numbers of the times so far
abbrev pub invariant-loop-time : goal.invariant-loop-time
invariant-loop-time l = NumbersTo l.times l.starts l.time-index l.numbers.items l.number
