use Rattle.qd_sample.proofs.SumLemmas.{sums-of-buckets}
use Rattle.qd_sample.proofs.laws.sums_of_buckets.Goals as goal

pub returns : goal.returns
returns c = record { law = sums-of-buckets }
