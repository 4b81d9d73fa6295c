use Rattle.qd_sample.proofs.GroupLemmas.{sample-is-grouping}
use Rattle.qd_sample.proofs.laws.sample_is_grouping.Goals as goal

pub returns : goal.returns
returns c = record { law = sample-is-grouping }
