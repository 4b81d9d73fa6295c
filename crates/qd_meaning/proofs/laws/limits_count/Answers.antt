use Rattle.qd_meaning.proofs.LimitLemmas.{limits-count}
use Rattle.qd_meaning.proofs.laws.limits_count.Goals as goal

pub returns : goal.returns
returns c = record { law = limits-count }
