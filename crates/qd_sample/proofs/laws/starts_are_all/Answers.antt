use Rattle.qd_sample.proofs.LawLemmas.{starts-are-all}
use Rattle.qd_sample.proofs.laws.starts_are_all.Goals as goal

pub returns : goal.returns
returns c = record { law = starts-are-all }
