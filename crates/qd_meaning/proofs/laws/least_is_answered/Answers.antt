use Rattle.qd_meaning.proofs.RefusalLemmas.{least-is-answered}
use Rattle.qd_meaning.proofs.laws.least_is_answered.Goals as goal

pub returns : goal.returns
returns c = record { law = least-is-answered }
