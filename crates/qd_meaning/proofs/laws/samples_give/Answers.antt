use Rattle.qd_meaning.proofs.OperatorChecks.{samples-give}
use Rattle.qd_meaning.proofs.laws.samples_give.Goals as goal

pub returns : goal.returns
returns c = record { law = samples-give }
