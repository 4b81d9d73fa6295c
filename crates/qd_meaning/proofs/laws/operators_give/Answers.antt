use Rattle.qd_meaning.proofs.OperatorChecks.{operators-give}
use Rattle.qd_meaning.proofs.laws.operators_give.Goals as goal

pub returns : goal.returns
returns c = record { law = operators-give }
