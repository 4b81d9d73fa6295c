use Rattle.qd_meaning.proofs.WriteChecks.{creates-are-refused}
use Rattle.qd_meaning.proofs.laws.creates_are_refused.Goals as goal

pub returns : goal.returns
returns c = record { law = creates-are-refused }
