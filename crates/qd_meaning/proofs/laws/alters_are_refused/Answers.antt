use Rattle.qd_meaning.proofs.WriteChecks.{alters-are-refused}
use Rattle.qd_meaning.proofs.laws.alters_are_refused.Goals as goal

pub returns : goal.returns
returns c = record { law = alters-are-refused }
