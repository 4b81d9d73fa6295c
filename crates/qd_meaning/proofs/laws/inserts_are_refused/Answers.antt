use Rattle.qd_meaning.proofs.WriteChecks.{inserts-are-refused}
use Rattle.qd_meaning.proofs.laws.inserts_are_refused.Goals as goal

pub returns : goal.returns
returns c = record { law = inserts-are-refused }
