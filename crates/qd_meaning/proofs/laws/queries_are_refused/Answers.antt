use Rattle.qd_meaning.proofs.QueryChecks.{queries-are-refused}
use Rattle.qd_meaning.proofs.laws.queries_are_refused.Goals as goal

pub returns : goal.returns
returns c = record { law = queries-are-refused }
