use Rattle.qd_meaning.proofs.TypeChecks.{clauses-are-refused}
use Rattle.qd_meaning.proofs.laws.clauses_are_refused.Goals as goal

pub returns : goal.returns
returns c = record { law = clauses-are-refused }
