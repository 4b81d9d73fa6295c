use Rattle.qd_meaning.proofs.AnswerChecks.{queries-are-planned}
use Rattle.qd_meaning.proofs.laws.queries_are_planned.Goals as goal

pub returns : goal.returns
returns c = record { law = queries-are-planned }
