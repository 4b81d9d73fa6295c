use Rattle.qd_meaning.proofs.TypeChecks.{types-are-refused}
use Rattle.qd_meaning.proofs.laws.types_are_refused.Goals as goal

pub returns : goal.returns
returns c = record { law = types-are-refused }
