use Rattle.qd_meaning.proofs.WriteChecks.{writes-are-made}
use Rattle.qd_meaning.proofs.laws.writes_are_made.Goals as goal

pub returns : goal.returns
returns c = record { law = writes-are-made }
