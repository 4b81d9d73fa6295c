use Rattle.qd_sql.proofs.Answered.{has_cause, is_refused}
use Rattle.qd_sql.proofs.laws.refusals_have_causes.Goals as goal

pub returns : goal.returns
returns c = record { law = λ text why place. (has_cause text why place, is_refused text why place) }
