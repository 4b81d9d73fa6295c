use Rattle.qd_score_model.proofs.Follows.{nothing_is_forgotten}
use Rattle.qd_score_model.proofs.laws.nothing_is_forgotten.Goals as goal

pub returns : goal.returns
returns g c = record { law = nothing_is_forgotten _ _ }
