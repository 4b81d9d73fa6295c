use Rattle.qd_score_model.proofs.Follows.{seats_only_learn}
use Rattle.qd_score_model.proofs.laws.seats_only_learn.Goals as goal

pub returns : goal.returns
returns g c = record { law = seats_only_learn _ _ }
