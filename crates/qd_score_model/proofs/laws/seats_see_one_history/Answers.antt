use Rattle.qd_score_model.proofs.Follows.{seats_see_one_history}
use Rattle.qd_score_model.proofs.laws.seats_see_one_history.Goals as goal

pub returns : goal.returns
returns g c = record { law = seats_see_one_history _ _ }
