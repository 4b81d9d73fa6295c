use Rattle.qd_score_model.proofs.Follows.{sole_seat_retires}
use Rattle.qd_score_model.proofs.laws.sole_seat_retires.Goals as goal

pub returns : goal.returns
returns g c = record { law = sole_seat_retires _ _ }
