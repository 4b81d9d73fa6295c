use Rattle.qd_score_model.proofs.Follows.{last_seat_has_added_all}
use Rattle.qd_score_model.proofs.laws.last_seat_has_added_all.Goals as goal

pub returns : goal.returns
returns g c = record { law = last_seat_has_added_all _ _ }
