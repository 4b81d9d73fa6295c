use Rattle.qd_score_model.proofs.Follows.{pins_stay_small}
use Rattle.qd_score_model.proofs.laws.pins_stay_small.Goals as goal

pub returns : goal.returns
returns g c = record { law = pins_stay_small _ _ }
