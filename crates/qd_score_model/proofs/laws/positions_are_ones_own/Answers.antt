use Rattle.qd_score_model.proofs.Follows.{positions_are_ones_own}
use Rattle.qd_score_model.proofs.laws.positions_are_ones_own.Goals as goal

pub returns : goal.returns
returns g c = record { law = positions_are_ones_own _ _ }
