use Rattle.qd_score_model.proofs.Follows.{history_only_grows}
use Rattle.qd_score_model.proofs.laws.history_only_grows.Goals as goal

pub returns : goal.returns
returns g c = record { law = history_only_grows _ _ }
