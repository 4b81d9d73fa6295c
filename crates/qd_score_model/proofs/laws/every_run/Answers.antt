use Rattle.qd_score_model.proofs.Follows.{every_run}
use Rattle.qd_score_model.proofs.laws.every_run.Goals as goal

pub returns : goal.returns
returns g c = record { law = every_run _ _ }
