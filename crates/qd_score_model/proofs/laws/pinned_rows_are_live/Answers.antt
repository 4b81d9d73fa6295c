use Rattle.qd_score_model.proofs.Follows.{pinned_rows_are_live}
use Rattle.qd_score_model.proofs.laws.pinned_rows_are_live.Goals as goal

pub returns : goal.returns
returns g c = record { law = pinned_rows_are_live _ _ }
