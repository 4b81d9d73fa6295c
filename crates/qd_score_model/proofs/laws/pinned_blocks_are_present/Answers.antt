use Rattle.qd_score_model.proofs.Follows.{pinned_blocks_are_present}
use Rattle.qd_score_model.proofs.laws.pinned_blocks_are_present.Goals as goal

pub returns : goal.returns
returns g c = record { law = pinned_blocks_are_present _ _ }
