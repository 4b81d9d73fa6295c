use Rattle.qd_frames.proofs.StepsLemmas.{has_steps}
use Rattle.qd_frames.proofs.front.FrameFront.every_text_has_steps.Goals as goal

pub returns : goal.returns
returns c = has_steps
