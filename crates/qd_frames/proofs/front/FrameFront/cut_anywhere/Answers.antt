use Rattle.qd_frames.proofs.FrameLemmas.{cut_anywhere}
use Rattle.qd_frames.proofs.front.FrameFront.cut_anywhere.Goals as goal

pub returns : goal.returns
returns c = cut_anywhere
