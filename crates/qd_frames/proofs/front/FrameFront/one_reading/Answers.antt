use Rattle.qd_frames.proofs.FrameLemmas.{one_reading}
use Rattle.qd_frames.proofs.front.FrameFront.one_reading.Goals as goal

pub returns : goal.returns
returns c = one_reading
