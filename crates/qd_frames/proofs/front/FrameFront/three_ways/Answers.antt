use Rattle.qd_frames.proofs.FrameLemmas.{unfinished_not_none, whole_not_unfinished, whole_not_none}
use Rattle.qd_frames.proofs.front.FrameFront.three_ways.Goals as goal

pub returns : goal.returns
returns c = record {
  unfinished = unfinished_not_none;
  whole = λ bytes h u. whole_not_unfinished h.0 h.1 bytes h.2 h.3 u;
  none = λ bytes h n. whole_not_none h.0 h.1 bytes h.2 h.3 n;
}
