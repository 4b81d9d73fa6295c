use Rattle.qd_seq.proofs.LawLemmas.{damaged_none}
use Rattle.qd_seq.proofs.laws.damaged_gives_none.Goals as goal

pub returns : goal.returns
returns c = damaged_none
