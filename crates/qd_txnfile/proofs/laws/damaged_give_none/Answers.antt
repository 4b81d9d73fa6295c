use Rattle.qd_txnfile.proofs.LawLemmas.{damaged_none}
use Rattle.qd_txnfile.proofs.laws.damaged_give_none.Goals as goal

pub returns : goal.returns
returns c = damaged_none
