use Rattle.qd_seq.proofs.LawLemmas.{one_list}
use Rattle.qd_seq.proofs.laws.one_list_is_given.Goals as goal

pub returns : goal.returns
returns c = one_list
