use Rattle.qd_txnfile.proofs.LawLemmas.{one_version}
use Rattle.qd_txnfile.proofs.laws.one_version_is_given.Goals as goal

pub returns : goal.returns
returns c = one_version
