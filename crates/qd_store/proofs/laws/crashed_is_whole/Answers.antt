use Rattle.qd_store.proofs.Whole.{crashed_is_whole}
use Rattle.qd_store.proofs.laws.crashed_is_whole.Goals as goal

pub returns : goal.returns
returns c = record { law = crashed_is_whole }
