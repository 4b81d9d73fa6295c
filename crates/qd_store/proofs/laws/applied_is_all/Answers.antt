use Rattle.qd_store.proofs.Whole.{applied_is_all}
use Rattle.qd_store.proofs.laws.applied_is_all.Goals as goal

pub returns : goal.returns
returns c = record { law = applied_is_all }
