use Rattle.qd_store.proofs.GoingOn.{writers_go_on}
use Rattle.qd_store.proofs.laws.writers_go_on.Goals as goal

pub returns : goal.returns
returns c = record { law = writers_go_on }
