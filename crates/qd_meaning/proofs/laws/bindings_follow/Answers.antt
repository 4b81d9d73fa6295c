use Rattle.qd_meaning.proofs.BindingLemmas.{bindings-follow}
use Rattle.qd_meaning.proofs.laws.bindings_follow.Goals as goal

pub returns : goal.returns
returns c = record { law = bindings-follow }
