use Rattle.qd_apply.proofs.ArrivalLemmas.{replayed}
use Rattle.qd_apply.proofs.laws.arrivals_are_replayed.Goals as goal

pub returns : goal.returns
returns c = record { law = replayed }
