use Rattle.qd_merge.proofs.Batches.{batches_join}
use Rattle.qd_merge.proofs.laws.batches_join.Goals as goal

pub returns : goal.returns
returns c = record { law = batches_join }
