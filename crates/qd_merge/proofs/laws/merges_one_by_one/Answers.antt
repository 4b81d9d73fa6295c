use Rattle.qd_merge.proofs.Batches.{one_by_one}
use Rattle.qd_merge.proofs.laws.merges_one_by_one.Goals as goal

pub returns : goal.returns
returns c = record { law = one_by_one }
