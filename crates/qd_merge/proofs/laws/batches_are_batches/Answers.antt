use Rattle.qd_merge.proofs.Batches.{batch_is_batch}
use Rattle.qd_merge.proofs.laws.batches_are_batches.Goals as goal

pub returns : goal.returns
returns c = record { law = batch_is_batch }
