use Rattle.qd_merge.proofs.Batches.{keeps_every_row}
use Rattle.qd_merge.proofs.laws.keeps_every_row.Goals as goal

pub returns : goal.returns
returns c = record { law = keeps_every_row }
