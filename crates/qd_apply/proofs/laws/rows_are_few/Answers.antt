use Rattle.qd_apply.proofs.RowCountLemmas.{rows_few}
use Rattle.qd_apply.proofs.laws.rows_are_few.Goals as goal

pub returns : goal.returns
returns c = record { law = rows_few }
