use Rattle.qd_base.proofs.Tables.{rows_in_order}
use Rattle.qd_base.proofs.laws.rows_stay_in_order.Goals as goal

pub returns : goal.returns
returns c = record { law = rows_in_order }
