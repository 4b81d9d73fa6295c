use Rattle.qd_base.proofs.Order.{in_order-fold}
use Rattle.qd_merge.proofs.laws.merged_in_order.Goals as goal

pub returns : goal.returns
returns c = record { law = in_order-fold }
