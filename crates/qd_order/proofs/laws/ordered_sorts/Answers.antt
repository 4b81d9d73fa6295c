use Rattle.qd_order.proofs.OrderLaws.{ordered-sorts}
use Rattle.qd_order.proofs.laws.ordered_sorts.Goals as goal

pub returns : goal.returns
returns c = record { law = ordered-sorts }
