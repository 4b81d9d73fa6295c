use Rattle.qd_value.proofs.Truths.{orderings-are-by-class}
use Rattle.qd_value.proofs.laws.orderings_are_by_class.Goals as goal

pub returns : goal.returns
returns c = record { law = orderings-are-by-class }
