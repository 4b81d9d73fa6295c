use Rattle.qd_value.proofs.Truths.{in-is-many-equals}
use Rattle.qd_value.proofs.laws.in_is_many_equals.Goals as goal

pub returns : goal.returns
returns c = record { law = in-is-many-equals }
