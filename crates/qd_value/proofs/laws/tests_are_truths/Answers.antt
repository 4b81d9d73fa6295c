use Rattle.qd_value.proofs.Truths.{tests-are-truths}
use Rattle.qd_value.proofs.laws.tests_are_truths.Goals as goal

pub returns : goal.returns
returns c = record { law = tests-are-truths }
