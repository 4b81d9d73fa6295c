use Rattle.qd_value.proofs.Truths.{not-turns-and-and-or}
use Rattle.qd_value.proofs.laws.not_turns_and_and_or.Goals as goal

pub returns : goal.returns
returns c = record { law = not-turns-and-and-or }
