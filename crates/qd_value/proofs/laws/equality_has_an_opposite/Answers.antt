use Rattle.qd_value.proofs.Truths.{equality-has-an-opposite}
use Rattle.qd_value.proofs.laws.equality_has_an_opposite.Goals as goal

pub returns : goal.returns
returns c = record { law = equality-has-an-opposite }
