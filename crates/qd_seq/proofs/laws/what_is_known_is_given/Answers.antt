use Rattle.qd_seq.proofs.Steps.{known_given}
use Rattle.qd_seq.proofs.laws.what_is_known_is_given.Goals as goal

pub returns : goal.returns
returns c = known_given
