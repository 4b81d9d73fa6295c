use Rattle.qd_meaning.proofs.TimeLemmas.{times-are-read}
use Rattle.qd_meaning.proofs.laws.times_are_read.Goals as goal

pub returns : goal.returns
returns c = record { law = times-are-read }
