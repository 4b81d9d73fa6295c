use Rattle.qd_meaning.proofs.ListLemmas.{joins-take-the-last}
use Rattle.qd_meaning.proofs.laws.joins_take_the_last.Goals as goal

pub returns : goal.returns
returns c = record { law = joins-take-the-last }
