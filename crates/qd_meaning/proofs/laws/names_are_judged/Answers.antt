use Rattle.qd_meaning.proofs.NameRuleLemmas.{names-are-judged}
use Rattle.qd_meaning.proofs.laws.names_are_judged.Goals as goal

pub returns : goal.returns
returns c = record { law = names-are-judged }
