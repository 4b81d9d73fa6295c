use Rattle.qd_meaning.proofs.AnswerLemmas.{looks-at-named-tables}
use Rattle.qd_meaning.proofs.laws.looks_at_named_tables.Goals as goal

pub returns : goal.returns
returns c = record { law = looks-at-named-tables }
