use Rattle.qd_meaning.proofs.AnswerChecks.{plans-give-tables}
use Rattle.qd_meaning.proofs.laws.plans_give_tables.Goals as goal

pub returns : goal.returns
returns c = record { law = plans-give-tables }
