use Rattle.qd_meaning.proofs.PlanLemmas.{plans-answer}
use Rattle.qd_meaning.proofs.laws.plans_answer.Goals as goal

pub returns : goal.returns
returns c = record { law = plans-answer }
