use Rattle.qd_lines.proofs.AnswerLemmas.{one_answer}
use Rattle.qd_lines.proofs.laws.one_answer.Goals as goal

pub returns : goal.returns
returns c = record { law = one_answer }
