use Rattle.qd_meaning.proofs.AnswerLemmas.{refused-has-no-answer}
use Rattle.qd_meaning.proofs.laws.refused_has_no_answer.Goals as goal

pub returns : goal.returns
returns c = record { law = refused-has-no-answer }
