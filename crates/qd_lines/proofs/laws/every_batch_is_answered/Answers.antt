use Rattle.qd_lines.proofs.AnswerLemmas.{answered}
use Rattle.qd_lines.proofs.laws.every_batch_is_answered.Goals as goal

pub returns : goal.returns
returns c = record { law = answered }
