use Rattle.qd_query.proofs.TypedAnswers.{answers_typed}
use Rattle.qd_query.proofs.laws.answers_are_typed.Goals as goal

pub returns : goal.returns
returns c = record { law = answers_typed c.bindings_follow.ensures.law c.refused_has_no_answer.ensures.law }
