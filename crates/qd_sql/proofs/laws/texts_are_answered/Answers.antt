use Rattle.qd_sql.proofs.Answered.{answered, one_statement, one_refusal, never_both}
use Rattle.qd_sql.proofs.laws.texts_are_answered.Goals as goal

pub returns : goal.returns
returns c = record { law = record { one_statement = one_statement; one_refusal = one_refusal; never_both = never_both; answered = answered } }
