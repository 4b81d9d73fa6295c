use Rattle.qd_sql.proofs.Answered.{stands, is_statement}
use Rattle.qd_sql.proofs.laws.statements_stand.Goals as goal

pub returns : goal.returns
returns c = record { law = λ text s. (stands text s, is_statement text s) }
