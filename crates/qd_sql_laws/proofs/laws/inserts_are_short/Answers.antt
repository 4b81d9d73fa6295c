use Rattle.qd_sql_laws.proofs.Sizes.{short_insert}
use Rattle.qd_sql_laws.proofs.laws.inserts_are_short.Goals as goal

pub returns : goal.returns
returns c = record { law = short_insert }
