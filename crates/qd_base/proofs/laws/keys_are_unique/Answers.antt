use Rattle.qd_base.proofs.Keys.{keys_unique}
use Rattle.qd_base.proofs.Lawful.{unique_tables}
use Rattle.qd_base.proofs.laws.keys_are_unique.Goals as goal

pub returns : goal.returns
returns c = record { law = record { rows = keys_unique; tables = unique_tables } }
