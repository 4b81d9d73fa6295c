use Rattle.qd_column_format.proofs.LawLemmas.{one_column}
use Rattle.qd_column_format.proofs.laws.one_column_is_spelled.Goals as goal

pub returns : goal.returns
returns c = one_column
