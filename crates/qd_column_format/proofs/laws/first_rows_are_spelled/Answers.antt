use Rattle.qd_column_format.proofs.LawLemmas.{first_rows_spelled}
use Rattle.qd_column_format.proofs.laws.first_rows_are_spelled.Goals as goal

pub returns : goal.returns
returns c = first_rows_spelled
