use Rattle.qd_column_format.proofs.LawLemmas.{appended_rows}
use Rattle.qd_column_format.proofs.laws.appended_rows_are_spelled.Goals as goal

pub returns : goal.returns
returns c = appended_rows
