use Rattle.qd_column_files.proofs.LawLemmas.{first_rows_held}
use Rattle.qd_column_files.proofs.laws.first_rows_are_held.Goals as goal

pub returns : goal.returns
returns c = first_rows_held c.first_rows_are_spelled.ensures
