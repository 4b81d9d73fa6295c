use Rattle.qd_column_files.proofs.LawLemmas.{blocks_stay}
use Rattle.qd_column_files.proofs.laws.other_files_leave_blocks.Goals as goal

pub returns : goal.returns
returns c = blocks_stay
