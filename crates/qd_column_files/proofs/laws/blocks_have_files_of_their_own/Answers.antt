use Rattle.qd_column_files.proofs.FileLemmas.{own_files}
use Rattle.qd_column_files.proofs.laws.blocks_have_files_of_their_own.Goals as goal

pub returns : goal.returns
returns c = own_files
