use Rattle.qd_wal.proofs.StayLemmas.{own_files}
use Rattle.qd_wal.proofs.laws.segments_are_files.Goals as goal

pub returns : goal.returns
returns c = own_files
