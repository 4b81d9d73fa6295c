use Rattle.qd_wal.proofs.LawLemmas.{one_read}
use Rattle.qd_wal.proofs.laws.one_entry_is_read.Goals as goal

pub returns : goal.returns
returns c = one_read
