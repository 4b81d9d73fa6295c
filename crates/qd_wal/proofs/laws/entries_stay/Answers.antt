use Rattle.qd_wal.proofs.StayLemmas.{entries_stay}
use Rattle.qd_wal.proofs.laws.entries_stay.Goals as goal

pub returns : goal.returns
returns c = entries_stay
