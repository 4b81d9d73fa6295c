use Rattle.qd_wal_entry.proofs.Entries.{no_front}
use Rattle.qd_wal_entry.proofs.laws.none_is_a_front.Goals as goal

pub returns : goal.returns
returns c = no_front
