use Rattle.qd_wal_entry.proofs.Entries.{one_entry}
use Rattle.qd_wal_entry.proofs.laws.one_entry_is_spelled.Goals as goal

pub returns : goal.returns
returns c = one_entry
