use Rattle.qd_wal_entry.proofs.Entries.{one_text}
use Rattle.qd_wal_entry.proofs.laws.one_spelling.Goals as goal

pub returns : goal.returns
returns c = one_text
