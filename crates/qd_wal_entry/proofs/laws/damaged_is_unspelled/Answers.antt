use Rattle.qd_wal_entry.proofs.Entries.{damaged_spells_none}
use Rattle.qd_wal_entry.proofs.laws.damaged_is_unspelled.Goals as goal

pub returns : goal.returns
returns c = damaged_spells_none
