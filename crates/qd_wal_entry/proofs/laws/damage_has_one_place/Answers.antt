use Rattle.qd_wal_entry.proofs.Entries.{one_place}
use Rattle.qd_wal_entry.proofs.laws.damage_has_one_place.Goals as goal

pub returns : goal.returns
returns c = one_place
