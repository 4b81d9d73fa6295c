use Rattle.qd_wal.proofs.LawLemmas.{place_is_one}
use Rattle.qd_wal.proofs.laws.damage_has_one_place.Goals as goal

pub returns : goal.returns
returns c = place_is_one
