use Rattle.qd_txnfile.proofs.DamageLemmas.{one_place}
use Rattle.qd_txnfile.proofs.laws.damage_has_one_place.Goals as goal

pub returns : goal.returns
returns c = one_place
