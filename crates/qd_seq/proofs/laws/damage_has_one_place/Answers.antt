use Rattle.qd_seq.proofs.LawLemmas.{one_damage}
use Rattle.qd_seq.proofs.laws.damage_has_one_place.Goals as goal

pub returns : goal.returns
returns c = one_damage
