use Rattle.qd_column_format.proofs.PlaceLemmas.{one_place}
use Rattle.qd_column_format.proofs.laws.damage_has_one_place.Goals as goal

pub returns : goal.returns
returns c = one_place
