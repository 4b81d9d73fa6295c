use Rattle.qd_manifest.proofs.ManifestLaws.{one_place}
use Rattle.qd_manifest.proofs.laws.damage_has_one_place.Goals as goal

pub returns : goal.returns
returns c = one_place
