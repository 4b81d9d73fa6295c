use Rattle.qd_manifest.proofs.ManifestLaws.{damaged_spells_none}
use Rattle.qd_manifest.proofs.laws.damaged_is_unspelled.Goals as goal

pub returns : goal.returns
returns c = damaged_spells_none
