use Rattle.qd_manifest.proofs.ManifestLaws.{one_manifest}
use Rattle.qd_manifest.proofs.laws.one_manifest_is_spelled.Goals as goal

pub returns : goal.returns
returns c = one_manifest
