use Rattle.qd_manifest.proofs.ManifestLaws.{one_text}
use Rattle.qd_manifest.proofs.laws.one_spelling.Goals as goal

pub returns : goal.returns
returns c = one_text
