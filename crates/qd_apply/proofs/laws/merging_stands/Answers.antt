use Rattle.qd_apply.proofs.VersionLemmas.{merges}
use Rattle.qd_apply.proofs.laws.merging_stands.Goals as goal

pub returns : goal.returns
returns c = record { law = merges }
