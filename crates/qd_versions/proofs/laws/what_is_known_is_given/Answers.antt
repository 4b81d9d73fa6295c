use Rattle.qd_txnfile.proofs.Steps.{known_given}
use Rattle.qd_versions.specs.Stores.{current_version}
use Rattle.qd_versions.proofs.laws.what_is_known_is_given.Goals as goal

pub returns : goal.returns
returns c s next disk rooted = known_given s.root (current_version s.versions) next disk rooted.root
