use Rattle.qd_versions.proofs.OpenLemmas.{no_store}
use Rattle.qd_versions.proofs.laws.damaged_gives_no_store.Goals as goal

pub returns : goal.returns
returns c = no_store
