use Rattle.qd_catalog.proofs.CoverLemmas.{covered}
use Rattle.qd_catalog.proofs.laws.catalogs_are_covered.Goals as goal

pub returns : goal.returns
returns c = record { law = covered }
