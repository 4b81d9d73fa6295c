use Rattle.qd_merge.proofs.OwnLaws.{owners}
use Rattle.qd_merge.proofs.laws.shares_are_owners.Goals as goal

pub returns : goal.returns
returns c = record { law = owners }
