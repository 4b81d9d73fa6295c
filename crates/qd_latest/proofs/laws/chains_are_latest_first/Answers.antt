use Rattle.qd_latest.proofs.ChainLaws.{chains-are-latest-first}
use Rattle.qd_latest.proofs.laws.chains_are_latest_first.Goals as goal

pub returns : goal.returns
returns c = record { law = chains-are-latest-first }
