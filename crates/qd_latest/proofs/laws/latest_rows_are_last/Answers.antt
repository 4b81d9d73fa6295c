use Rattle.qd_latest.proofs.LawLemmas.{latest-rows-are-last}
use Rattle.qd_latest.proofs.laws.latest_rows_are_last.Goals as goal

pub returns : goal.returns
returns c = record { law = latest-rows-are-last }
