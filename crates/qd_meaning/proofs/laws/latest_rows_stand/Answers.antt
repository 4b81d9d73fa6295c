use Rattle.qd_meaning.proofs.ListLemmas.{latest-rows-stand}
use Rattle.qd_meaning.proofs.laws.latest_rows_stand.Goals as goal

pub returns : goal.returns
returns c = record { law = latest-rows-stand }
