use Rattle.qd_base.proofs.Keys.{last_stays}
use Rattle.qd_base.proofs.laws.last_of_equal_keys_stays.Goals as goal

pub returns : goal.returns
returns c = record { law = last_stays }
