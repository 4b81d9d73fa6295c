use Rattle.qd_wal.proofs.LawLemmas.{none_spelled}
use Rattle.qd_wal.proofs.laws.damaged_is_unspelled.Goals as goal

pub returns : goal.returns
returns c = none_spelled
