use Rattle.std.proofs.Common.{refl}
use Rattle.qd_ilp.proofs.laws.worked_lines.Goals as goal

pub returns : goal.returns
returns c = record { law = record { together = refl; columns = refl; missing = refl } }
