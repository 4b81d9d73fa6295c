use Rattle.qd_seq.proofs.Steps.{others_leave}
use Rattle.qd_seq.proofs.laws.other_files_leave_it.Goals as goal

pub returns : goal.returns
returns c = others_leave
