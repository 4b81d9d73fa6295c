use Rattle.qd_versions.proofs.KeptTails.{others_leave}
use Rattle.qd_versions.proofs.laws.other_files_leave_tails.Goals as goal

pub returns : goal.returns
returns c = others_leave
