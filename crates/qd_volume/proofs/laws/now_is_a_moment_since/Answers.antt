use Rattle.qd_volume.proofs.Moments.{now_among, only_now}
use Rattle.qd_volume.proofs.laws.now_is_a_moment_since.Goals as goal

pub returns-clause-among : goal.returns-clause-among
returns-clause-among c = now_among

pub returns-clause-only : goal.returns-clause-only
returns-clause-only c = only_now
