use Rattle.std.proofs.Common.{rules}
use Rattle.qd_score.specs.Counted.{bare}
use Rattle.qd_score.proofs.Bare.{may_open}
use Rattle.qd_score.proofs.tests.one_who_waits_for_the_lock_is_woken.Goals as goal

pub start-requires-clause-opens : goal.start-requires-clause-opens
start-requires-clause-opens g c = (bare 0, may_open _ (search rules))
