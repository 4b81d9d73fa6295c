use Rattle.qd_query.proofs.IntervalLemmas.{one_term}
use Rattle.qd_query.proofs.interval.times_passing.Goals as goal

pub returns-in_default-clause-allowed : goal.returns-in_default-clause-allowed
returns-in_default-clause-allowed c = one_term c.args.col c.args.test.now c.times_of_part.result.lo c.times_of_part.result.hi c.in_default.not-All c.times_of_part.ensures.allowed
