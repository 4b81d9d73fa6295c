use Rattle.qd_query.proofs.IntervalLemmas.{other_test}
use Rattle.qd_query.proofs.interval.times_of_part.Goals as goal

pub returns-in_default-clause-allowed : goal.returns-in_default-clause-allowed
returns-in_default-clause-allowed c = other_test c.args.col c.args.test.now c.all_times.result.lo c.all_times.result.hi c.in_default.not-InInterval c.in_default.not-Compare
