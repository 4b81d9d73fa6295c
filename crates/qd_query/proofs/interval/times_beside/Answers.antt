use Rattle.std.proofs.Common.{◌∙◌, sym}
use Rattle.qd_query.proofs.IntervalLemmas.{beside_moment, beside_other}
use Rattle.qd_query.proofs.interval.times_beside.Goals as goal

pub returns-in-Some-clause-allowed : goal.returns-in-Some-clause-allowed
returns-in-Some-clause-allowed c =
    beside_moment c.args.col c.args.op c.args.x.now c.args.y.now c.in-Some.moment c.times_at.result.lo c.times_at.result.hi c.requires.column (sym c.in-Some.is ∙ c.moment_in.ensures.is) c.times_at.ensures.allowed

pub returns-in-None-clause-allowed : goal.returns-in-None-clause-allowed
returns-in-None-clause-allowed c = beside_other c.args.col c.args.op c.args.x.now c.args.y.now c.all_times.result.lo c.all_times.result.hi c.requires.column (sym c.in-None.is ∙ c.moment_in.ensures.is)
