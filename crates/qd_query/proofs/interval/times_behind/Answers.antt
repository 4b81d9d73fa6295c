use Rattle.std.proofs.Common.{◌∙◌, subst, sym}
use Rattle.qd_value.specs.declared.bound.Comparison.{Comparison}
use Rattle.qd_query.specs.Times.{AreAllowed, IsFrom, IsTo}
use Rattle.qd_query.proofs.IntervalLemmas.{behind_moment, behind_other}
use Rattle.qd_query.proofs.interval.times_behind.Goals as goal

pub returns-in-Some-clause-allowed : goal.returns-in-Some-clause-allowed
returns-in-Some-clause-allowed c =
    behind_moment c.args.col c.args.op c.args.x.now c.args.y.now c.in-Some.moment c.times_at.result.lo c.times_at.result.hi c.requires.column (sym c.in-Some.is ∙ c.moment_in.ensures.is)
    (subst (λ (o : Comparison). AreAllowed (IsFrom o c.in-Some.moment) (IsTo o c.in-Some.moment) c.times_at.result.lo c.times_at.result.hi) c.turned.ensures.is c.times_at.ensures.allowed)

pub returns-in-None-clause-allowed : goal.returns-in-None-clause-allowed
returns-in-None-clause-allowed c = behind_other c.args.col c.args.op c.args.x.now c.args.y.now c.all_times.result.lo c.all_times.result.hi c.requires.column (sym c.in-None.is ∙ c.moment_in.ensures.is)
