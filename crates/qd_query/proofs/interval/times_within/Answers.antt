use Rattle.std.proofs.Common.{◌∙◌, sym}
use Rattle.qd_query.proofs.IntervalLemmas.{within_another, within_column}
use Rattle.qd_query.proofs.interval.times_within.Goals as goal

pub returns-then-is_column-clause-allowed : goal.returns-then-is_column-clause-allowed
returns-then-is_column-clause-allowed c = within_column c.args.col c.args.x.now c.args.lo c.args.hi

pub returns-else-is_column-clause-allowed : goal.returns-else-is_column-clause-allowed
returns-else-is_column-clause-allowed c =
    within_another c.args.col c.args.x.now c.args.lo c.args.hi c.all_times.result.lo c.all_times.result.hi (sym c.is_column.ensures.is ∙ c.if-is_column.false)
