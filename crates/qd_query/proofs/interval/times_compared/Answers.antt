use Rattle.std.proofs.Common.{◌∙◌, sym}
use Rattle.qd_query.proofs.IntervalLemmas.{no_column}
use Rattle.qd_query.proofs.interval.times_compared.Goals as goal

pub returns-else-is_column-2-clause-allowed : goal.returns-else-is_column-2-clause-allowed
returns-else-is_column-2-clause-allowed c =
    no_column c.args.col c.args.op c.args.x.now c.args.y.now c.all_times.result.lo c.all_times.result.hi (sym c.is_column.ensures.is ∙ c.if-is_column.false) (sym c.is_column-else-is_column.ensures.is ∙ c.if-is_column-2.false)
