use Rattle.std.proofs.Common.{◌∙◌, ap}
use Rattle.qd_rows.specs.Sets.{rows_in}
use Rattle.qd_expr.proofs.FilterLemmas.{rows_passing}
use Rattle.qd_expr.proofs.filters.filter.Goals as goal

pub returns-clause-rows : goal.returns-clause-rows
returns-clause-rows g c = ap rows_in c.in_ok-keep.ensures.ok ∙ rows_passing c.args.expr.now c.args.rows.now
