use Rattle.std.proofs.Common.{◌∙◌, ap}
use Rattle.qd_base.specs.Rows.{time_in}
use Rattle.qd_expr.proofs.RunLemmas.{value-column}
use Rattle.qd_rows.specs.Sets.{row_of_place}
use Rattle.qd_sample.proofs.times.time_at.Goals as goal

pub returns : goal.returns
returns g c = c.moment.ensures ∙ ap time_in (c.scalar.ensures.value ∙ value-column c.args.time_col (row_of_place c.args.rows.now c.args.place))
