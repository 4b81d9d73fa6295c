use Rattle.std.proofs.Common.{subst, sym}
use Rattle.qd_value.specs.Value.{passes}
use Rattle.qd_rows.specs.Sets.{rows_in}
use Rattle.qd_query.specs.Answers.{AreTimed}
use Rattle.qd_query.proofs.Orders.{timed_filter}
use Rattle.qd_query.proofs.plans.kept_answer.Goals as goal

pub latest_answer-requires-clause-timed : goal.latest_answer-requires-clause-timed
latest_answer-requires-clause-timed g c =
    subst (AreTimed c.args.time_col) (sym c.in_ok-kept-in-Some.ensures.rows) (timed_filter c.args.time_col (passes c.in-Some.test) (rows_in c.args.rows.now) c.requires.timed)
