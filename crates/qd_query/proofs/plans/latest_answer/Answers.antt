use Rattle.std.proofs.Common.{subst, sym}
use Rattle.qd_rows.specs.Sets.{rows_in}
use Rattle.qd_query.specs.Answers.{AreTimed}
use Rattle.qd_query.proofs.Orders.{timed_latest}
use Rattle.qd_query.proofs.plans.latest_answer.Goals as goal

pub worked-requires-clause-timed : goal.worked-requires-clause-timed
worked-requires-clause-timed g c =
    subst (AreTimed c.args.time_col) (sym c.in_ok-last-in-Some.ensures.rows) (timed_latest c.in-Some.keys c.args.time_col (rows_in c.args.rows.now) c.requires.timed)
