use Rattle.qd_expr.proofs.FilterLemmas.{AreRunsKept}
use Rattle.qd_expr.proofs.filters.keep_runs.Given as goal

abbrev pub invariant-loop-run : goal.invariant-loop-run
invariant-loop-run g l = AreRunsKept l.rows l.kept l.expr l.run-items l.run-index
