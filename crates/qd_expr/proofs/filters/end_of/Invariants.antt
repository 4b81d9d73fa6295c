use Rattle.qd_expr.proofs.FilterLemmas.{AreSame}
use Rattle.qd_expr.proofs.filters.end_of.Given as goal

abbrev pub invariant-loop-to : goal.invariant-loop-to
invariant-loop-to l = AreSame l.found l.from l.to
