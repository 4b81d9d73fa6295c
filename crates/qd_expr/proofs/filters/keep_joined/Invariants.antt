use Rattle.qd_expr.proofs.FilterLemmas.{IsFiltered}
use Rattle.qd_expr.proofs.filters.keep_joined.Given as goal

abbrev pub invariant-loop-i : goal.invariant-loop-i
invariant-loop-i g l = IsFiltered l.rows l.kept l.expr l.i
