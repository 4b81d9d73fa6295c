use Rattle.std.proofs.Common.{◌-◌}
use Rattle.qd_expr.proofs.FilterLemmas.{IsRunKept}
use Rattle.qd_expr.proofs.filters.keep_run.Given as goal

abbrev pub invariant-loop-from : goal.invariant-loop-from
invariant-loop-from g l = IsRunKept l.rows l.initial.kept l.kept l.expr l.run l.from

abbrev pub decreases-loop-from : goal.decreases-loop-from
decreases-loop-from g l = l.run.to - l.from
