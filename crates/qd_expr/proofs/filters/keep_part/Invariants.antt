use Rattle.std.proofs.Common.{◌-◌, length}
use Rattle.qd_expr.proofs.FilterLemmas.{IsKept}
use Rattle.qd_expr.proofs.filters.keep_part.Given as goal

abbrev pub invariant-loop-from : goal.invariant-loop-from
invariant-loop-from g l = IsKept l.initial.kept l.kept l.part l.found l.from

abbrev pub decreases-loop-from : goal.decreases-loop-from
decreases-loop-from g l = length l.found - l.from
