use Rattle.std.proofs.Common.{◌≡◌, ◌-◌, None, map}
use Rattle.std.specs.List.{range_with_len}
use Rattle.qd_expr.specs.Passing.{passes_at}
use Rattle.qd_expr.proofs.runs.row_by_row.Given as goal

abbrev pub invariant-loop-i : goal.invariant-loop-i
invariant-loop-i g l = l.found.items ≡ map (λ i. passes_at l.expr l.rows ((l.run.block, i), None)) (range_with_len l.run.from (l.i - l.run.from))
