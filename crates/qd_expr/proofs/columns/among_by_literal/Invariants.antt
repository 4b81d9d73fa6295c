use Rattle.std.proofs.Common.{◌≡◌, map, take, slice_range}
use Rattle.std.specs.List.{list_any}
use Rattle.qd_base.specs.Rows.{cell_eq}
use Rattle.qd_expr.proofs.columns.among_by_literal.Given as goal

abbrev pub invariant-loop-literal : goal.invariant-loop-literal
invariant-loop-literal g l = l.found.items ≡ map (λ x. list_any (cell_eq x) (take l.literal-index l.literals)) (slice_range l.column.cells l.from l.to)
