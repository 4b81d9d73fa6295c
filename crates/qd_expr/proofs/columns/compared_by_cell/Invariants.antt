use Rattle.std.proofs.Common.{◌≡◌, ◌-◌, map}
use Rattle.std.specs.List.{list_any, range_with_len}
use Rattle.qd_base.specs.Rows.{cell_eq}
use Rattle.qd_column.specs.Cells.{cell_of_row}
use Rattle.qd_value.specs.Cells.{compares}
use Rattle.qd_value.specs.Scalars.{cell_of}
use Rattle.qd_expr.proofs.columns.compared_by_cell.Given as goal

abbrev pub invariant-loop-i : goal.invariant-loop-i
invariant-loop-i g l = l.found.items ≡ map (λ k. compares l.op (cell_of_row l.column k) (cell_of l.literal)) (range_with_len l.from (l.i - l.from))
