use Rattle.std.proofs.Common.{◌≡◌, map, take}
use Rattle.qd_column.specs.Cells.{long_cell}
use Rattle.qd_expr.specs.Numbers.{chained_in_run}
use Rattle.qd_expr.proofs.numbers.+numbers.Given as goal

abbrev pub invariant-chained-loop-step : goal.invariant-chained-loop-step
invariant-chained-loop-step g l = map long_cell l.found.items ≡ chained_in_run (map long_cell l.fn.first.items) (take l.step-index l.steps) l.rows l.run
