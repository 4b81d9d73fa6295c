-- Arithmetic on numbers as a LONG column keeps them, where the least number stands for NULL.
use Rattle.std.specs.Prelude.{ℤ, List, fold, map}
use Rattle.std.specs.List.{zip}
use Rattle.qd_base.specs.declared.cell.Cell.{Cell}
use Rattle.qd_base.specs.declared.cell.Cell.TheVariants as cell
use Rattle.qd_base.specs.declared.limits.TheConstants.{NULL_LONG}
use Rattle.qd_column.specs.Cells.{long_cell}
use Rattle.qd_expr.specs.Passing.{values_in_run}
use Rattle.qd_rows.specs.declared.runs.Run.{Run}
use Rattle.qd_rows.specs.Sets.{ResultRows}
use Rattle.qd_value.specs.declared.bound.Arithmetic.{Arithmetic}
use Rattle.qd_value.specs.declared.bound.Operand.{Operand}
use Rattle.qd_value.specs.Cells.{arithmetic, negated}

-- the number that a column keeps for a cell
abbrev pub kept : Cell → ℤ
kept (cell.Long x) = x
kept _ = NULL_LONG

-- what an operator makes of two numbers that are kept, and of one the other sign
abbrev pub on_kept : Arithmetic → ℤ → ℤ → ℤ
on_kept op x y = kept (arithmetic op (long_cell x) (long_cell y))

abbrev pub opposite_kept : ℤ → ℤ
opposite_kept x = kept (negated (long_cell x))

-- what an operator makes of two lists of values, at each position
abbrev pub combined : Arithmetic → List Cell → List Cell → List Cell
combined op xs ys = map (λ p. arithmetic op p.0 p.1) (zip xs ys)

-- the operators of a chain, one after another, over all rows of a run
abbrev pub chained_in_run : List Cell → List Operand → ResultRows → Run → List Cell
chained_in_run xs steps s r = fold (λ found o. combined o.op found (values_in_run o.right s r)) xs steps
