-- The value of an expression on a row. QuestDB documentation, "SELECT", "WHERE", "IN" and "NULL values".
use Rattle.std.specs.Prelude.{Bool, not, List, fold}
use Rattle.std.specs.List.{list_all, list_any}
use Rattle.qd_base.specs.declared.cell.Cell.{Cell}
use Rattle.qd_base.specs.declared.cell.Cell.TheVariants as cell
use Rattle.qd_base.specs.Rows.{Row, cell_at, cell_eq}
use Rattle.qd_value.specs.declared.bound.Arithmetic.{Arithmetic}
use Rattle.qd_value.specs.declared.bound.Bound.{Bound}
use Rattle.qd_value.specs.declared.bound.Operand.{Operand}
use Rattle.qd_value.specs.declared.bound.Bound.TheOpen.{Bound-F, Operand-F}
use Rattle.qd_value.specs.declared.bound.Bound.TheFolds.{fold-Bound, fold-Operand}
use Rattle.qd_value.specs.Cells.{is_null, arithmetic, negated, compares, is_within, is_true}

-- an operator with the value of its right side
abbrev pub Step : Type 0
Step = Arithmetic × Cell

-- operators of a chain group to the left
abbrev pub chained : Cell → List Step → Cell
chained x steps = fold (λ found step. arithmetic step.0 found step.1) x steps

-- One level of an expression, with the value of each part in its place.
abbrev pub value_step : Row → Bound-F Cell Step → Cell
value_step row (Bound-F.Column at) = cell_at row at
value_step row (Bound-F.Literal c) = c
value_step row (Bound-F.Negated x) = negated x
value_step row (Bound-F.Chain x steps) = chained x steps
value_step row (Bound-F.Compare op x y) = cell.Bool (compares op x y)
value_step row (Bound-F.InList x list) = cell.Bool (list_any (cell_eq x) list)
value_step row (Bound-F.InInterval x lo hi) = cell.Bool (is_within lo hi x)
value_step row (Bound-F.IsNull x) = cell.Bool (is_null x)
value_step row (Bound-F.Not x) = cell.Bool (not (is_true x))
value_step row (Bound-F.All xs) = cell.Bool (list_all is_true xs)
value_step row (Bound-F.Any xs) = cell.Bool (list_any is_true xs)

abbrev pub operand_step : Operand-F Cell Step → Step
operand_step o = (o.op, o.right)

abbrev pub value : Bound → Row → Cell
value e row = fold-Bound Cell Step (value_step row) operand_step e

abbrev pub operand_value : Row → Operand → Step
operand_value row o = fold-Operand Cell Step (value_step row) operand_step o

-- whether a row passes: where the value is true, NULL counting as false
abbrev pub passes : Bound → Row → Bool
passes e row = is_true (value e row)
