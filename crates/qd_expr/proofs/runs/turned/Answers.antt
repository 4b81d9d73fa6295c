use Rattle.qd_base.specs.declared.cell.Cell.{Cell}
use Rattle.std.proofs.Common.{◌≡◌, ◌∙◌, sym, ap}
use Rattle.qd_value.specs.declared.bound.Comparison.{Comparison}
use Rattle.qd_value.specs.Cells.{compares}
use Rattle.qd_expr.proofs.LiteralLemmas.{turn-equal, turn-not_equal, turn-less, turn-less_equal, turn-greater, turn-greater_equal}
use Rattle.qd_expr.proofs.runs.turned.Goals as goal

pub returns-in-Equal : goal.returns-in-Equal
returns-in-Equal c = record { turned = λ x y. turn-equal x y ∙ ap (λ (o : Comparison). compares o x y) (sym c.in-Equal.is) }

pub returns-in-NotEqual : goal.returns-in-NotEqual
returns-in-NotEqual c = record { turned = λ x y. turn-not_equal x y ∙ ap (λ (o : Comparison). compares o x y) (sym c.in-NotEqual.is) }

pub returns-in-Less : goal.returns-in-Less
returns-in-Less c = record { turned = λ x y. turn-less x y ∙ ap (λ (o : Comparison). compares o x y) (sym c.in-Less.is) }

pub returns-in-LessEqual : goal.returns-in-LessEqual
returns-in-LessEqual c = record { turned = λ x y. turn-less_equal x y ∙ ap (λ (o : Comparison). compares o x y) (sym c.in-LessEqual.is) }

pub returns-in-Greater : goal.returns-in-Greater
returns-in-Greater c = record { turned = λ x y. turn-greater x y ∙ ap (λ (o : Comparison). compares o x y) (sym c.in-Greater.is) }

pub returns-in-GreaterEqual : goal.returns-in-GreaterEqual
returns-in-GreaterEqual c = record { turned = λ x y. turn-greater_equal x y ∙ ap (λ (o : Comparison). compares o x y) (sym c.in-GreaterEqual.is) }
