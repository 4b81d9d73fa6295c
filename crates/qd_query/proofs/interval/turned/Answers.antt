use Rattle.std.proofs.Common.{◌∙◌, sym, ap}
use Rattle.qd_value.specs.declared.bound.Comparison.{Comparison}
use Rattle.qd_value.specs.Cells.{compares}
use Rattle.qd_value.proofs.Orders.{greater-turned, greater_equal-turned}
use Rattle.qd_query.specs.Times as times
use Rattle.qd_query.proofs.interval.turned.Goals as goal

pub returns-in-Less : goal.returns-in-Less
returns-in-Less c = record { is = sym (ap times.turned c.in-Less.is); turned = λ x y. greater-turned y x ∙ ap (λ (o : Comparison). compares o x y) (sym c.in-Less.is) }

pub returns-in-LessEqual : goal.returns-in-LessEqual
returns-in-LessEqual c = record { is = sym (ap times.turned c.in-LessEqual.is); turned = λ x y. greater_equal-turned y x ∙ ap (λ (o : Comparison). compares o x y) (sym c.in-LessEqual.is) }

pub returns-in-Greater : goal.returns-in-Greater
returns-in-Greater c = record { is = sym (ap times.turned c.in-Greater.is); turned = λ x y. sym (greater-turned x y) ∙ ap (λ (o : Comparison). compares o x y) (sym c.in-Greater.is) }

pub returns-in-GreaterEqual : goal.returns-in-GreaterEqual
returns-in-GreaterEqual c = record { is = sym (ap times.turned c.in-GreaterEqual.is); turned = λ x y. sym (greater_equal-turned x y) ∙ ap (λ (o : Comparison). compares o x y) (sym c.in-GreaterEqual.is) }
