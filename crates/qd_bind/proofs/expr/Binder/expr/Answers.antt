use Rattle.std.proofs.Common.{List, length, map, max, sym, ap, ap₂, ◌∙◌}
use Rattle.std.proofs.lemmas.Result.{err_from_is_err_and}
use Rattle.qd_sql_ast.specs.declared.tree.Expr.{out-Expr}
use Rattle.qd_sql_ast.specs.declared.tree.OrConj.{OrConj}
use Rattle.qd_bind.specs.declared.typed.Typed.{Typed}
use Rattle.qd_value.specs.declared.bound.Bound.TheVariants as bound
use Rattle.qd_bind.specs.Joined.{joined}
use Rattle.qd_bind.specs.Scoped.{scope}
use Rattle.qd_bind.specs.Seen.{typed}
use Rattle.qd_bind.specs.Steps.{junction_of, junction_typed}
use Rattle.qd_meaning.specs.Binding as binding
use Rattle.qd_bind.proofs.ChainLemmas.{junction_whole, not_empty}
use Rattle.qd_sql_ast.specs.Nesting.{deepest, depth_conj, depth_or_conj}
use Rattle.qd_bind.proofs.DeepLemmas.{expr_deep, first_deep, rest_deep}
use Rattle.qd_bind.proofs.FoldLemmas.{expr_out}
use Rattle.qd_bind.proofs.StepLemmas.{ok_same}
use Rattle.qd_bind.proofs.expr.Binder.expr.Goals as goal

pub returns-in_err-first : goal.returns-in_err-first
returns-in_err-first g c =
    let p = err_from_is_err_and c.from_residual.result c.from_residual.ensures.1 in
    rw (p.1, p.2) (record { bound = tt; too_deep = first_deep c.in_err-first.field-0.0 c.args.depth _ _ _ (expr_deep c.args.expr.now) c.in_err-first.ensures.too_deep })

pub returns : goal.returns
returns g c =
    let columns = scope c.args.self.now.columns.now in
    let layer = out-Expr c.args.expr.now in
    record {
      bound = ok_same c.ors.result _ _
          (ap₂ (λ (x : Typed) (ps : List OrConj). junction_typed bound.Any (joined (junction_of x) (map (binding.typed_or_conj columns) ps))) c.in_ok-first.ensures.bound c.as_slice.ensures
          ∙ junction_whole (binding.typed_or_conj columns) bound.Any (binding.typed_conj columns layer.first) layer.more (not_empty layer.more c.is_empty.result c.is_empty.ensures c.if-is_empty.false)
          ∙ ap typed (sym (expr_out columns c.args.expr.now)))
          c.ors.ensures.bound;
      too_deep = rest_deep c.ors.result c.args.depth _ _ _ (expr_deep c.args.expr.now ∙ ap (λ (ps : List OrConj). max (depth_conj length layer.first) (deepest (map (depth_or_conj length) ps))) (sym c.as_slice.ensures)) c.ors.ensures.too_deep;
    }
