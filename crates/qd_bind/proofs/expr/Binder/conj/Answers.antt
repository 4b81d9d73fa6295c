use Rattle.std.proofs.Common.{List, length, map, max, sym, ap, ap₂, ◌∙◌}
use Rattle.std.proofs.lemmas.Result.{err_from_is_err_and}
use Rattle.qd_sql_ast.specs.declared.tree.Conj.{out-Conj}
use Rattle.qd_sql_ast.specs.declared.tree.AndNeg.{AndNeg}
use Rattle.qd_bind.specs.declared.typed.Typed.{Typed}
use Rattle.qd_value.specs.declared.bound.Bound.TheVariants as bound
use Rattle.qd_bind.specs.Joined.{joined}
use Rattle.qd_bind.specs.Scoped.{scope}
use Rattle.qd_bind.specs.Seen.{typed}
use Rattle.qd_bind.specs.Steps.{junction_of, junction_typed}
use Rattle.qd_meaning.specs.Binding as binding
use Rattle.qd_bind.proofs.ChainLemmas.{junction_whole, not_empty}
use Rattle.qd_sql_ast.specs.Nesting.{deepest, depth_neg, depth_and_neg}
use Rattle.qd_bind.proofs.DeepLemmas.{conj_deep, first_deep, rest_deep}
use Rattle.qd_bind.proofs.FoldLemmas.{conj_out}
use Rattle.qd_bind.proofs.StepLemmas.{ok_same}
use Rattle.qd_bind.proofs.expr.Binder.conj.Goals as goal

pub returns-in_err-first : goal.returns-in_err-first
returns-in_err-first g c =
    let p = err_from_is_err_and c.from_residual.result c.from_residual.ensures.1 in
    rw (p.1, p.2) (record { bound = tt; too_deep = first_deep c.in_err-first.field-0.0 c.args.depth _ _ _ (conj_deep c.args.conj.now) c.in_err-first.ensures.too_deep })

pub returns : goal.returns
returns g c =
    let columns = scope c.args.self.now.columns.now in
    let layer = out-Conj c.args.conj.now in
    record {
      bound = ok_same c.ands.result _ _
          (ap₂ (λ (x : Typed) (ps : List AndNeg). junction_typed bound.All (joined (junction_of x) (map (binding.typed_and_neg columns) ps))) c.in_ok-first.ensures.bound c.as_slice.ensures
          ∙ junction_whole (binding.typed_and_neg columns) bound.All (binding.typed_neg columns layer.first) layer.more (not_empty layer.more c.is_empty.result c.is_empty.ensures c.if-is_empty.false)
          ∙ ap typed (sym (conj_out columns c.args.conj.now)))
          c.ands.ensures.bound;
      too_deep = rest_deep c.ands.result c.args.depth _ _ _ (conj_deep c.args.conj.now ∙ ap (λ (ps : List AndNeg). max (depth_neg length layer.first) (deepest (map (depth_and_neg length) ps))) (sym c.as_slice.ensures)) c.ands.ensures.too_deep;
    }
