use Rattle.std.proofs.Common.{List, length, map, max, sym, ap, ap₂, ◌∙◌}
use Rattle.std.proofs.lemmas.Result.{err_from_is_err_and}
use Rattle.qd_sql_ast.specs.declared.tree.Plus.{out-Plus}
use Rattle.qd_sql_ast.specs.declared.tree.AddTerm.{AddTerm}
use Rattle.qd_bind.specs.declared.typed.Typed.{Typed}
use Rattle.qd_bind.specs.Joined.{chained}
use Rattle.qd_bind.specs.Scoped.{scope}
use Rattle.qd_bind.specs.Seen.{typed}
use Rattle.qd_bind.specs.Steps.{chain_of, chain_typed}
use Rattle.qd_meaning.specs.Binding as binding
use Rattle.qd_bind.proofs.ChainLemmas.{chain_whole, not_empty}
use Rattle.qd_sql_ast.specs.Nesting.{deepest, depth_term, depth_add_term}
use Rattle.qd_bind.proofs.DeepLemmas.{plus_deep, first_deep, rest_deep}
use Rattle.qd_bind.proofs.FoldLemmas.{plus_out}
use Rattle.qd_bind.proofs.StepLemmas.{ok_same}
use Rattle.qd_bind.proofs.expr.Binder.plus.Goals as goal

pub returns-in_err-first : goal.returns-in_err-first
returns-in_err-first g c =
    let p = err_from_is_err_and c.from_residual.result c.from_residual.ensures.1 in
    rw (p.1, p.2) (record { bound = tt; too_deep = first_deep c.in_err-first.field-0.0 c.args.depth _ _ _ (plus_deep c.args.plus.now) c.in_err-first.ensures.too_deep })

pub returns : goal.returns
returns g c =
    let columns = scope c.args.self.now.columns.now in
    let layer = out-Plus c.args.plus.now in
    record {
      bound = ok_same c.added.result _ _
          (ap₂ (λ (x : Typed) (ps : List AddTerm). chain_typed (chained (chain_of x) (map (binding.typed_add_term columns) ps))) c.in_ok-first.ensures.bound c.as_slice.ensures
          ∙ chain_whole (binding.typed_add_term columns) (binding.typed_term columns layer.first) layer.more (not_empty layer.more c.is_empty.result c.is_empty.ensures c.if-is_empty.false)
          ∙ ap typed (sym (plus_out columns c.args.plus.now)))
          c.added.ensures.bound;
      too_deep = rest_deep c.added.result c.args.depth _ _ _ (plus_deep c.args.plus.now ∙ ap (λ (ps : List AddTerm). max (depth_term length layer.first) (deepest (map (depth_add_term length) ps))) (sym c.as_slice.ensures)) c.added.ensures.too_deep;
    }
