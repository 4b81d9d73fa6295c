use Rattle.std.proofs.Common.{List, length, map, max, sym, ap, ap₂, ◌∙◌}
use Rattle.std.proofs.lemmas.Result.{err_from_is_err_and}
use Rattle.qd_sql_ast.specs.declared.tree.Term.{out-Term}
use Rattle.qd_sql_ast.specs.declared.tree.MulSigned.{MulSigned}
use Rattle.qd_bind.specs.declared.typed.Typed.{Typed}
use Rattle.qd_bind.specs.Joined.{chained}
use Rattle.qd_bind.specs.Scoped.{scope}
use Rattle.qd_bind.specs.Seen.{typed}
use Rattle.qd_bind.specs.Steps.{chain_of, chain_typed}
use Rattle.qd_meaning.specs.Binding as binding
use Rattle.qd_bind.proofs.ChainLemmas.{chain_whole, not_empty}
use Rattle.qd_sql_ast.specs.Nesting.{deepest, depth_signed, depth_mul_signed}
use Rattle.qd_bind.proofs.DeepLemmas.{term_deep, first_deep, rest_deep}
use Rattle.qd_bind.proofs.FoldLemmas.{term_out}
use Rattle.qd_bind.proofs.StepLemmas.{ok_same}
use Rattle.qd_bind.proofs.expr.Binder.term.Goals as goal

pub returns-in_err-first : goal.returns-in_err-first
returns-in_err-first g c =
    let p = err_from_is_err_and c.from_residual.result c.from_residual.ensures.1 in
    rw (p.1, p.2) (record { bound = tt; too_deep = first_deep c.in_err-first.field-0.0 c.args.depth _ _ _ (term_deep c.args.term.now) c.in_err-first.ensures.too_deep })

pub returns : goal.returns
returns g c =
    let columns = scope c.args.self.now.columns.now in
    let layer = out-Term c.args.term.now in
    record {
      bound = ok_same c.multiplied.result _ _
          (ap₂ (λ (x : Typed) (ps : List MulSigned). chain_typed (chained (chain_of x) (map (binding.typed_mul_signed columns) ps))) c.in_ok-first.ensures.bound c.as_slice.ensures
          ∙ chain_whole (binding.typed_mul_signed columns) (binding.typed_signed columns layer.first) layer.more (not_empty layer.more c.is_empty.result c.is_empty.ensures c.if-is_empty.false)
          ∙ ap typed (sym (term_out columns c.args.term.now)))
          c.multiplied.ensures.bound;
      too_deep = rest_deep c.multiplied.result c.args.depth _ _ _ (term_deep c.args.term.now ∙ ap (λ (ps : List MulSigned). max (depth_signed length layer.first) (deepest (map (depth_mul_signed length) ps))) (sym c.as_slice.ensures)) c.multiplied.ensures.too_deep;
    }
