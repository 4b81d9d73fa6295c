use Rattle.std.proofs.Common.{length, sym, ap, ap₂, ◌∙◌}
use Rattle.std.proofs.lemmas.Result.{err_from_is_err_and}
use Rattle.qd_value.specs.declared.bound.Arithmetic.{Arithmetic}
use Rattle.qd_sql_ast.specs.declared.tree.AddTerm.{out-AddTerm}
use Rattle.qd_bind.specs.declared.typed.Typed.{Typed}
use Rattle.qd_bind.specs.Joined.{chain_link}
use Rattle.qd_bind.specs.Scoped.{scope}
use Rattle.qd_bind.specs.Steps.{chained_on}
use Rattle.qd_meaning.specs.Binding as binding
use Rattle.qd_meaning.specs.Typing.{Link}
use Rattle.qd_bind.proofs.ChainLemmas.{chain_step}
use Rattle.qd_sql_ast.specs.Nesting.{depth_add_term}
use Rattle.qd_bind.proofs.DeepLemmas.{add_term_deep, item_deep}
use Rattle.qd_bind.proofs.FoldLemmas.{add_term_out}
use Rattle.qd_bind.proofs.expr.Binder.added.Goals as goal

pub loop-part-preserved : goal.loop-part-preserved
loop-part-preserved g c =
    let columns = scope c.args.self.now.columns.now in
    chain_step (binding.typed_add_term columns) c.loop-part.found _ c.args.parts.now c.loop-part.part-index c.part-item.result c.push.new.self c.loop-part-test.true c.part-item.is
    (c.in_ok-push.ensures.pushed
    ∙ ap₂ (λ (op : Arithmetic) (x : Typed). chained_on c.loop-part.found op (out-AddTerm c.part-item.result).at x) c.add_op.ensures c.in_ok-right.ensures.bound
    ∙ ap (λ (l : Link). chain_link c.loop-part.found l) (sym (add_term_out columns c.part-item.result)))
    c.loop-part.invariant

pub returns-in_err-right : goal.returns-in_err-right
returns-in_err-right g c =
    let p = err_from_is_err_and c.from_residual-in_err-right.result c.from_residual-in_err-right.ensures.1 in
    rw (p.1, p.2)
    (record { bound = tt; too_deep = item_deep (depth_add_term length) c.args.parts.now c.loop-part.part-index c.part-item.result c.args.depth _ c.in_err-right.field-0.0 c.loop-part-test.true c.part-item.is (add_term_deep c.part-item.result) c.in_err-right.ensures.too_deep })
