use Rattle.std.proofs.Common.{length, sym, ap, ◌∙◌}
use Rattle.std.proofs.lemmas.Result.{err_from_is_err_and}
use Rattle.qd_sql_ast.specs.declared.tree.AndNeg.{out-AndNeg}
use Rattle.qd_bind.specs.declared.typed.Typed.{Typed}
use Rattle.qd_bind.specs.Joined.{join_part}
use Rattle.qd_bind.specs.Scoped.{scope}
use Rattle.qd_bind.specs.Steps.{joined_on}
use Rattle.qd_meaning.specs.Binding as binding
use Rattle.qd_meaning.specs.Typing.{Part}
use Rattle.qd_bind.proofs.ChainLemmas.{junction_step}
use Rattle.qd_sql_ast.specs.Nesting.{depth_and_neg}
use Rattle.qd_bind.proofs.DeepLemmas.{and_neg_deep, item_deep}
use Rattle.qd_bind.proofs.FoldLemmas.{and_neg_out}
use Rattle.qd_bind.proofs.expr.Binder.ands.Goals as goal

pub loop-part-preserved : goal.loop-part-preserved
loop-part-preserved g c =
    let columns = scope c.args.self.now.columns.now in
    junction_step (binding.typed_and_neg columns) c.loop-part.found _ c.args.parts.now c.loop-part.part-index c.part-item.result c.push.new.self c.loop-part-test.true c.part-item.is
    (c.in_ok-push.ensures.pushed
    ∙ ap (λ (x : Typed). joined_on c.loop-part.found (out-AndNeg c.part-item.result).at x) c.in_ok-right.ensures.bound
    ∙ ap (λ (p : Part). join_part c.loop-part.found p) (sym (and_neg_out columns c.part-item.result)))
    c.loop-part.invariant

pub returns-in_err-right : goal.returns-in_err-right
returns-in_err-right g c =
    let p = err_from_is_err_and c.from_residual-in_err-right.result c.from_residual-in_err-right.ensures.1 in
    rw (p.1, p.2)
    (record { bound = tt; too_deep = item_deep (depth_and_neg length) c.args.parts.now c.loop-part.part-index c.part-item.result c.args.depth _ c.in_err-right.field-0.0 c.loop-part-test.true c.part-item.is (and_neg_deep c.part-item.result) c.in_err-right.ensures.too_deep })
