use Rattle.std.proofs.Common.{◌≡◌, ◌<◌, Bool, List, length, arith, subst, IfOk}
use Rattle.std.specs.Prelude.{IfSome}
use Rattle.std.specs.Arc.{arc_value}
use Rattle.qd_value.specs.Cells.{compares}
use Rattle.qd_expr.proofs.RunLemmas.{columns_lent}
use Rattle.qd_expr.proofs.runs.columns_compared.Goals as goal

pub returns : goal.returns
returns g c =
    let low : c.args.at < length c.deref-2.result.now.kinds = omega (arith, c.cols.ensures.count) in
    let less : c.args.other < length c.deref-else-cols-at.result.now.kinds = omega (arith, c.cols-else-cols-at.ensures.count) in
    record {
      truths = subst (λ (l : List Bool). IfOk c.compared_by_row.result (λ found. IfSome found (λ v. v.items ≡ l)))
          (columns_lent (compares c.args.op) c.args.rows.now c.args.run c.args.at c.args.other (arc_value c.block-block.result.now) c.deref.result.now c.deref-2.result.now c.deref-else-cols-at.result.now c.deref-3.result.now c.deref-4.result.now c.column-x.result.now c.column-y.result.now
          c.requires c.block-block.ensures.block c.deref.ensures c.is_whole.ensures.whole c.deref-2.ensures low c.deref-else-cols-at.ensures less c.deref-3.ensures c.column-x.ensures.column c.deref-4.ensures c.column-y.ensures.column)
          c.compared_by_row.ensures.truths;
    }
