use Rattle.std.proofs.Common.{◌≡◌, ◌<◌, Bool, List, length, arith, subst, IfOk}
use Rattle.std.specs.Prelude.{IfSome}
use Rattle.std.specs.Arc.{arc_value}
use Rattle.qd_base.specs.declared.cell.Cell.{Cell}
use Rattle.qd_value.specs.Cells.{is_true}
use Rattle.qd_expr.proofs.RunLemmas.{column_lent}
use Rattle.qd_expr.proofs.runs.column_true.Goals as goal

pub returns : goal.returns
returns g c =
    let test : Cell → Bool = λ x. is_true x in
    let low : c.args.at < length c.deref-2.result.now.kinds = omega (arith, c.cols.ensures.count) in
    record {
      truths = subst (λ (l : List Bool). IfOk c.trues.result (λ found. IfSome found (λ v. v.items ≡ l)))
          (column_lent test c.args.rows.now c.args.run c.args.at (arc_value c.block-block.result.now) c.deref.result.now c.deref-2.result.now c.deref-3.result.now c.column-column.result.now c.requires c.block-block.ensures.block
          c.deref.ensures c.is_whole.ensures.whole c.deref-2.ensures low c.deref-3.ensures c.column-column.ensures.column)
          c.trues.ensures.truths;
    }
