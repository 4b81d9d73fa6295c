use Rattle.std.proofs.Common.{◌≡◌, ◌<◌, ◌∙◌, Bool, length, arith}
use Rattle.std.specs.Arc.{arc_value}
use Rattle.qd_base.specs.declared.cell.Cell.{Cell}
use Rattle.qd_value.specs.Cells.{compares}
use Rattle.qd_value.specs.Scalars.{cell_of}
use Rattle.qd_expr.proofs.RunLemmas.{column_lent}
use Rattle.qd_expr.proofs.runs.column_compared.Goals as goal

pub returns : goal.returns
returns g c =
    let test : Cell → Bool = λ x. compares c.args.op x (cell_of c.args.literal) in
    let low : c.args.at < length c.deref-2.result.now.kinds = omega (arith, c.cols.ensures.count) in
    record {
      truths = c.in_ok-compared.ensures.truths
          ∙ column_lent test c.args.rows.now c.args.run c.args.at (arc_value c.block-block.result.now) c.deref.result.now c.deref-2.result.now c.deref-3.result.now c.column-column.result.now c.requires c.block-block.ensures.block c.deref.ensures
          c.is_whole.ensures.whole c.deref-2.ensures low c.deref-3.ensures c.column-column.ensures.column;
    }
