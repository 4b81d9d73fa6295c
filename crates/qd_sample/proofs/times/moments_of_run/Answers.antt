use Rattle.std.proofs.Common.{◌≡◌, ◌<◌, List, length, map, arith, subst}
use Rattle.std.specs.Prelude.{IfSome}
use Rattle.std.specs.Arc.{arc_value}
use Rattle.qd_base.specs.declared.cell.Cell.{Cell}
use Rattle.qd_column.specs.Cells.{time_cell}
use Rattle.qd_expr.proofs.RunLemmas.{cells_lent}
use Rattle.qd_sample.proofs.times.moments_of_run.Goals as goal

pub returns : goal.returns
returns g c =
    let low : c.args.at < length c.deref-2.result.now.kinds = omega (arith, c.cols.ensures.count) in
    record {
      moments = subst (λ (l : List Cell). IfSome c.part_of_moments.result (λ ts. map time_cell ts.now ≡ l))
          (cells_lent c.args.rows.now c.args.run c.args.at (arc_value c.block-block.result.now) c.deref.result.now c.deref-2.result.now c.deref-3.result.now c.column-column.result.now c.requires c.block-block.ensures.block
          c.deref.ensures c.is_whole.ensures.whole c.deref-2.ensures low c.deref-3.ensures c.column-column.ensures.column)
          c.part_of_moments.ensures.moments;
    }
