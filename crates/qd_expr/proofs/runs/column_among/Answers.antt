use Rattle.std.proofs.Common.{◌≡◌, ◌<◌, ◌∙◌, Bool, length, arith}
use Rattle.std.specs.Arc.{arc_value}
use Rattle.std.specs.List.{list_any}
use Rattle.qd_base.specs.declared.cell.Cell.{Cell}
use Rattle.qd_base.specs.Rows.{cell_eq}
use Rattle.qd_expr.proofs.RunLemmas.{column_lent}
use Rattle.qd_expr.proofs.runs.column_among.Goals as goal

pub returns : goal.returns
returns g c =
    let test : Cell → Bool = λ x. list_any (cell_eq x) c.args.literals.now in
    let low : c.args.at < length c.deref-2.result.now.kinds = omega (arith, c.cols.ensures.count) in
    record {
      truths = c.in_ok-among.ensures.truths
          ∙ column_lent test c.args.rows.now c.args.run c.args.at (arc_value c.block-block.result.now) c.deref.result.now c.deref-2.result.now c.deref-3.result.now c.column-column.result.now c.requires c.block-block.ensures.block c.deref.ensures
          c.is_whole.ensures.whole c.deref-2.ensures low c.deref-3.ensures c.column-column.ensures.column;
    }
