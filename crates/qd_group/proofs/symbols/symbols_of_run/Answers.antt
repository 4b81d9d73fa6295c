use Rattle.std.proofs.Common.{◌≡◌, ◌∙◌, ◌<◌, length, arith, ap, sym}
use Rattle.std.specs.Arc.{arc_value}
use Rattle.qd_block.specs.Blocks.{Block, column_in}
use Rattle.qd_expr.proofs.RunLemmas.{cells_lent}
use Rattle.qd_expr.proofs.CellLemmas.{block_found}
use Rattle.qd_rows.specs.Sets.{block_at}
use Rattle.qd_group.proofs.RunLemmas.{column_whole, part_cell}
use Rattle.qd_group.proofs.symbols.symbols_of_run.Goals as goal

pub returns-then-has_few_texts : goal.returns-then-has_few_texts
returns-then-has_few_texts g c =
    let low : c.args.at < length c.deref-2.result.now.kinds = omega (arith, c.cols.ensures.count) in
    let same : arc_value c.block-block.result.now ≡ block_at c.args.rows.now.blocks c.args.run.block = sym (block_found c.args.rows.now.blocks c.args.run.block (arc_value c.block-block.result.now) c.block-block.ensures.block) in
    let is : c.column-column.result.now ≡ column_in (block_at c.args.rows.now.blocks c.args.run.block) c.args.at = c.column-column.ensures.column ∙ ap (λ (b : Block). column_in b c.args.at) (c.deref-3.ensures ∙ same) in
    let within = column_whole c.args.rows.now c.args.run c.args.at c.column-column.result.now is c.requires in
    record {
      column = (is, c.has_few_texts.ensures c.if-has_few_texts.true);
      cells = part_cell c.column-column.result.now.cells c.args.rows.now c.args.at c.args.run
          (cells_lent c.args.rows.now c.args.run c.args.at (arc_value c.block-block.result.now) c.deref.result.now c.deref-2.result.now c.deref-3.result.now c.column-column.result.now c.requires c.block-block.ensures.block
          c.deref.ensures c.is_whole.ensures.whole c.deref-2.ensures low c.deref-3.ensures c.column-column.ensures.column)
          within;
      within = within;
    }
