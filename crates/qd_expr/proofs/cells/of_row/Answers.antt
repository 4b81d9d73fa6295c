use Rattle.std.proofs.Common.{◌≡◌, ◌∙◌, ◌≤◌, length, arith, subst, sym}
use Rattle.std.specs.Arc.{arc_value}
use Rattle.qd_block.specs.Blocks.{Block, IsWhole}
use Rattle.qd_rows.specs.Sets.{block_at}
use Rattle.qd_expr.proofs.CellLemmas.{block_found, cell_absent}
use Rattle.qd_expr.proofs.cells.of_row.Goals as goal

pub returns-else-at-cols : goal.returns-else-at-cols
returns-else-at-cols g c =
    let blocks = c.args.rows.now.blocks in
    let found = block_found blocks c.args.place.0 (arc_value c.block-block.result.now) c.block-block.ensures.block in
    let whole : IsWhole (block_at blocks c.args.place.0) = subst IsWhole (c.deref.ensures ∙ sym found) c.is_whole.ensures.whole in
    let high : length (block_at blocks c.args.place.0).kinds ≤ c.args.at = subst (λ (b : Block). length b.kinds ≤ c.args.at) (c.deref-2.ensures ∙ sym found) (omega (arith, c.cols.ensures.count)) in
    record { value = c.of_absent.ensures.value ∙ cell_absent blocks c.args.cols.now c.args.place c.args.at c.requires whole high }
