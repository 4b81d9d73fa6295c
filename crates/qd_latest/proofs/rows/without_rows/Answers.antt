use Rattle.std.proofs.Common.{◌∙◌, ◌++◌, ◌∷◌, [], ap}
use Rattle.std.specs.Arc.{arc_value}
use Rattle.qd_block.specs.Blocks.{Block}
use Rattle.qd_rows.specs.Sets.{ResultRows}
use Rattle.qd_expr.proofs.FilterLemmas.{blocks_more}
use Rattle.qd_latest.proofs.rows.without_rows.Goals as goal

pub loop-b-preserved : goal.loop-b-preserved
loop-b-preserved g c =
    let old : ResultRows = c.loop-b.empty in
    blocks_more c.args.rows.now old c.add_block.new.self c.loop-b.b (arc_value c.block.result.now) c.loop-b.invariant c.block.ensures.block
    (c.in_ok-add_block.ensures.ok ∙ ap (λ (x : Block). record old { blocks = old.blocks ++ x ∷ [] }) c.in_ok-clone.ensures.cases)
