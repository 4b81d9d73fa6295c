use Rattle.std.proofs.Common.{◌≡◌, ◌∙◌, ◌++◌, ◌∷◌, [], List, ap, arith, take}
use Rattle.std.specs.Arc.{arc_value}
use Rattle.std.proofs.lemmas.List.{append-nil, take_all}
use Rattle.qd_block.specs.Blocks.{Block}
use Rattle.qd_rows.specs.Sets.{ResultRows}
use Rattle.qd_asof.proofs.SideLemmas.{blocks_begun, blocks_next, blocks_done}
use Rattle.qd_asof.proofs.sides.add_blocks.Goals as goal

pub loop-b-init : goal.loop-b-init
loop-b-init g c = blocks_begun c.args.set.now c.args.from.now.blocks

pub loop-b-preserved : goal.loop-b-preserved
loop-b-preserved g c =
    let old : ResultRows = c.loop-b.set in
    blocks_next old c.add_block.new.self c.args.set.now c.args.from.now.blocks c.loop-b.b (arc_value c.block.result.now) c.loop-b.invariant c.block.ensures.block
    (c.in_ok-add_block.ensures.ok ∙ ap (λ (x : Block). record old { blocks = old.blocks ++ x ∷ [] }) c.in_ok-clone.ensures.cases)

pub returns : goal.returns
returns g c = record { ok = blocks_done c.loop-b.set c.args.set.now c.args.from.now.blocks c.loop-b.b (omega arith) c.loop-b.invariant }
