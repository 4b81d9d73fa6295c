use Rattle.std.proofs.Common.{◌<◌, length, refl, arith}
use Rattle.qd_versions.proofs.Steps.{block_at, counts_together, item_is, numbered_at}
use Rattle.qd_versions.proofs.ToldLemmas.{removed_more_told, removed_none_told}
use Rattle.qd_versions.proofs.undoing.remove_blocks.Goals as goal

pub loop-added-init : goal.loop-added-init
loop-added-init g c = (removed_none_told c.args.next c.args.blocks.now _, refl)

pub remove_block-removed-requires : goal.remove_block-removed-requires
remove_block-removed-requires g c =
    let blocks = c.args.blocks.now in
    let at = numbered_at c.args.next blocks c.requires.numbered in
    let here : c.loop-added.added-index < length blocks = omega arith in
    let num = block_at c.args.next c.loop-added.added-index blocks c.added-item.result at here (item_is blocks c.loop-added.added-index c.added-item.result here c.added-item.is) in
    record { block = omega (arith, num, c.requires.small, here) }

pub loop-added-preserved : goal.loop-added-preserved
loop-added-preserved g c =
    let blocks = c.args.blocks.now in
    let at = numbered_at c.args.next blocks c.requires.numbered in
    let here : c.loop-added.added-index < length blocks = omega arith in
    let new = c.added-item.result in
    let is = item_is blocks c.loop-added.added-index new here c.added-item.is in
    rw c.together-outcome.ensures.both (
      removed_more_told c.args.next c.loop-added.added-index blocks at c.requires.small here new is c.loop-added.outcome c.remove_block-removed.result _ _ _ c.loop-added.invariant.0 c.remove_block-removed.ensures.told,
      counts_together _ _ _ c.loop-added.outcome c.remove_block-removed.result c.loop-added.invariant.1 c.remove_block-removed.ensures.counted,
    )
