use Rattle.std.proofs.Common.{◌∷◌, ◌∙◌, [], nat_eq, get_or, refl, arith}
use Rattle.indexmap.specs.IndexMap.{get}
use Rattle.qd_manifest.specs.Spelling.{no_part}
use Rattle.qd_catalog.proofs.LoopLemmas.{unlist_step}
use Rattle.qd_catalog.proofs.QueueLemmas.{few_wait, waits_after}
use Rattle.qd_catalog.proofs.RetireLemmas.{unlists_none}
use Rattle.qd_catalog.proofs.blocks.unlist_parts.Goals as goal

pub loop-part-init : goal.loop-part-init
loop-part-init c = record {
  unlisted = unlists_none (get nat_eq c.args.kept.now) c.args.row c.args.retired.now.items;
  queue = c.requires.queue;
  capacity = refl;
  len = refl;
}

pub unlist_block-requires-clause-room : goal.unlist_block-requires-clause-room
unlist_block-requires-clause-room c = λ h.
    let few = few_wait c.loop-part.kept.entries c.loop-part.retired.items (get_or c.args.parts.now c.loop-part.part-index no_part).block c.args.row c.loop-part.invariant.queue h in
    omega arith

pub loop-part-preserved : goal.loop-part-preserved
loop-part-preserved c =
    let old = get nat_eq c.loop-part.kept in
    let new = get nat_eq c.unlist_block.new.kept in
    let block = (get_or c.args.parts.now c.loop-part.part-index no_part).block in
    let e = c.unlist_block.ensures in
    record {
      unlisted = unlist_step c.args.parts.now c.loop-part.part-index no_part c.loop-part-test.true (get nat_eq c.args.kept.now) old new c.args.row c.args.retired.now.items c.loop-part.retired.items c.unlist_block.new.retired.items c.loop-part.invariant.unlisted e.unlisted;
      queue = waits_after old new c.args.row (block ∷ []) c.loop-part.retired.items c.unlist_block.new.retired.items c.loop-part.invariant.queue e.unlisted;
      capacity = e.capacity ∙ c.loop-part.invariant.capacity;
      len = e.len ∙ c.loop-part.invariant.len;
    }
