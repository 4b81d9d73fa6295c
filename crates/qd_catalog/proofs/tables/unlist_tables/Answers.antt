use Rattle.std.proofs.Common.{◌∙◌, List, nat_eq, refl, subst}
use Rattle.indexmap.specs.IndexMap.{get}
use Rattle.qd_base.specs.declared.part.Part.{Part}
use Rattle.qd_manifest.specs.Spelling.{blocks_in}
use Rattle.qd_catalog.specs.Tracked.{Unlists}
use Rattle.qd_catalog.proofs.LoopLemmas.{table_unlist_step}
use Rattle.qd_catalog.proofs.QueueLemmas.{waits_after}
use Rattle.qd_catalog.proofs.RetireLemmas.{unlists_none}
use Rattle.qd_catalog.proofs.tables.unlist_tables.Goals as goal

pub loop-table-init : goal.loop-table-init
loop-table-init c = record {
  unlisted = unlists_none (get nat_eq c.args.kept.now) c.args.row c.args.retired.now.items;
  queue = c.requires.queue;
  capacity = refl;
  len = refl;
}

pub loop-table-preserved : goal.loop-table-preserved
loop-table-preserved c =
    let old = get nat_eq c.loop-table.kept in
    let new = get nat_eq c.unlist_parts.new.kept in
    let between = c.loop-table.retired.items in
    let after = c.unlist_parts.new.retired.items in
    let e = c.unlist_parts.ensures in
    let t = c.table-item.result in
    let unlisted = subst (λ (ps : List Part). Unlists old new c.args.row (blocks_in ps) between after) c.as_slice.ensures.items e.unlisted in
    record {
      unlisted = table_unlist_step c.args.tables.now c.loop-table.table-index t c.loop-table-test.true c.table-item.is (get nat_eq c.args.kept.now) old new c.args.row c.args.retired.now.items between after c.loop-table.invariant.unlisted unlisted;
      queue = waits_after old new c.args.row (blocks_in t.parts) between after c.loop-table.invariant.queue unlisted;
      capacity = e.capacity ∙ c.loop-table.invariant.capacity;
      len = e.len ∙ c.loop-table.invariant.len;
    }
