use Rattle.std.proofs.Common.{◌+◌, ◌^◌, ◌<◌, List, All, sym, subst}
use Rattle.qd_base.specs.declared.part.Part.{Part}
use Rattle.qd_manifest.specs.Spelling.{blocks_in}
use Rattle.qd_catalog.proofs.LoopLemmas.{small_table}
use Rattle.qd_catalog.proofs.tables.next_after_tables.Goals as goal

pub next_after-next-requires : goal.next_after-next-requires
next_after-next-requires c = record {
  small = subst (λ (ps : List Part). All (λ b. b + 1 < 2 ^ 64) (blocks_in ps)) (sym c.as_slice.ensures.items) (small_table c.args.tables.now c.loop-table.table-index c.table-item.result c.loop-table-test.true c.table-item.is c.requires.small);
}
