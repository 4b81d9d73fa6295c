use Rattle.std.proofs.Common.{◌≡◌, List, nat_eq, length, ap, subst, arith}
use Rattle.indexmap.specs.IndexMap.{get}
use Rattle.qd_base.specs.declared.part.Part.{Part}
use Rattle.qd_manifest.specs.Spelling.{blocks_in}
use Rattle.qd_catalog.specs.Tracked.{ListsAll, new_in}
use Rattle.qd_catalog.proofs.LoopLemmas.{table_list_step, table_new_step}
use Rattle.qd_catalog.proofs.tables.list_tables.Goals as goal

pub loop-table-preserved : goal.loop-table-preserved
loop-table-preserved c =
    let first = get nat_eq c.args.kept.now in
    let old = get nat_eq c.loop-table.kept in
    let new = get nat_eq c.list_parts.new.kept in
    let t = c.table-item.result in
    let e = c.list_parts.ensures in
    let listed = subst (λ (ps : List Part). ListsAll old new c.args.row ps) c.as_slice.ensures.items e.listed in
    let same = ap (λ (ps : List Part). length (new_in old (blocks_in ps))) c.as_slice.ensures.items in
    let step = table_new_step c.args.tables.now c.loop-table.table-index t c.loop-table-test.true c.table-item.is old new c.args.row listed in
    record {
      listed = table_list_step c.args.tables.now c.loop-table.table-index t c.loop-table-test.true c.table-item.is first old new c.args.row c.loop-table.invariant.listed listed;
      room = omega arith;
      len = omega arith;
    }
