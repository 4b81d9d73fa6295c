use Rattle.std.proofs.Common.{◌≡◌, ◌∙◌, ℕ, List, nat_eq, length, take, ap, subst, arith}
use Rattle.std.specs.Map.{lookup}
use Rattle.indexmap.specs.IndexMap.{get}
use Rattle.std.proofs.lemmas.List.{length-map}
use Rattle.qd_base.specs.declared.part.Part.{Part}
use Rattle.qd_manifest.specs.Spelling.{blocks_in}
use Rattle.qd_catalog.specs.declared.blocks.Kept.{Kept}
use Rattle.qd_catalog.specs.Versions.{parts_of}
use Rattle.qd_catalog.specs.Tracked.{ListsAll}
use Rattle.qd_catalog.proofs.KeptLemmas.{few_new}
use Rattle.qd_catalog.proofs.LoopLemmas.{table_list_step}
use Rattle.qd_catalog.proofs.tables.list_with_room.Goals as goal

pub list_parts-requires-clause-room : goal.list_parts-requires-clause-room
list_parts-requires-clause-room c =
    let few = few_new (get nat_eq c.reserve.new.self) (blocks_in c.as_slice.result.now) in
    let size = length-map c.as_slice.result.now (λ (p : Part). p.block) in
    let same = ap (λ (ps : List Part). length ps) c.as_slice.ensures.items in
    omega (arith, c.len.ensures.count, c.in_ok-reserve.ensures.ok)

pub loop-table-preserved : goal.loop-table-preserved
loop-table-preserved c =
    let first = get nat_eq c.args.kept.now in
    let old = get nat_eq c.reserve.new.self in
    let new = get nat_eq c.list_parts.new.kept in
    let so_far : ListsAll first old c.args.row (parts_of (take c.loop-table.table-index c.args.tables.now)) = λ b. ap (λ (es : List (ℕ × Kept)). lookup (nat_eq b) es) c.in_ok-reserve.ensures.entries ∙ c.loop-table.invariant b in
    table_list_step c.args.tables.now c.loop-table.table-index c.table-item.result c.loop-table-test.true c.table-item.is first old new c.args.row so_far
    (subst (λ (ps : List Part). ListsAll old new c.args.row ps) c.as_slice.ensures.items c.list_parts.ensures.listed)
