use Rattle.std.proofs.Common.{◌≡◌, ◌+◌, ◌^◌, ◌<◌, ◌≤◌, ◌∙◌, ℕ, true≢false, List, All, nat_eq, length, take, sym, ap, subst, arith}
use Rattle.indexmap.specs.IndexMap.{get}
use Rattle.std.proofs.lemmas.List.Elements.{All-append}
use Rattle.qd_base.specs.declared.part.Part.{Part}
use Rattle.qd_manifest.specs.Spelling.{blocks_in, blocks_of}
use Rattle.qd_catalog.specs.Tracked.{AreListed, new_in}
use Rattle.qd_catalog.proofs.KeptLemmas.{new_in-append}
use Rattle.qd_catalog.proofs.LoopLemmas.{table_blocks_more, listed_append, small_table, table_room_at, table_listed_at}
use Rattle.qd_catalog.proofs.tables.room_after_tables.Goals as goal

pub loop-table-preserved : goal.loop-table-preserved
loop-table-preserved c =
    let kept = get nat_eq c.args.kept.now in
    let tables = c.args.tables.now in
    let i = c.loop-table.table-index in
    let t = c.table-item.result in
    let so_far = blocks_of (take i tables) in
    let more = table_blocks_more tables i t c.loop-table-test.true c.table-item.is in
    let new = ap (λ (bs : List ℕ). length (new_in kept bs)) more ∙ new_in-append kept so_far (blocks_in t.parts) in
    let same = ap (λ (ps : List Part). length (new_in kept (blocks_in ps))) c.as_slice.ensures.items in
    record {
      room = omega (arith, new, same, c.in_ok-left.ensures.room);
      listed = subst (λ (bs : List ℕ). AreListed kept bs) (sym more) (listed_append kept so_far (blocks_in t.parts) c.loop-table.invariant.listed (subst (λ (ps : List Part). AreListed kept (blocks_in ps)) c.as_slice.ensures.items c.in_ok-left.ensures.listed));
      small = subst (λ (bs : List ℕ). All (λ b. b + 1 < 2 ^ 64) bs) (sym more) (All-append (λ b. b + 1 < 2 ^ 64) so_far (blocks_in t.parts) c.loop-table.invariant.small (subst (λ (ps : List Part). All (λ b. b + 1 < 2 ^ 64) (blocks_in ps)) c.as_slice.ensures.items c.in_ok-left.ensures.small));
    }

pub returns-in_err-left-clause-enough : goal.returns-in_err-left-clause-enough
returns-in_err-left-clause-enough c = λ few listed small.
    let kept = get nat_eq c.args.kept.now in
    let tables = c.args.tables.now in
    let i = c.loop-table.table-index in
    let t = c.table-item.result in
    let most = table_room_at tables i t c.loop-table-test.true c.table-item.is kept in
    let same = ap (λ (ps : List Part). length (new_in kept (blocks_in ps))) c.as_slice.ensures.items in
    absurd (true≢false (sym (c.in_err-left.ensures.enough
    (omega (arith, most, same, few, c.loop-table.invariant.room))
    (subst (λ (ps : List Part). AreListed kept (blocks_in ps)) (sym c.as_slice.ensures.items) (table_listed_at tables i t c.loop-table-test.true c.table-item.is kept listed))
    (subst (λ (ps : List Part). All (λ b. b + 1 < 2 ^ 64) (blocks_in ps)) (sym c.as_slice.ensures.items) (small_table tables i t c.loop-table-test.true c.table-item.is small)))))
