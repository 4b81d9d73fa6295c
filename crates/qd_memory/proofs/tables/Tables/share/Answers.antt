use Rattle.std.proofs.Common.{sym, subst, All}
use Rattle.qd_memory.specs.Kept.{IsSettled}
use Rattle.qd_memory.proofs.tables.Tables.share.Goals as goal

pub share-requires : goal.share-requires
share-requires c =
    let all = subst (All IsSettled) (sym c.deref-table-items.ensures.value) (subst (All IsSettled) (sym c.self.view_is) c.requires.settled) in
    record { settled = subst IsSettled (sym c.table-item.is) (all c.loop-table.table-index c.table-item.result c.loop-table-test.true) }
