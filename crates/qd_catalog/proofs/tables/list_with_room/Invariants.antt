use Rattle.std.proofs.Common.{◌≡◌, nat_eq, take}
use Rattle.indexmap.specs.IndexMap.{get}
use Rattle.qd_catalog.specs.Versions.{parts_of}
use Rattle.qd_catalog.specs.Tracked.{ListsAll}
use Rattle.qd_catalog.proofs.tables.list_with_room.Given as goal

abbrev pub invariant-loop-table : goal.invariant-loop-table
invariant-loop-table l = ListsAll (get nat_eq l.fn.kept) (get nat_eq l.kept) l.row (parts_of (take l.table-index l.tables))
