use Rattle.std.proofs.Common.{◌≡◌, nat_eq, take}
use Rattle.std.specs.VecDeque.{deque_capacity}
use Rattle.indexmap.specs.IndexMap.{get, index_map_len}
use Rattle.qd_manifest.specs.Spelling.{blocks_of}
use Rattle.qd_catalog.specs.Tracked.{Unlists, Waits}
use Rattle.qd_catalog.proofs.tables.unlist_tables.Given as goal

abbrev pub invariant-loop-table : goal.invariant-loop-table
invariant-loop-table l = record {
  unlisted : Unlists (get nat_eq l.fn.kept) (get nat_eq l.kept) l.row (blocks_of (take l.table-index l.tables)) l.fn.retired.items l.retired.items;
  queue : Waits (get nat_eq l.kept) l.retired.items;
  capacity : deque_capacity l.retired ≡ deque_capacity l.fn.retired;
  len : index_map_len l.kept ≡ index_map_len l.fn.kept;
}
