use Rattle.std.proofs.Common.{◌≡◌, ◌+◌, ◌≤◌, nat_eq, length, take, drop}
use Rattle.indexmap.specs.IndexMap.{get, spare, index_map_len}
use Rattle.qd_manifest.specs.Spelling.{blocks_of}
use Rattle.qd_catalog.specs.Versions.{parts_of}
use Rattle.qd_catalog.specs.Tracked.{ListsAll, new_in}
use Rattle.qd_catalog.proofs.tables.list_tables.Given as goal

abbrev pub invariant-loop-table : goal.invariant-loop-table
invariant-loop-table l = record {
  listed : ListsAll (get nat_eq l.fn.kept) (get nat_eq l.kept) l.row (parts_of (take l.table-index l.tables));
  room : length (new_in (get nat_eq l.kept) (blocks_of (drop l.table-index l.tables))) ≤ spare l.kept;
  len : index_map_len l.kept + length (new_in (get nat_eq l.kept) (blocks_of (drop l.table-index l.tables))) ≤ index_map_len l.fn.kept + length (new_in (get nat_eq l.fn.kept) (blocks_of l.tables));
}
