use Rattle.std.proofs.Common.{◌≡◌, ◌+◌, ◌^◌, ◌<◌, nat_eq, length, take, All}
use Rattle.indexmap.specs.IndexMap.{get}
use Rattle.qd_manifest.specs.Spelling.{blocks_of}
use Rattle.qd_catalog.specs.Tracked.{AreListed, new_in}
use Rattle.qd_catalog.proofs.tables.room_after_tables.Given as goal

abbrev pub invariant-loop-table : goal.invariant-loop-table
invariant-loop-table l = record {
  room : l.left + length (new_in (get nat_eq l.kept) (blocks_of (take l.table-index l.tables))) ≡ l.room;
  listed : AreListed (get nat_eq l.kept) (blocks_of (take l.table-index l.tables));
  small : All (λ b. b + 1 < 2 ^ 64) (blocks_of (take l.table-index l.tables));
}
