use Rattle.std.proofs.Common.{◌≡◌, ◌+◌, ◌≤◌, nat_eq, length, take, drop}
use Rattle.indexmap.specs.IndexMap.{get, spare, index_map_len}
use Rattle.qd_manifest.specs.Spelling.{blocks_in}
use Rattle.qd_catalog.specs.Tracked.{ListsAll, new_in}
use Rattle.qd_catalog.proofs.blocks.list_parts.Given as goal

-- the parts so far are listed, and there is room for the new blocks of the others
abbrev pub invariant-loop-part : goal.invariant-loop-part
invariant-loop-part l = record {
  listed : ListsAll (get nat_eq l.fn.kept) (get nat_eq l.kept) l.row (take l.part-index l.parts);
  room : length (new_in (get nat_eq l.kept) (blocks_in (drop l.part-index l.parts))) ≤ spare l.kept;
  used : spare l.fn.kept + length (new_in (get nat_eq l.kept) (blocks_in (drop l.part-index l.parts))) ≤ spare l.kept + length (new_in (get nat_eq l.fn.kept) (blocks_in l.parts));
  len : index_map_len l.kept + length (new_in (get nat_eq l.kept) (blocks_in (drop l.part-index l.parts))) ≤ index_map_len l.fn.kept + length (new_in (get nat_eq l.fn.kept) (blocks_in l.parts));
}
