use Rattle.std.proofs.Common.{◌≡◌, nat_eq, take}
use Rattle.std.specs.VecDeque.{deque_capacity}
use Rattle.indexmap.specs.IndexMap.{get, index_map_len}
use Rattle.qd_manifest.specs.Spelling.{blocks_in}
use Rattle.qd_catalog.specs.Tracked.{Unlists, Waits}
use Rattle.qd_catalog.proofs.blocks.unlist_parts.Given as goal

-- the blocks of the parts so far are listed no more
abbrev pub invariant-loop-part : goal.invariant-loop-part
invariant-loop-part l = record {
  unlisted : Unlists (get nat_eq l.fn.kept) (get nat_eq l.kept) l.row (blocks_in (take l.part-index l.parts)) l.fn.retired.items l.retired.items;
  queue : Waits (get nat_eq l.kept) l.retired.items;
  capacity : deque_capacity l.retired ≡ deque_capacity l.fn.retired;
  len : index_map_len l.kept ≡ index_map_len l.fn.kept;
}
