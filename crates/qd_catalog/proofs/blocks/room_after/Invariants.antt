use Rattle.std.proofs.Common.{◌≡◌, ◌+◌, ◌^◌, ◌<◌, nat_eq, length, take, All}
use Rattle.indexmap.specs.IndexMap.{get}
use Rattle.qd_manifest.specs.Spelling.{blocks_in}
use Rattle.qd_catalog.specs.Tracked.{AreListed, new_in}
use Rattle.qd_catalog.proofs.blocks.room_after.Given as goal

-- the new blocks of the parts so far took their room
abbrev pub invariant-loop-part : goal.invariant-loop-part
invariant-loop-part l = record {
  room : l.left + length (new_in (get nat_eq l.kept) (blocks_in (take l.part-index l.parts))) ≡ l.room;
  listed : AreListed (get nat_eq l.kept) (blocks_in (take l.part-index l.parts));
  small : All (λ b. b + 1 < 2 ^ 64) (blocks_in (take l.part-index l.parts));
}
