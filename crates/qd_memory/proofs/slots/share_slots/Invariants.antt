use Rattle.std.proofs.Common.{◌≡◌, ◌++◌, take}
use Rattle.qd_memory.proofs.slots.share_slots.Given as goal

-- the slots so far stand behind the others
abbrev pub invariant-loop-slot : goal.invariant-loop-slot
invariant-loop-slot l = l.copies.items ≡ l.initial.copies.items ++ take l.slot-index l.slots
