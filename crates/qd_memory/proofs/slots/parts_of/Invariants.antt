use Rattle.std.proofs.Common.{◌≡◌, map, take}
use Rattle.qd_memory.specs.declared.slots.Slot.{Slot}
use Rattle.qd_memory.proofs.slots.parts_of.Given as goal

-- the parts so far
abbrev pub invariant-loop-slot : goal.invariant-loop-slot
invariant-loop-slot l = l.parts ≡ map (λ (x : Slot). x.part) (take l.slot-index l.slots)
