use Rattle.std.proofs.Common.{◌≡◌, ◌-◌, ◌≤◌, ◌++◌, length, vec_len, vec_capacity}
use Rattle.qd_links.specs.Ring.{lone_slots}
use Rattle.qd_links.proofs.ring.add_slots.Given as goal

abbrev pub invariant-loop-slot : goal.invariant-loop-slot
invariant-loop-slot l = record {
  added : l.ring.items ≡ l.fn.ring.items ++ lone_slots l.first (l.slot - l.first);
  first_is : l.first ≡ length l.fn.ring.items;
  len : vec_len l.ring ≡ l.slot;
  room : l.slot-end ≤ vec_capacity l.ring;
}
