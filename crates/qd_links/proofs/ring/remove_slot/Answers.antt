-- The neighbours of the slot are joined, and then the slot to itself.
use Rattle.std.proofs.Common.{◌∙◌, sym}
use Rattle.qd_links.specs.Ring.{next_slot, prev_slot}
use Rattle.qd_links.proofs.ring.remove_slot.Goals as goal

pub join-requires-clause-from_in : goal.join-requires-clause-from_in
unfolding prev_slot
join-requires-clause-from_in c = c.requires.prev_in

pub join-requires-clause-to_in : goal.join-requires-clause-to_in
unfolding next_slot
join-requires-clause-to_in c = c.requires.next_in

pub returns : goal.returns
unfolding next_slot prev_slot
returns c =
    let a = c.join.ensures in
    let b = c.join-2.ensures in
    record {
      next_of_prev = b.other_next _ (λ e. c.requires.other_than_prev (sym e)) ∙ a.next;
      next = b.next;
      prev_of_next = b.other_prev _ (λ e. c.requires.other_than_next (sym e)) ∙ a.prev;
      prev = b.prev;
      other_next = λ s before apart. b.other_next s apart ∙ a.other_next s before;
      other_prev = λ s behind apart. b.other_prev s apart ∙ a.other_prev s behind;
    }
