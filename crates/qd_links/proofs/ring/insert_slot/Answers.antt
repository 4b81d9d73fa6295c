-- The slot is joined to the slot before `at`, and then to `at`.
use Rattle.std.proofs.Common.{◌∙◌, sym}
use Rattle.qd_links.specs.Ring.{prev_slot}
use Rattle.qd_links.proofs.ring.insert_slot.Goals as goal

pub join-requires-clause-from_in : goal.join-requires-clause-from_in
unfolding prev_slot
join-requires-clause-from_in c = c.requires.prev_in

pub returns : goal.returns
unfolding prev_slot
returns c =
    let a = c.join.ensures in
    let b = c.join-2.ensures in
    record {
      next_of_prev = b.other_next _ (λ e. c.requires.other_than_prev (sym e)) ∙ a.next;
      next = b.next;
      prev_of_at = b.prev;
      prev = b.other_prev _ c.requires.other_than_at ∙ a.prev;
      other_next = λ s before apart. b.other_next s apart ∙ a.other_next s before;
      other_prev = λ s at apart. b.other_prev s at ∙ a.other_prev s apart;
    }
