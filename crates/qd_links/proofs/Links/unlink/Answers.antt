-- The slot is taken out of its ring.
use Rattle.std.proofs.Common.{subst, sym, refl, ℕ}
use Rattle.std.specs.List.{remove}
use Rattle.std.specs.Vec.{with_items}
use Rattle.qd_links.specs.Lists.{Lists, IsListed, list_at, StandsAt}
use Rattle.qd_links.specs.Ring.{HoldsLists}
use Rattle.qd_links.proofs.CallerLemmas.{removed_is_unlisted}
use Rattle.qd_links.proofs.EditLemmas.{Edited, edited, held, prev_of_node_in, next_of_node_in, prev_of_node_other, next_of_node_other}
use Rattle.qd_links.proofs.PlaceLemmas.{StandOnce_of}
use Rattle.qd_links.proofs.RemoveLemmas.{holds_removed}
use Rattle.qd_links.proofs.Links.unlink.Goals as goal

before : (c : goal.After-deref_mut) → HoldsLists c.deref_mut.result.now c.self.inside.heads c.args.self.now
before c = held _ _ _ _ c.self.invariant c.self.view_is c.deref_mut.ensures.value

pub remove_slot-requires-clause-prev_in : goal.remove_slot-requires-clause-prev_in
remove_slot-requires-clause-prev_in c = prev_of_node_in _ _ _ (before c) c.args.node c.requires

pub remove_slot-requires-clause-next_in : goal.remove_slot-requires-clause-next_in
remove_slot-requires-clause-next_in c = next_of_node_in _ _ _ (before c) c.args.node c.requires

pub remove_slot-requires-clause-other_than_prev : goal.remove_slot-requires-clause-other_than_prev
remove_slot-requires-clause-other_than_prev c = prev_of_node_other _ _ _ (before c) c.args.node c.requires

pub remove_slot-requires-clause-other_than_next : goal.remove_slot-requires-clause-other_than_next
remove_slot-requires-clause-other_than_next c = next_of_node_other _ _ _ (before c) c.args.node c.requires

after : (c : goal.After-self-1) (k i : ℕ) → StandsAt c.args.self.now k i c.args.node → Edited (with_items c.self.inside.ring c.remove_slot.new.ring).items c.self.inside.heads c.args.self.now k (remove (list_at c.args.self.now k) i)
after c k i s =
    let h : HoldsLists c.deref_mut.result.now c.self.inside.heads c.args.self.now = held _ _ _ _ c.self.invariant c.self.view_is c.deref_mut.ensures.value in
    edited c.self.inside.ring c.remove_slot.new.ring c.deref_mut.result.now _ _ _ _ c.remove_slot.auto.ring c.deref_mut.ensures.len
    (holds_removed _ c.remove_slot.new.ring _ _ h k i c.args.node s c.remove_slot.ensures c.remove_slot.auto.ring)

-- the same at the place where the node stood
after_at : (c : goal.After-self-1) → let w = c.requires in Edited (with_items c.self.inside.ring c.remove_slot.new.ring).items c.self.inside.heads c.args.self.now w.0 (remove (list_at c.args.self.now w.0) w.1)
after_at c = let w = c.requires in after c w.0 w.1 w.2

pub invariant_of-self : goal.invariant_of-self
invariant_of-self c = (after_at c).holds

pub returns-clause-removed : goal.returns-clause-removed
returns-clause-removed c k i s = (after c k i s).view

pub returns-clause-once : goal.returns-clause-once
returns-clause-once c = (after_at c).once

pub returns-clause-nodes : goal.returns-clause-nodes
returns-clause-nodes c = (after_at c).as_many

pub returns-clause-count : goal.returns-clause-count
returns-clause-count c = (after_at c).count

pub returns-clause-unlisted : goal.returns-clause-unlisted
returns-clause-unlisted c =
    let w = c.requires in
    subst (λ (v : Lists). ¬ IsListed v c.args.node) (sym (after_at c).view)
    (removed_is_unlisted c.args.self.now w.0 w.1 c.args.node w.2 (StandOnce_of _ _ _ (held _ _ _ _ c.self.invariant c.self.view_is refl)))
