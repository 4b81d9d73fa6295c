-- The slot is put before the head, which is at the end of the list.
use Rattle.std.proofs.Common.{subst, sym, ◌++◌, ◌∷◌, []}
use Rattle.std.specs.Vec.{with_items}
use Rattle.qd_links.specs.Lists.{Lists, IsListed, list_at}
use Rattle.qd_links.specs.Ring.{HoldsLists}
use Rattle.qd_links.proofs.CallerLemmas.{pushed_is_listed}
use Rattle.qd_links.proofs.EditLemmas.{Edited, edited, held, prev_of_head_in, prev_of_head_unlisted, holds_pushed}
use Rattle.qd_links.proofs.Links.push_back.Goals as goal

before : (c : goal.After-deref_mut) → HoldsLists c.deref_mut.result.now c.self.inside.heads c.args.self.now
before c = held _ _ _ _ c.self.invariant c.self.view_is c.deref_mut.ensures.value

pub insert_slot-requires-clause-prev_in : goal.insert_slot-requires-clause-prev_in
insert_slot-requires-clause-prev_in c = prev_of_head_in _ _ _ (before c) c.args.list c.requires.list_in

pub insert_slot-requires-clause-other_than_prev : goal.insert_slot-requires-clause-other_than_prev
insert_slot-requires-clause-other_than_prev c = prev_of_head_unlisted _ _ _ (before c) c.args.list c.args.node c.requires.list_in c.requires.unlisted

after : (c : goal.After-self-1) → Edited (with_items c.self.inside.ring c.insert_slot.new.ring).items c.self.inside.heads c.args.self.now c.args.list (list_at c.args.self.now c.args.list ++ c.args.node ∷ [])
after c =
    let h : HoldsLists c.deref_mut.result.now c.self.inside.heads c.args.self.now = held _ _ _ _ c.self.invariant c.self.view_is c.deref_mut.ensures.value in
    edited c.self.inside.ring c.insert_slot.new.ring c.deref_mut.result.now _ _ _ _ c.insert_slot.auto.ring c.deref_mut.ensures.len
    (holds_pushed _ _ _ h c.insert_slot.new.ring c.args.list c.args.node c.requires.list_in c.requires.node_in c.requires.unlisted c.insert_slot.ensures c.insert_slot.auto.ring)

pub invariant_of-self : goal.invariant_of-self
invariant_of-self c = (after c).holds

pub returns-clause-appended : goal.returns-clause-appended
returns-clause-appended c = (after c).view

pub returns-clause-once : goal.returns-clause-once
returns-clause-once c = (after c).once

pub returns-clause-nodes : goal.returns-clause-nodes
returns-clause-nodes c = (after c).as_many

pub returns-clause-count : goal.returns-clause-count
returns-clause-count c = (after c).count

pub returns-clause-listed : goal.returns-clause-listed
returns-clause-listed c =
    subst (λ (v : Lists). IsListed v c.args.node) (sym (after c).view)
    (pushed_is_listed c.args.self.now c.args.list c.args.node c.requires.list_in)
