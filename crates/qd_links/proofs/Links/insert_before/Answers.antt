-- The slot is put before that of `at`.
use Rattle.std.proofs.Common.{subst, sym, arith, ℕ}
use Rattle.std.specs.List.{insert}
use Rattle.std.specs.Vec.{with_items}
use Rattle.qd_links.specs.Lists.{Lists, IsListed, list_at, StandsAt}
use Rattle.qd_links.specs.Ring.{HoldsLists}
use Rattle.qd_links.proofs.CallerLemmas.{place_in, list_in, inserted_is_listed}
use Rattle.qd_links.proofs.EditLemmas.{Edited, edited, held, prev_of_node_in, prev_of_node_unlisted, holds_put_before}
use Rattle.qd_links.proofs.Links.insert_before.Goals as goal

before : (c : goal.After-deref_mut) → HoldsLists c.deref_mut.result.now c.self.inside.heads c.args.self.now
before c = held _ _ _ _ c.self.invariant c.self.view_is c.deref_mut.ensures.value

pub insert_slot-requires-clause-prev_in : goal.insert_slot-requires-clause-prev_in
insert_slot-requires-clause-prev_in c = prev_of_node_in _ _ _ (before c) c.args.at c.requires.listed

pub insert_slot-requires-clause-other_than_prev : goal.insert_slot-requires-clause-other_than_prev
insert_slot-requires-clause-other_than_prev c = prev_of_node_unlisted _ _ _ (before c) c.args.at c.args.node c.requires.listed c.requires.unlisted

after : (c : goal.After-self-1) (k i : ℕ) → StandsAt c.args.self.now k i c.args.at → Edited (with_items c.self.inside.ring c.insert_slot.new.ring).items c.self.inside.heads c.args.self.now k (insert (list_at c.args.self.now k) i c.args.node)
after c k i s =
    let h : HoldsLists c.deref_mut.result.now c.self.inside.heads c.args.self.now = held _ _ _ _ c.self.invariant c.self.view_is c.deref_mut.ensures.value in
    edited c.self.inside.ring c.insert_slot.new.ring c.deref_mut.result.now _ _ _ _ c.insert_slot.auto.ring c.deref_mut.ensures.len
    (holds_put_before _ _ _ h c.insert_slot.new.ring c.args.at c.args.node k i s c.requires.node_in c.requires.unlisted c.insert_slot.ensures c.insert_slot.auto.ring)

-- the same at the place where `at` stands
after_at : (c : goal.After-self-1) → let w = c.requires.listed in Edited (with_items c.self.inside.ring c.insert_slot.new.ring).items c.self.inside.heads c.args.self.now w.0 (insert (list_at c.args.self.now w.0) w.1 c.args.node)
after_at c = let w = c.requires.listed in after c w.0 w.1 w.2

pub invariant_of-self : goal.invariant_of-self
invariant_of-self c = (after_at c).holds

pub returns-clause-inserted : goal.returns-clause-inserted
returns-clause-inserted c k i s = (after c k i s).view

pub returns-clause-once : goal.returns-clause-once
returns-clause-once c = (after_at c).once

pub returns-clause-nodes : goal.returns-clause-nodes
returns-clause-nodes c = (after_at c).as_many

pub returns-clause-count : goal.returns-clause-count
returns-clause-count c = (after_at c).count

pub returns-clause-listed : goal.returns-clause-listed
returns-clause-listed c =
    let w = c.requires.listed in
    let i_in = place_in c.args.self.now w.0 w.1 c.args.at w.2 in
    subst (λ (v : Lists). IsListed v c.args.node) (sym (after_at c).view)
    (inserted_is_listed c.args.self.now w.0 w.1 c.args.node (list_in c.args.self.now w.0 w.1 c.args.at w.2) (omega arith))
