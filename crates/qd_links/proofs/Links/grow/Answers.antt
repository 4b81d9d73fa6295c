-- The array has grown by slots that are each alone, or is as before.
use Rattle.std.proofs.Common.{refl}
use Rattle.qd_links.proofs.PlaceLemmas.{StandOnce_of}
use Rattle.qd_links.proofs.EditLemmas.{held}
use Rattle.qd_links.proofs.GrowLemmas.{Grown, grown}
use Rattle.qd_links.proofs.Links.grow.Goals as goal

after : (c : goal.After-add_slots) → Grown c.add_slots.result c.add_slots.new.ring.items c.self.inside.heads c.args.self.now c.args.nodes
after c = grown c.add_slots.result c.self.inside.ring.items _ _ _ c.args.nodes (held _ _ _ _ c.self.invariant c.self.view_is refl) c.add_slots.ensures.ok c.add_slots.ensures.err

pub invariant_of-self : goal.invariant_of-self
invariant_of-self c = (after c).holds

pub returns-clause-nodes : goal.returns-clause-nodes
returns-clause-nodes c = (after c).nodes

pub returns-clause-lists : goal.returns-clause-lists
returns-clause-lists c = (after c).lists

pub returns-clause-once : goal.returns-clause-once
returns-clause-once c = StandOnce_of _ _ _ (after c).holds

pub returns-clause-unlisted : goal.returns-clause-unlisted
returns-clause-unlisted c = (after c).unlisted
