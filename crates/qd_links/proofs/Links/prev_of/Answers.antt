-- A slot that is alone is that of a node in no list, and the slot before another is that of the node before, or the head.
use Rattle.std.proofs.Common.{refl}
use Rattle.qd_links.proofs.EditLemmas.{held}
use Rattle.qd_links.proofs.NeighbourLemmas.{IsPrev, prev_found}
use Rattle.qd_links.proofs.PlaceLemmas.{StandOnce_of}
use Rattle.qd_links.specs.Ring.{HoldsLists}
use Rattle.qd_links.proofs.Links.prev_of.Goals as goal

holds : (c : goal.After-node_beside) → HoldsLists c.self.inside.ring.items c.self.inside.heads c.args.self.now
holds c = held _ _ _ _ c.self.invariant c.self.view_is refl

found : (c : goal.After-node_beside) → IsPrev c.args.self.now c.args.node c.node_beside.result
found c = prev_found _ _ _ (holds c) c.node_beside.result c.args.node _ c.requires c.index.ensures c.node_beside.ensures

pub returns-clause-first : goal.returns-clause-first
returns-clause-first c = (found c).first

pub returns-clause-prev : goal.returns-clause-prev
returns-clause-prev c = (found c).prev

pub returns-clause-unlisted : goal.returns-clause-unlisted
returns-clause-unlisted c = (found c).unlisted

pub returns-clause-in_range : goal.returns-clause-in_range
returns-clause-in_range c = (found c).in_range

pub returns-clause-once : goal.returns-clause-once
returns-clause-once c = StandOnce_of _ _ _ (holds c)
