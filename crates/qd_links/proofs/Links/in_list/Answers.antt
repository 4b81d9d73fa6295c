-- A node in a list has another slot behind it, and one in none has its own.
use Rattle.std.proofs.Common.{refl}
use Rattle.qd_links.proofs.EditLemmas.{held}
use Rattle.qd_links.proofs.NeighbourLemmas.{listed_found}
use Rattle.qd_links.specs.Ring.{HoldsLists}
use Rattle.qd_links.proofs.PlaceLemmas.{StandOnce_of}
use Rattle.qd_links.proofs.Links.in_list.Goals as goal

holds : (c : goal.After-index) → HoldsLists c.self.inside.ring.items c.self.inside.heads c.args.self.now
holds c = held _ _ _ _ c.self.invariant c.self.view_is refl

pub returns-clause-listed : goal.returns-clause-listed
returns-clause-listed c =
    listed_found _ _ _ (holds c) c.args.node _ c.requires c.index.ensures

pub returns-clause-once : goal.returns-clause-once
returns-clause-once c = StandOnce_of _ _ _ (holds c)
