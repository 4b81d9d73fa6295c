-- The array has a slot for each head and each node, each alone.
use Rattle.std.proofs.Common.{sym, subst, ◌∙◌, ap, ◌+◌, [], arith, replicate}
use Rattle.qd_links.specs.Lists.{Lists, IsListed}
use Rattle.qd_links.specs.Ring.{HoldsLists}
use Rattle.qd_links.proofs.PlaceLemmas.{StandOnce_of}
use Rattle.qd_links.proofs.ReadLemmas.{lists_of-held, holds_view}
use Rattle.qd_links.proofs.GrowLemmas.{holds_made, none_listed}
use Rattle.qd_links.proofs.Links.with_nodes.Goals as goal

made : (c : goal.In_ok-add_slots-2) → HoldsLists c.add_slots-2.new.ring.items c.args.lists (record { nodes = 0 + c.args.nodes; lists = replicate c.args.lists [] })
made c = holds_made _ _ _ c.args.lists c.args.nodes c.new-ring.ensures.items c.in_ok-add_slots.ensures.ok c.in_ok-add_slots-2.ensures.ok

pub invariant_of-result : goal.invariant_of-result
invariant_of-result c = holds_view _ _ _ (made c)

pub returns-clause-nodes : goal.returns-clause-nodes
returns-clause-nodes c = ap (λ (v : Lists). v.nodes) (lists_of-held _ _ _ (made c)) ∙ omega arith

pub returns-clause-lists : goal.returns-clause-lists
returns-clause-lists c = ap (λ (v : Lists). v.lists) (lists_of-held _ _ _ (made c))

pub returns-clause-once : goal.returns-clause-once
returns-clause-once c = StandOnce_of _ _ _ (holds_view _ _ _ (made c))

pub returns-clause-unlisted : goal.returns-clause-unlisted
returns-clause-unlisted c node =
    subst (λ (v : Lists). ¬ IsListed v node) (sym (lists_of-held _ _ _ (made c))) (none_listed c.args.lists (0 + c.args.nodes) node)
