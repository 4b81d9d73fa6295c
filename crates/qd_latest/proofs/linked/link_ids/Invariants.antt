use Rattle.qd_links.specs.Lists.{StandOnce}
use Rattle.qd_latest.proofs.ChainLemmas.{IsLinked}
use Rattle.qd_latest.proofs.linked.link_ids.Given as goal

-- the nodes from a place on
abbrev pub invariant-loop-i : goal.invariant-loop-i
invariant-loop-i l = record {
  linked : IsLinked l.initial.links l.links l.ids l.from l.i;
  once : StandOnce l.links;
}

abbrev pub decreases-loop-i : goal.decreases-loop-i
decreases-loop-i l = l.i
