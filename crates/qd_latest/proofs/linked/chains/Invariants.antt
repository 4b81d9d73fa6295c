use Rattle.std.proofs.Common.{◌≤◌, ◌-◌}
use Rattle.std.specs.List.{slice_range}
use Rattle.qd_links.specs.Lists.{StandOnce}
use Rattle.qd_latest.specs.Chains.{cells_of, texts_of}
use Rattle.qd_latest.proofs.ChainLemmas.{IsChained}
use Rattle.qd_latest.proofs.linked.chains.Given as goal

-- the chains of the rows from an end on
abbrev pub invariant-loop-end : goal.invariant-loop-end
invariant-loop-end g l = record {
  from : l.from ≤ l.end;
  to : l.end ≤ l.to;
  chained : IsChained (slice_range (cells_of l.rows l.col) l.from l.to) (texts_of l.rows l.from l.col) l.links (l.end - l.from);
  once : StandOnce l.links;
}

abbrev pub decreases-loop-end : goal.decreases-loop-end
decreases-loop-end g l = l.end
