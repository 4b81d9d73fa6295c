use Rattle.qd_latest.specs.Chains.{cells_of}
use Rattle.qd_latest.specs.Walks.{Grows}
use Rattle.qd_latest.proofs.WalkLemmas.{HasSeen}
use Rattle.qd_latest.proofs.walk.meet_chains.Given as goal

-- the chains of the first texts are gone over
abbrev pub invariant-loop-id : goal.invariant-loop-id
invariant-loop-id g l = record {
  seen : HasSeen (cells_of l.rows l.col) l.from l.to (g.D.Dictionary.texts l.dictionary) l.id (g.D.Dictionary.texts l.met) l.kept.items;
  grows : Grows (g.D.Dictionary.texts l.initial.met) (g.D.Dictionary.texts l.met);
}
