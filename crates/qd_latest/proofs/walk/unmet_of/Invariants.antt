use Rattle.std.proofs.Common.{◌-◌, length}
use Rattle.qd_latest.specs.Walks.{AreFirstMet}
use Rattle.qd_latest.proofs.walk.unmet_of.Given as goal

abbrev pub invariant-loop-id : goal.invariant-loop-id
invariant-loop-id g l = AreFirstMet (g.D.Dictionary.texts l.dictionary) l.id (g.D.Dictionary.texts l.met)

abbrev pub decreases-loop-id : goal.decreases-loop-id
decreases-loop-id g l = length (g.D.Dictionary.texts l.dictionary) - l.id
