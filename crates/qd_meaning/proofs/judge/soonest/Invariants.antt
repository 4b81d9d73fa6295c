use Rattle.std.proofs.Common.{◌≡◌, List, take}
use Rattle.std.specs.List.{flat_map}
use Rattle.qd_meaning.specs.declared.refusal.Refusal.{Refusal}
use Rattle.qd_meaning.specs.Refusals.{least}
use Rattle.qd_meaning.specs.Judging.{JudgesBy}
use Rattle.qd_meaning.proofs.judge.soonest.Given as goal

-- the refusal of the parts so far
abbrev pub invariant-loop-part : goal.invariant-loop-part
invariant-loop-part g l =
    record {
      callable : goal.F-IsAlwaysCallable g l.judge;
      found : (faults : g.row.T.Denot → List Refusal) → JudgesBy faults (goal.F-post g l.judge) → l.found ≡ least (flat_map faults (take l.part-index l.parts));
    }
