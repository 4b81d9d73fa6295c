use Rattle.std.proofs.Common.{◌≡◌, take}
use Rattle.std.specs.List.{flat_map, zip}
use Rattle.qd_meaning.specs.Refusals.{least}
use Rattle.qd_plan.specs.Filling.{beside_faults}
use Rattle.qd_plan.proofs.sample.numbers_fault.Given as goal

-- the fills so far
abbrev pub invariant-loop-i : goal.invariant-loop-i
invariant-loop-i l = l.found ≡ least (flat_map beside_faults (take l.i (zip l.fills l.kinds)))
