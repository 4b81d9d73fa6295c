use Rattle.std.proofs.Common.{◌≡◌, map, take}
use Rattle.qd_meaning.specs.Sampling.{fill_of}
use Rattle.qd_plan.proofs.sample.list_of.Given as goal

-- the fills so far
abbrev pub invariant-loop-fill : goal.invariant-loop-fill
invariant-loop-fill l = l.list ≡ map fill_of (take l.fill-index l.fills)
