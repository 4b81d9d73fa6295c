use Rattle.std.proofs.Common.{◌≡◌, take}
use Rattle.std.specs.Prelude.{fold}
use Rattle.qd_group.specs.Tallies.{greater}
use Rattle.qd_group.proofs.extremes.greatest_of.Given as goal

-- the best so far
abbrev pub invariant-loop-number : goal.invariant-loop-number
invariant-loop-number l = l.best ≡ fold greater l.fn.first (take l.number-index l.numbers)
