use Rattle.std.proofs.Common.{◌≡◌, drop}
use Rattle.qd_ilp.specs.Line.{after_spaces}
use Rattle.qd_ilp.proofs.tail.leading_spaces.Given as goal

abbrev pub invariant-loop-i : goal.invariant-loop-i
invariant-loop-i l = after_spaces l.text ≡ after_spaces (drop l.i l.text)
