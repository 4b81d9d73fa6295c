use Rattle.std.proofs.Common.{◌≡◌, drop}
use Rattle.qd_ilp.specs.Line.{to_end}
use Rattle.qd_ilp.proofs.tail.line_bytes.Given as goal

abbrev pub invariant-loop-i : goal.invariant-loop-i
invariant-loop-i l = to_end l.text ≡ to_end (drop l.i l.text)
