use Rattle.std.proofs.Common.{◌≡◌, false, take, drop}
use Rattle.qd_ilp.specs.Cut.{cut, fronted}
use Rattle.qd_ilp.proofs.cut.plain_bytes.Given as goal

abbrev pub invariant-loop-i : goal.invariant-loop-i
invariant-loop-i l = cut false l.text ≡ fronted (take l.i l.text) (cut false (drop l.i l.text))
