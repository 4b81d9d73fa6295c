use Rattle.std.proofs.Common.{◌≡◌, take, drop}
use Rattle.qd_ilp.specs.Cut.{word, fronted}
use Rattle.qd_ilp.proofs.cut.first_word.Given as goal

abbrev pub invariant-loop-i : goal.invariant-loop-i
invariant-loop-i l = word l.text ≡ fronted (take l.i l.text) (word (drop l.i l.text))
