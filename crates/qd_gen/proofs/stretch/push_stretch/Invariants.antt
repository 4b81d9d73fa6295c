use Rattle.std.proofs.Common.{◌≡◌, ◌-◌, ◌++◌}
use Rattle.qd_gen.specs.Stretches.{taken_text}
use Rattle.qd_gen.proofs.stretch.push_stretch.Given as goal

-- the lines so far are written
abbrev pub invariant-loop-i : goal.invariant-loop-i
invariant-loop-i l = l.out.items ≡ l.initial.out.items ++ taken_text l.stretch.share l.number l.stretch.first (l.i - l.stretch.first)
