use Rattle.std.proofs.Common.{◌≡◌, ◌-◌, ◌*◌, ◌≤◌, length}
use Rattle.qd_gen.specs.Stretches.{taken_text}
use Rattle.qd_gen.proofs.stretch.stretch_len.Given as goal

-- the lines so far are counted
abbrev pub invariant-loop-i : goal.invariant-loop-i
invariant-loop-i l = record {
  text : l.len ≡ length (taken_text l.stretch.share l.number l.stretch.first (l.i - l.stretch.first));
  short : l.len ≤ 42 * (l.i - l.stretch.first);
}
