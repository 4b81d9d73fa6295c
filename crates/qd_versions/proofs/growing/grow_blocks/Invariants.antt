use Rattle.std.proofs.Common.{◌≡◌, ◌≤◌, ℕ, get_or}
use Rattle.qd_durable.specs.Moments.{Told}
use Rattle.qd_versions.specs.declared.growing.Growing.{Growing}
use Rattle.qd_versions.proofs.Growths.{HasGrown}
use Rattle.qd_versions.proofs.growing.grow_blocks.Given as goal

-- the first blocks have grown, and the others are as they were
abbrev pub invariant-loop-i : goal.invariant-loop-i
invariant-loop-i g l = record {
  told : Told (g.V.Volume.storage l.fn.volume).disk (g.V.Volume.storage l.volume).disk (HasGrown l.i l.fn.growing l.growing);
  left : (k : ℕ) (d : Growing) → l.i ≤ k → get_or l.growing k d ≡ get_or l.fn.growing k d;
  counted : (g.V.Volume.storage l.volume).faults ≡ (g.V.Volume.storage l.fn.volume).faults;
}
