use Rattle.std.proofs.Common.{take}
use Rattle.qd_volume.specs.Crash.{FillsLost}
use Rattle.qd_volume.proofs.memory.saved.fill_lost.Given as goal

-- the ranges so far are filled
abbrev pub invariant-loop-span : goal.invariant-loop-span
invariant-loop-span l = FillsLost l.fn.bytes l.least (take l.span-index l.named) l.bytes
