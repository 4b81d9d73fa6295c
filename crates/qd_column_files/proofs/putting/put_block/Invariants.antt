use Rattle.std.proofs.Common.{◌≡◌, ◌≤◌, length}
use Rattle.qd_durable.specs.Moments.{Told}
use Rattle.qd_column_files.proofs.PutLemmas.{PutsFirst}
use Rattle.qd_column_files.proofs.putting.put_block.Given as goal

-- the first columns are put
abbrev pub invariant-loop-col : goal.invariant-loop-col
invariant-loop-col g l = record {
  told : Told (g.V.Volume.storage l.initial.volume).disk (g.V.Volume.storage l.volume).disk (PutsFirst l.col l.block l.of);
  counted : (g.V.Volume.storage l.volume).faults ≡ (g.V.Volume.storage l.initial.volume).faults;
  few : l.col ≤ length l.of.kinds;
}
