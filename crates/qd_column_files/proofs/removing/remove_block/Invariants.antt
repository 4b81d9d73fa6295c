use Rattle.std.proofs.Common.{◌≡◌, ◌≤◌}
use Rattle.qd_durable.specs.Moments.{Told}
use Rattle.qd_column_files.proofs.RemoveLemmas.{RemovesFirst}
use Rattle.qd_column_files.proofs.removing.remove_block.Given as goal

-- the first columns are removed
abbrev pub invariant-loop-col : goal.invariant-loop-col
invariant-loop-col g l = record {
  told : Told (g.V.Volume.storage l.initial.volume).disk (g.V.Volume.storage l.volume).disk (RemovesFirst l.col l.block);
  counted : (g.V.Volume.storage l.volume).faults ≡ (g.V.Volume.storage l.initial.volume).faults;
  few : l.col ≤ 256;
}
