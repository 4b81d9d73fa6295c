use Rattle.std.proofs.Common.{◌≡◌, ◌≤◌, length}
use Rattle.qd_durable.specs.Moments.{Told}
use Rattle.qd_column_files.proofs.GrowLemmas.{GrowsFirst}
use Rattle.qd_column_files.proofs.growing.grow_columns.Given as goal

-- the first columns have grown
abbrev pub invariant-loop-col : goal.invariant-loop-col
invariant-loop-col g l = record {
  told : Told (g.V.Volume.storage l.initial.volume).disk (g.V.Volume.storage l.volume).disk (GrowsFirst l.col l.block l.from l.initial.tails l.tails l.rows);
  counted : (g.V.Volume.storage l.volume).faults ≡ (g.V.Volume.storage l.initial.volume).faults;
  few : l.col ≤ length l.rows.kinds;
}
