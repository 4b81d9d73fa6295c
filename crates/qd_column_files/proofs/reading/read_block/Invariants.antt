use Rattle.std.proofs.Common.{◌≡◌, ◌≤◌, length, IfSome}
use Rattle.qd_volume.specs.Disk.{reads_of}
use Rattle.qd_column_files.specs.Reading.{AreColumnsOf, AreGiven, HoldsColumns}
use Rattle.qd_column_files.proofs.reading.read_block.Given as goal

-- the first columns are read, and the volume is as it was
abbrev pub invariant-loop-col : goal.invariant-loop-col
invariant-loop-col g l = record {
  count : length l.columns ≡ l.col;
  few : l.col ≤ l.part.cols;
  each : AreColumnsOf l.schema l.part l.columns;
  given : AreGiven g.V.Volume.gives l.part.block l.columns;
  told : IfSome (g.V.Volume.storage l.initial.volume).disk (λ disk. HoldsColumns l.part.block l.columns (reads_of disk));
  stays : (g.V.Volume.storage l.volume).disk ≡ (g.V.Volume.storage l.initial.volume).disk;
  counted : (g.V.Volume.storage l.volume).faults ≡ (g.V.Volume.storage l.initial.volume).faults;
}
