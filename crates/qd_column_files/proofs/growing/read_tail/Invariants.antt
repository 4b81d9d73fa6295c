use Rattle.std.proofs.Common.{◌≡◌, ◌≤◌, length, IfSome}
use Rattle.qd_volume.specs.Disk.{reads_of}
use Rattle.qd_column_files.proofs.TailReads.{AreTails}
use Rattle.qd_column_files.proofs.growing.read_tail.Given as goal

-- the tails of the first columns are read, and the volume is as it was
abbrev pub invariant-loop-col : goal.invariant-loop-col
invariant-loop-col g l = record {
  count : length l.columns.items ≡ l.col;
  few : l.col ≤ l.part.cols;
  told : IfSome (g.V.Volume.storage l.initial.volume).disk (λ disk. AreTails l.schema l.part l.columns.items (reads_of disk));
  stays : (g.V.Volume.storage l.volume).disk ≡ (g.V.Volume.storage l.initial.volume).disk;
  counted : (g.V.Volume.storage l.volume).faults ≡ (g.V.Volume.storage l.initial.volume).faults;
}
