use Rattle.std.proofs.Common.{◌≡◌, ◌≤◌, length, IfSome}
use Rattle.qd_block.specs.Blocks.{Block}
use Rattle.qd_volume.specs.Disk.{reads_of}
use Rattle.qd_column_files.specs.Rests.{AreRestsGiven, AreTimedRests, HoldsTimed, rests_in}
use Rattle.qd_column_files.proofs.rests.rest_columns.Given as goal

-- the rows of the first columns are read, and the volume is as it was
abbrev pub invariant-loop-col : goal.invariant-loop-col
invariant-loop-col g l = record {
  count : length l.columns ≡ l.col;
  few : l.col ≤ l.part.cols;
  each : AreTimedRests l.schema l.part l.times l.skip l.columns;
  given : AreRestsGiven g.V.Volume.gives l.schema l.part.block l.skip l.columns;
  told : IfSome (g.V.Volume.storage l.initial.volume).disk (λ disk. (b : Block) → HoldsTimed l.schema l.part l.times (reads_of disk) b → l.columns ≡ rests_in l.skip l.col b);
  stays : (g.V.Volume.storage l.volume).disk ≡ (g.V.Volume.storage l.initial.volume).disk;
  counted : (g.V.Volume.storage l.volume).faults ≡ (g.V.Volume.storage l.initial.volume).faults;
}
