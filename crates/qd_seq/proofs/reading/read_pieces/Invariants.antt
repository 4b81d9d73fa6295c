use Rattle.std.proofs.Common.{◌≡◌, ◌-◌, ◌≤◌, length, IfSome}
use Rattle.qd_volume.specs.Disk.{reads_of}
use Rattle.qd_seq.specs.Layout.{AreInSegments, HasRecords}
use Rattle.qd_seq.specs.Reading.{IsSoFar}
use Rattle.qd_seq.proofs.reading.read_pieces.Given as goal
use Rattle.qd_base.specs.declared.limits.TheConstants.{MAX_TXNS}

-- the records so far are those of the log, if those before were, and the volume is as it was
abbrev pub invariant-pieces : goal.invariant-pieces
invariant-pieces g l = record {
  given : IsSoFar g.V.Volume.gives l.initial.refs.items → IsSoFar g.V.Volume.gives l.refs.items;
  told : IfSome (g.V.Volume.storage l.initial.volume).disk (λ disk. HasRecords l.initial.refs.items (reads_of disk 1) → HasRecords l.refs.items (reads_of disk 1));
  few : length l.refs.items ≤ MAX_TXNS;
  segments : AreInSegments l.refs.items;
  room : 25 ≤ length l.piece;
  stays : (g.V.Volume.storage l.volume).disk ≡ (g.V.Volume.storage l.initial.volume).disk;
  counted : (g.V.Volume.storage l.volume).faults ≡ (g.V.Volume.storage l.initial.volume).faults;
}

abbrev pub decreases-pieces : goal.decreases-pieces
decreases-pieces g l = MAX_TXNS - length l.refs.items
