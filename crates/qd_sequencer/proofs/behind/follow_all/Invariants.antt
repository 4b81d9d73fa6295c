use Rattle.std.proofs.Common.{◌≡◌, drop, Some}
use Rattle.qd_base.specs.Lawful.{AreSchemas}
use Rattle.qd_volume.specs.Disk.{Disk, reads_of}
use Rattle.qd_sequencer.proofs.ReadLemmas.{Leads}
use Rattle.qd_sequencer.proofs.behind.follow_all.Given as goal

abbrev pub invariant-loop-at : goal.invariant-loop-at
invariant-loop-at g l = record {
  sound : AreSchemas l.schemas;
  stays : (g.V.Volume.storage l.volume).disk ≡ (g.V.Volume.storage l.initial.volume).disk;
  counted : (g.V.Volume.storage l.volume).faults ≡ (g.V.Volume.storage l.initial.volume).faults;
  leads : (disk : Disk) → (g.V.Volume.storage l.initial.volume).disk ≡ Some disk → Leads l.refs (drop l.at-index l.refs) l.initial.schemas l.schemas (reads_of disk);
}
