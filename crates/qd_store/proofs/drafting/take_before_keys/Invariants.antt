use Rattle.std.proofs.Common.{◌≡◌, ◌+◌, drop, Some}
use Rattle.qd_volume.specs.Disk.{Disk, reads_of}
use Rattle.qd_store.proofs.Taking.{Goes, Leads}
use Rattle.qd_store.proofs.drafting.take_before_keys.Given as goal

abbrev pub invariant-loop-at : goal.invariant-loop-at
invariant-loop-at g l = record {
  upto : l.draft.upto ≡ l.initial.draft.upto + l.at-index;
  goes : Goes l.at-index l.initial.draft l.draft;
  stays : (g.V.Volume.storage l.volume).disk ≡ (g.V.Volume.storage l.initial.volume).disk;
  counted : (g.V.Volume.storage l.volume).faults ≡ (g.V.Volume.storage l.initial.volume).faults;
  leads : (disk : Disk) → (g.V.Volume.storage l.initial.volume).disk ≡ Some disk → Leads l.refs (drop l.at-index l.refs) l.initial.draft l.draft (reads_of disk);
}
