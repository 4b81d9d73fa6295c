use Rattle.std.proofs.Common.{◌≡◌, IfSome, take}
use Rattle.std.specs.List.{AllZip}
use Rattle.qd_volume.specs.Disk.{reads_of}
use Rattle.qd_store.specs.Drafting.{IsReadOf}
use Rattle.qd_store.proofs.OldsRead.{AreOf}
use Rattle.qd_store.proofs.book.Book.olds_of.Given as goal

-- the first parts are read
abbrev pub invariant-loop-late : goal.invariant-loop-late
invariant-loop-late g l = record {
  stays : (g.V.Volume.storage l.volume).disk ≡ (g.V.Volume.storage l.initial.volume).disk;
  counted : (g.V.Volume.storage l.volume).faults ≡ (g.V.Volume.storage l.initial.volume).faults;
  read : AllZip (IsReadOf l.plan.split_rows l.plan.shape) (take l.late-index l.late-items) l.olds.items;
  files : IfSome (g.V.Volume.storage l.initial.volume).disk (λ disk. AreOf l.plan.split_rows l.plan.shape (take l.late-index l.late-items) l.olds.items (reads_of disk));
}
