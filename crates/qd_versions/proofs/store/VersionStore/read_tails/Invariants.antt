use Rattle.std.proofs.Common.{◌≡◌, ◌<◌, ℕ, length, get_or, IfSome}
use Rattle.qd_volume.specs.Disk.{reads_of}
use Rattle.qd_versions.specs.declared.growing.Growing.{Growing}
use Rattle.qd_versions.specs.declared.published.GrownBlock.{GrownBlock}
use Rattle.qd_versions.specs.Tails.{AreTails, IsGrowing}
use Rattle.qd_versions.proofs.store.VersionStore.read_tails.Given as goal

-- the first tails are read, and the volume is as it was
abbrev pub invariant-loop-added : goal.invariant-loop-added
invariant-loop-added g l = record {
  count : length l.growing.items ≡ l.added-index;
  each : (k : ℕ) (d : GrownBlock) (e : Growing) → k < l.added-index → IsGrowing l.self.versions (get_or l.grown k d) (get_or l.growing.items k e);
  told : IfSome (g.V.Volume.storage l.fn.volume).disk (λ disk. AreTails l.added-index l.self l.grown l.growing.items (reads_of disk));
  stays : (g.V.Volume.storage l.volume).disk ≡ (g.V.Volume.storage l.fn.volume).disk;
  counted : (g.V.Volume.storage l.volume).faults ≡ (g.V.Volume.storage l.fn.volume).faults;
}
