-- The volumes of the machine.
use Rattle.std.specs.Prelude.{◌≡◌, ℕ}
use Rattle.qd_volume.specs.declared.folder.FolderVolume.{FolderVolume}
use Rattle.qd_volume.specs.Calls.{Storage}
use Rattle.qd_volume.specs.declared.memory.heap.HeapVolume.{HeapVolume}
use Rattle.qd_host.specs.declared.standard.StdHost.{StdHost}
use Rattle.qd_host.specs.declared.standard.StdVolume.{StdVolume}
use Rattle.qd_host.specs.declared.standard.StdVolume.TheVariants as kind

module _ {R F : Type 0} (folder : FolderVolume R F → Storage) (memory : HeapVolume → Storage) where
  -- how many calls have failed of the one that it is
  abbrev pub faults_in : StdVolume R F → ℕ
  faults_in (kind.Folder volume) = (folder volume).faults
  faults_in (kind.Memory volume) = (memory volume).faults

-- all counts of the machine but that of its volumes are as they were
pub record CountsStay {R : Type 0} (old new : StdHost R) : Type 0 where
  pub clocks : new.clock_faults ≡ old.clock_faults
  pub listeners : new.listener_faults ≡ old.listener_faults
  pub starts : new.starts_failed ≡ old.starts_failed
