use Rattle.std.proofs.Common.{◌≡◌, ℕ, []}
use Rattle.std.specs.Ordering.{nat_cmp}
use Rattle.std.specs.BTreeMap.{btree_map_len, get}
use Rattle.qd_volume.specs.Disk.{file_of}
use Rattle.qd_volume.specs.Memory.{unused}
use Rattle.qd_volume.proofs.Left.{IsDone}
use Rattle.qd_volume.proofs.memory.volume.MemVolume.leave.Given as goal

-- the files whose state was taken out are what the crash leaves
abbrev pub invariant-loop-file : goal.invariant-loop-file
invariant-loop-file l = record {
  plan : l.volume.plan ≡ unused [];
  each : (file : ℕ) → IsDone l.pick (file_of l.fn.self.disk file) (get nat_cmp l.states file) (file_of l.volume.disk file);
}

abbrev pub decreases-loop-file : goal.decreases-loop-file
decreases-loop-file l = btree_map_len l.states
