use Rattle.std.proofs.Common.{ℕ, List, sym, ap, ◌∙◌, reverse, take}
use Rattle.qd_volume.specs.Contents.{held}
use Rattle.qd_volume.specs.Disk.{Disk, reads_of}
use Rattle.qd_volume.specs.Files.{Cut}
use Rattle.qd_volume.proofs.Told.{tells_on}
use Rattle.qd_volume.proofs.memory.volume.MemVolumeVolume.cut.Goals as goal

pub invariant_of-self-2 : goal.invariant_of-self-2
invariant_of-self-2 c other =
    let inner = c.self.inside in
    let file = c.args.file in
    let len = c.args.len in
    tells_on (held inner.files) (held c.cut_file.new.files) (reverse inner.notes.items) file (Cut len) (take len (held inner.files file)) c.self.invariant c.cut_file.ensures
    (ap (λ (l : List ℕ). take len l) (c.self.invariant file)) other
    ∙ ap (λ (d : Disk). reads_of d other) (sym c.in_ok-add-2.ensures.newest_first)
