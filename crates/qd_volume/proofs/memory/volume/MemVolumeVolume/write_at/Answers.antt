use Rattle.std.proofs.Common.{ℕ, List, sym, ap, ◌∙◌, reverse}
use Rattle.qd_volume.specs.Contents.{held}
use Rattle.qd_volume.specs.Disk.{Disk, reads_of}
use Rattle.qd_volume.specs.Files.{Wrote, written}
use Rattle.qd_volume.proofs.Told.{tells_on}
use Rattle.qd_volume.proofs.memory.volume.MemVolumeVolume.write_at.Goals as goal

pub invariant_of-self-2 : goal.invariant_of-self-2
invariant_of-self-2 c other =
    let inner = c.self.inside in
    let file = c.args.file in
    let at = c.args.at in
    let bytes = c.args.bytes.now in
    tells_on (held inner.files) (held c.write_and_note.new.files) (reverse inner.notes.items) file (Wrote at bytes) (written (held inner.files file) at bytes) c.self.invariant c.in_ok-write_and_note.ensures.files
    (ap (λ (l : List ℕ). written l at bytes) (c.self.invariant file)) other
    ∙ ap (λ (d : Disk). reads_of d other) (sym c.in_ok-write_and_note.ensures.notes)
