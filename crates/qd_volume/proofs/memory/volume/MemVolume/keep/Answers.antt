use Rattle.std.proofs.Common.{ℕ, List, refl, sym, ap, ◌∙◌, reverse}
use Rattle.qd_volume.specs.Contents.{held}
use Rattle.qd_volume.specs.Disk.{Disk, changed, reads_of}
use Rattle.qd_volume.specs.Files.{Synced, Wrote, written}
use Rattle.qd_volume.proofs.Told.{tells_on, tells_still}
use Rattle.qd_volume.proofs.memory.volume.MemVolume.keep.Goals as goal

pub invariant_of-self-in_err-add : goal.invariant_of-self-in_err-add
invariant_of-self-in_err-add c other =
    let inner = c.self.inside in
    let file = c.args.file in
    let bytes = c.args.bytes.now in
    tells_on (held inner.files) (held c.write_and_note.new.files) (reverse inner.notes.items) file (Wrote 0 bytes) (written (held inner.files file) 0 bytes) c.self.invariant c.in_ok-write_and_note.ensures.files
    (ap (λ (l : List ℕ). written l 0 bytes) (c.self.invariant file)) other
    ∙ ap (λ (d : Disk). reads_of d other) (sym c.in_ok-write_and_note.ensures.notes)
    ∙ ap (λ (l : Disk). reads_of (reverse l) other) (sym c.in_err-add.ensures.err)

pub invariant_of-self-2 : goal.invariant_of-self-2
invariant_of-self-2 c other =
    let inner = c.self.inside in
    let file = c.args.file in
    let bytes = c.args.bytes.now in
    let before : Disk = reverse inner.notes.items in
    let noted = c.write_and_note.new.notes.items in
    tells_still (held c.write_and_note.new.files) (changed before file (Wrote 0 bytes)) file Synced
    (tells_on (held inner.files) (held c.write_and_note.new.files) before file (Wrote 0 bytes) (written (held inner.files file) 0 bytes) c.self.invariant c.in_ok-write_and_note.ensures.files
    (ap (λ (l : List ℕ). written l 0 bytes) (c.self.invariant file)))
    refl other
    ∙ ap (λ (d : Disk). reads_of (changed d file Synced) other) (sym c.in_ok-write_and_note.ensures.notes)
    ∙ ap (λ (d : Disk). reads_of d other) (sym c.in_ok-add.ensures.newest_first)
