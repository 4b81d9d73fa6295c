use Rattle.std.proofs.Common.{◌≡◌, ◌+◌, ◌∙◌, ◌∷◌, sym, ap, reverse, take}
use Rattle.qd_volume.specs.Contents.{known}
use Rattle.qd_volume.specs.Disk.{Call, Disk, file_of}
use Rattle.qd_volume.proofs.Told.{learned, reverse_more}
use Rattle.qd_volume.proofs.memory.saved.replay.Goals as goal

pub loop-note-preserved : goal.loop-note-preserved
loop-note-preserved c file =
    let notes = c.args.notes.now in
    let i = c.loop-note.note-index in
    let note = c.note-item.result in
    let so_far : Disk = reverse (take i notes) in
    let more : reverse (take (i + 1) notes) ≡ note ∷ so_far = reverse_more notes i note c.loop-note-test.true ∙ ap (λ (n : Call). n ∷ so_far) (sym c.note-item.is) in
    learned (known c.loop-note.files) (known c.follow.new.files) note so_far c.loop-note.invariant c.in_ok-follow.ensures file ∙ ap (λ (d : Disk). file_of d file) (sym more)
