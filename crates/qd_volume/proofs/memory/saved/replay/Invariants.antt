use Rattle.std.proofs.Common.{◌≡◌, ℕ, reverse, take}
use Rattle.qd_volume.specs.Contents.{known}
use Rattle.qd_volume.specs.Disk.{file_of}
use Rattle.qd_volume.proofs.memory.saved.replay.Given as goal

-- each file is known by the notes so far
abbrev pub invariant-loop-note : goal.invariant-loop-note
invariant-loop-note l = (file : ℕ) → known l.files file ≡ file_of (reverse (take l.note-index l.notes)) file
