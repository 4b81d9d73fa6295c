-- The images of a volume since a moment, and those now.
use Rattle.std.proofs.Common.{inl, inr, ℕ, ◌≤◌, [], ◌∷◌, length, arith}
use Rattle.qd_volume.specs.Disk.{Disk, Image, images_now, images_since, moment}

pub now_among : (disk : Disk) (start : ℕ) (image : Image) → images_now disk image → images_since disk start image
now_among [] start image now = now
now_among (call ∷ before) start image now = inl now

pub only_now : (disk : Disk) (image : Image) → images_since disk (moment disk) image → images_now disk image
only_now [] image since = since
only_now (call ∷ before) image (inl now) = now
only_now (call ∷ before) image (inr earlier) = absurd (past earlier.0)
  where
    past : length (call ∷ before) ≤ length before → ⊥
    past le = omega arith
