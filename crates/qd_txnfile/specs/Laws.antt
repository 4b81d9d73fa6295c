-- The laws of version files.
use Rattle.std.specs.Prelude.{◌≡◌, ℕ}
use Rattle.qd_volume.specs.Disk.{Disk, Image}
use Rattle.qd_durable.specs.Moments.{EachNow}
use Rattle.qd_txnfile.specs.Versions.{GivesVersion, Version}
use Rattle.qd_txnfile.specs.Damage.{IsDamaged}
use Rattle.qd_txnfile.specs.States.{GivesKnown, Knows, Root}

-- Two files give one version, and no other.
abbrev pub OneVersionIsGiven : Type 0
OneVersionIsGiven = (image : Image) (v w : Version) → GivesVersion v image → GivesVersion w image → v ≡ w

-- Damaged files give no version.
abbrev pub DamagedGiveNone : Type 0
DamagedGiveNone = (image : Image) (v : Version) (file at : ℕ) → IsDamaged image file at → GivesVersion v image → ⊥

-- Damaged files have one place of damage.
abbrev pub DamageHasOnePlace : Type 0
DamageHasOnePlace = (image : Image) (file at other_file other_at : ℕ) → IsDamaged image file at → IsDamaged image other_file other_at → (file ≡ other_file) × (at ≡ other_at)

-- What a root knows of a volume, each of its images gives.
abbrev pub WhatIsKnownIsGiven : Type 0
WhatIsKnownIsGiven = (root : Root) (current next : Version) (disk : Disk) → Knows root current next disk → EachNow disk (GivesKnown root.other current next)
