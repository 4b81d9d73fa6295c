-- The laws of stores of versions.
use Rattle.std.specs.Prelude.{◌≡◌, ℕ, ◌≤◌, Bool, false, true}
use Rattle.qd_volume.specs.Disk.{Disk, Image}
use Rattle.qd_durable.specs.Moments.{EachNow, LeavesOnly, Moves, SameBut}
use Rattle.qd_manifest.specs.declared.shape.Manifest.{Manifest}
use Rattle.qd_manifest.specs.Spelling.{SpellsManifest}
use Rattle.qd_txnfile.specs.States.{GivesKnown}
use Rattle.qd_txnfile.specs.Versions.{GivesVersion, Version}
use Rattle.qd_column_files.specs.Files.{is_file_of}
use Rattle.qd_versions.specs.Kept.{IsNamed, KeepsTails}
use Rattle.qd_versions.specs.Opening.{IsDamaged}
use Rattle.qd_versions.specs.Stores.{IsRooted, Store, current_version}

-- What is known of a store stays through a call that changes no version file, and at every moment of it.
abbrev pub OtherFilesLeaveVersions : Type 0
OtherFilesLeaveVersions = (touched : ℕ → Bool) (before after : Disk) (s : Store) (next : Version) → touched 2 ≡ false → touched 3 ≡ false → Moves (SameBut touched) before after → IsRooted s next before → LeavesOnly before after (GivesKnown s.root.other (current_version s.versions) next) × IsRooted s next after

-- What is known of kept tails stays through a call that changes no file of a block that the current version names.
abbrev pub OtherFilesLeaveTails : Type 0
OtherFilesLeaveTails = (touched : ℕ → Bool) (before after : Disk) (s : Store) → ((block file : ℕ) → IsNamed s.versions block → is_file_of block file ≡ true → touched file ≡ false) → Moves (SameBut touched) before after → KeepsTails s before → KeepsTails s after

-- What is known of a store, each image gives.
abbrev pub WhatIsKnownIsGiven : Type 0
WhatIsKnownIsGiven = (s : Store) (next : Version) (disk : Disk) → IsRooted s next disk → EachNow disk (GivesKnown s.root.other (current_version s.versions) next)

-- A store isn't damaged where its files give a version of at most so many transactions, whose manifest is spelled.
abbrev pub DamagedGivesNoStore : Type 0
DamagedGivesNoStore = (records : ℕ) (image : Image) (v : Version) (m : Manifest) (file at : ℕ) → IsDamaged records image file at → GivesVersion v image → v.n ≤ records → SpellsManifest v.n v.manifest m → ⊥
