-- What is found when a store of versions is opened.
use Rattle.std.specs.Prelude.{◌≡◌, ℕ, ◌+◌, ◌<◌, ◌≤◌, ◌⊎◌, List, Result, Ok, Err}
use Rattle.qd_volume.specs.Disk.{Disk, Image, reads_of}
use Rattle.qd_durable.specs.Moments.{EachNow, LeavesEarlier}
use Rattle.qd_durable.specs.declared.fault.LogFault.{LogFault}
use Rattle.qd_durable.specs.declared.fault.LogFault.TheVariants as fault
use Rattle.qd_txnfile.specs.declared.half.Half.{Half}
use Rattle.qd_txnfile.specs.Damage as files
use Rattle.qd_txnfile.specs.Versions.{GivesVersion, HoldsVersion, Version, file_of}
use Rattle.qd_manifest.specs.Reading.{IsDamagedAt}
use Rattle.qd_versions.specs.Stores.{IsRooted, Store, current_version}

-- a version file has the version that both files give
pub record IsIn (half : Half) (v : Version) (image : Image) : Type 0 where
  pub holds : HoldsVersion (image (file_of half)) v
  pub given : GivesVersion v image

-- The damage of a store beside a log of so many records: the version files give no version; or theirs shows
-- more transactions than there are records; or its manifest is damaged. The manifest begins behind the 17 bytes
-- of a version file's head, its number behind the first.
pub data IsDamaged (records : ℕ) (image : Image) : (file at : ℕ) → Type 0 where
  NoVersion : (file at : ℕ) → files.IsDamaged image file at → IsDamaged records image file at
  TooNew : (half : Half) (v : Version) → IsIn half v image → records < v.n → IsDamaged records image (file_of half) 1
  NoManifest : (half : Half) (v : Version) (at : ℕ) → IsIn half v image → v.n ≤ records → IsDamagedAt v.n v.manifest at → IsDamaged records image (file_of half) (17 + at)

-- why the version of a file is refused
abbrev pub IsRefused : ℕ → ℕ → List ℕ → ℕ → LogFault → Type 0
IsRefused file n manifest records (fault.Damaged damaged at) = (damaged ≡ file) × (((records < n) × (at ≡ 1)) ⊎ ((n ≤ records) × (k : ℕ) × (at ≡ 17 + k) × IsDamagedAt n manifest k))
IsRefused file n manifest records fault.Vol = ⊥
IsRefused file n manifest records fault.Memory = Unit {0}

-- The version that the files read, or where they are damaged. After an Ok each image gives that version.
abbrev pub IsOpened : Result Store LogFault → ℕ → Disk → Type 0
IsOpened (Ok s) records after = GivesVersion (current_version s.versions) (reads_of after) × EachNow after (GivesVersion (current_version s.versions)) × ((next : Version) → IsRooted s next after)
IsOpened (Err (fault.Damaged file at)) records after = IsDamaged records (reads_of after) file at
IsOpened (Err fault.Vol) records after = Unit {0}
IsOpened (Err fault.Memory) records after = Unit {0}

-- The version files are synced and read, as they were before the call. At each moment, and whatever is
-- answered, a crash leaves only what one before the call might have left.
pub record Opens (result : Result Store LogFault) (records : ℕ) (before after : Disk) : Type 0 where
  pub found : IsOpened result records after
  -- what each file reads stays
  pub reads : (file : ℕ) → reads_of after file ≡ reads_of before file
  pub images : LeavesEarlier before after
