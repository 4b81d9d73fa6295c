-- What is found when two version files are opened.
use Rattle.std.specs.Prelude.{◌≡◌, ℕ, List, length, Result, Ok, Err}
use Rattle.qd_volume.specs.Disk.{Disk, reads_of}
use Rattle.qd_durable.specs.declared.fault.LogFault.{LogFault}
use Rattle.qd_durable.specs.declared.fault.LogFault.TheVariants as fault
use Rattle.qd_txnfile.specs.declared.opening.Found.{Found}
use Rattle.qd_durable.specs.Moments.{EachNow, LeavesEarlier}
use Rattle.qd_txnfile.specs.Versions.{GivesFrom, GivesVersion, Version, file_of, limit_of, other_of}
use Rattle.qd_txnfile.specs.Reading.{IsHeadGiven, IsOtherFound}
use Rattle.qd_txnfile.specs.Damage.{IsDamaged}
use Rattle.qd_txnfile.specs.States.{Knows}

-- the version that was found
abbrev pub version_of : Found → Version
version_of found = record { n = found.n; manifest = found.manifest }

-- The version that the files read, or where they are damaged. After an Ok each image gives that version.
abbrev pub IsOpened : Result Found LogFault → Disk → Type 0
IsOpened (Ok found) after = GivesVersion (version_of found) (reads_of after) × EachNow after (GivesVersion (version_of found)) × ((later : Version) → Knows found.file (version_of found) later after)
IsOpened (Err (fault.Damaged file at)) after = IsDamaged (reads_of after) file at
IsOpened (Err fault.Vol) after = Unit {0}
IsOpened (Err fault.Memory) after = Unit {0}

-- The files are synced and read, as they were before the call. At each moment, and whatever is answered, a crash leaves only what
-- one before the call might have left.
pub record Opens (result : Result Found LogFault) (before after : Disk) : Type 0 where
  pub found : IsOpened result after
  -- what each file reads stays
  pub reads : (file : ℕ) → reads_of after file ≡ reads_of before file
  pub images : LeavesEarlier before after

-- The version was read: reads of its file gave its head and its manifest. Which bytes a read may have given is what a volume says,
-- also one that tells nothing of what it holds.
pub record IsGiven (gives : ℕ → ℕ → List ℕ → Type 0) (found : Found) : Type 0 where
  pub head : IsHeadGiven gives found.file.current found.n (length found.manifest)
  pub manifest : gives (file_of found.file.current) 17 found.manifest

-- Both files are synced.
abbrev pub AreSettled : {T E : Type 0} → Result T E → Disk → Disk → Type 0
AreSettled (Ok done) before after = EachNow after (λ image. (image 2 ≡ reads_of before 2) × (image 3 ≡ reads_of before 3))
AreSettled (Err fault) before after = Unit {0}

pub record Settles {T E : Type 0} (result : Result T E) (before after : Disk) : Type 0 where
  pub settled : AreSettled result before after
  pub reads : (file : ℕ) → reads_of after file ≡ reads_of before file
  pub images : LeavesEarlier before after

-- the files as they read are those of the root
abbrev pub IsKnownAs : Found → Disk → Type 0
IsKnownAs found disk = (found.file.n ≡ found.n) × GivesFrom found.file.current (version_of found) (reads_of disk) × IsOtherFound found.file.other (limit_of found.file.current found.n) (reads_of disk (file_of (other_of found.file.current)))

-- What is read: the version that the files give, with what is known of the other file, or where they are damaged.
abbrev pub IsRead : Result Found LogFault → Disk → Type 0
IsRead (Ok found) disk = IsKnownAs found disk
IsRead (Err (fault.Damaged file at)) disk = IsDamaged (reads_of disk) file at
IsRead (Err _) disk = Unit {0}
