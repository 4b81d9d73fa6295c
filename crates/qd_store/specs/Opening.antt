-- What is found when a store is opened.
use Rattle.std.specs.Prelude.{◌≡◌, ℕ, List, length, drop, Result, Ok, Err}
use Rattle.qd_base.specs.declared.part.WalRef.{WalRef}
use Rattle.qd_catalog.specs.Versions.{Versions, first_row}
use Rattle.qd_durable.specs.Moments.{LeavesEarlier}
use Rattle.qd_manifest.specs.declared.shape.Manifest.{Manifest}
use Rattle.qd_manifest.specs.declared.shape.TableParts.{TableParts}
use Rattle.qd_manifest.specs.Spelling.{schemas_in, IsManifest}
use Rattle.qd_seq.specs.Damage as log
use Rattle.qd_seq.specs.Layout.{GivesList}
use Rattle.qd_sequencer.specs.Reading.{BreaksOff}
use Rattle.qd_txnfile.specs.Versions.{GivesVersion, Version}
use Rattle.qd_versions.specs.Opening as versions
use Rattle.qd_versions.specs.Stores.{stored}
use Rattle.qd_volume.specs.Disk.{Disk, Image, reads_of}
use Rattle.qd_store.specs.declared.fault.OpenFault.{OpenFault}
use Rattle.qd_store.specs.declared.fault.OpenFault.TheVariants as fault
use Rattle.qd_store.specs.Marks.{IsMade}
use Rattle.qd_store.specs.Found.{Finds, Found, IsWhole}
use Rattle.qd_store.specs.Stores.{Book, IsStore}

-- The damage of a store, in the order in which it is looked for: of the log; of the version files, beside a log of so many records; of
-- the transactions behind the version: the first of them that is not spelled, or not lawful over the schemas before it.
pub data IsDamaged (image : Image) : (file at : ℕ) → Type 0 where
  InLog : (at : ℕ) → log.IsDamaged (image 1) at → IsDamaged image 1 at
  InVersions : (refs : List WalRef) (file at : ℕ) → GivesList refs image → versions.IsDamaged (length refs) image file at → IsDamaged image file at
  InEntries : (refs : List WalRef) (n : ℕ) (m : Manifest) (file at : ℕ) → GivesList refs image → IsManifest n m → GivesVersion (stored n m.next_block m.shape) image → BreaksOff (drop n refs) (schemas_in m.shape) image file at → IsDamaged image file at

-- no place of it is damaged
abbrev pub IsUndamaged : Image → Type 0
IsUndamaged image = (file at : ℕ) → IsDamaged image file at → ⊥

-- row 0 is the one live row, and the current one
pub record HasFirstRow (v : Versions) : Type 0 where
  pub n : ℕ
  pub shape : List TableParts
  pub versions : v.versions ≡ first_row n shape
  pub current : v.current ≡ 0

-- what was opened of a whole volume: exactly its history, and its version
pub record Opened (s : Book) (f : Found) (after : Disk) : Type 0 where
  pub refs : s.sequence.refs ≡ f.refs
  pub shown : s.versions.root.n ≡ f.n
  pub stands : (next : Version) → IsStore s f.history next after

-- A volume is opened only where no place of it is damaged; a whole one takes exactly what is found. It isn't made exactly where its
-- mark isn't there, and it is damaged at a place exactly where its files are: no whole volume is.
abbrev pub IsOpened : Result Book OpenFault → Disk → Disk → Type 0
IsOpened (Ok s) before after = IsMade (reads_of before) × (IsWhole before → (f : Found) → Finds f (reads_of before) → Opened s f after) × IsUndamaged (reads_of before)
IsOpened (Err fault.NotMade) before after = IsMade (reads_of before) → ⊥
IsOpened (Err (fault.Damaged file at)) before after = IsMade (reads_of before) × IsDamaged (reads_of before) file at × (IsWhole before → ⊥)
IsOpened (Err fault.Vol) before after = Unit {0}
IsOpened (Err fault.Memory) before after = Unit {0}

-- The files are synced and read. At each moment, and whatever is answered, a crash leaves only what one before the call might have
-- left, and each file reads as it did.
pub record Opens (result : Result Book OpenFault) (before after : Disk) : Type 0 where
  pub found : IsOpened result before after
  pub reads : (file : ℕ) → reads_of after file ≡ reads_of before file
  pub images : LeavesEarlier before after
