-- The laws of stores.
use Rattle.std.specs.Prelude.{◌≡◌, ℕ, true, false, List, length, Option, Some}
use Rattle.qd_base.specs.declared.limits.Limits.{Limits}
use Rattle.qd_base.specs.declared.op.Entry.{Entry}
use Rattle.qd_base.specs.Replay.{after}
use Rattle.qd_catalog.specs.declared.version.Version as catalog
use Rattle.qd_catalog.specs.Versions.{version_at}
use Rattle.qd_durable.specs.Moments.{EachNow, SameBut}
use Rattle.qd_sequencer.specs.Histories as histories
use Rattle.qd_sequencer.specs.Sequences.{Sequence, chosen}
use Rattle.qd_txnfile.specs.Versions.{Version}
use Rattle.qd_versions.specs.Stores as versions
use Rattle.qd_volume.specs.Disk.{Disk, Image}
use Rattle.qd_store.specs.Arriving.{IsPlaced, is_kept}
use Rattle.qd_store.specs.Calls.{MayShow, ShowsOneOf}
use Rattle.qd_store.specs.Prefixes.{HoldsTables}
use Rattle.qd_store.specs.Found.{Finds, Found, IsWhole}
use Rattle.qd_store.specs.Stores.{Book, IsStore}

-- Between two calls the volume of a store is whole: each image that a crash may leave has the history, or with it the transaction
-- that a failed commit left, and the current version, or the one that a failed publication left.
pub record StoresAreWhole : Type 0 where
  pub whole : (s : Book) (h : List Entry) (next : Version) (disk : Disk) → versions.IsStore s.versions → IsStore s h next disk → IsWhole disk
  pub shows : (s : Book) (h : List Entry) (next : Version) (disk : Disk) → versions.IsStore s.versions → IsStore s h next disk → EachNow disk (ShowsOneOf h (histories.IsPending s.sequence.pending disk) (MayShow s next))

-- A volume that a crash has left as the image of a whole store, with all of it on the disk, is whole.
abbrev pub CrashedIsWhole : Type 0
CrashedIsWhole = (f : Found) (image : Image) (disk : Disk) → Finds f image → EachNow disk (SameBut (λ file. false) image) → IsWhole disk

-- One thing is found in an image.
abbrev pub OneIsFound : Type 0
OneIsFound = (f g : Found) (image : Image) → Finds f image → Finds g image → f ≡ g

-- Where the current version shows as many transactions as there are, each image holds the database after the whole history.
abbrev pub AppliedIsAll : Type 0
AppliedIsAll = (s : Book) (h : List Entry) (next : Version) (disk : Disk) (x : catalog.Version) → IsStore s h next disk → version_at s.versions.versions s.versions.versions.current ≡ Some x → x.n ≡ length s.sequence.refs
    → EachNow disk (HoldsTables x.shape (after h))

-- A commit by a writer that is kept goes on in its log, and no writer comes or goes. Behind each commit its writer is kept.
pub record WritersGoOn : Type 0 where
  pub same : (limits : Limits) (old new : Sequence) (wal : ℕ) → is_kept old.writers wal ≡ true → IsPlaced limits old new (Some wal) → ((chosen old (Some wal)).wal ≡ wal) × (length new.writers ≡ length old.writers)
  pub kept : (limits : Limits) (old new : Sequence) (writer : Option ℕ) → IsPlaced limits old new writer → is_kept new.writers (chosen old writer).wal ≡ true
