-- What a store is, and what is known of the volume that it owns.
use Rattle.std.specs.Prelude.{◌≡◌, ◌⊎◌, ℕ, ◌^◌, ◌≤◌, true, List, length, Contains, Some}
use Rattle.qd_base.specs.declared.limits.Limits.{Limits}
use Rattle.qd_base.specs.declared.op.Entry.{Entry}
use Rattle.qd_catalog.specs.declared.version.Version as catalog
use Rattle.qd_catalog.specs.Versions.{lists, version_at}
use Rattle.qd_durable.specs.Moments.{EachNow}
use Rattle.qd_manifest.specs.Spelling.{blocks_of}
use Rattle.qd_sequencer.specs.Sequences.{IsSequence, Sequence}
use Rattle.qd_txnfile.specs.States.{IsDirty}
use Rattle.qd_txnfile.specs.Versions.{Version}
use Rattle.qd_versions.specs.Kept.{KeepsTails}
use Rattle.qd_versions.specs.Stores as versions
use Rattle.qd_versions.specs.Stores.{IsRooted}
use Rattle.qd_volume.specs.Disk.{Disk}
use Rattle.qd_store.specs.Marks.{IsMade}
use Rattle.qd_store.specs.Prefixes.{IsLeft, IsShown}
use Rattle.qd_base.specs.declared.limits.TheConstants.{MAX_TXNS}

-- what contracts see of a store, beside its volume
pub record Book : Type 0 where
  pub sequence : Sequence
  pub versions : versions.Store
  pub limits : Limits

-- the limits that a store keeps to
pub record AreLimits (l : Limits) : Type 0 where
  pub most : l.max_txns ≤ MAX_TXNS
  pub size : l.seg_bytes ≤ 2 ^ 62

-- What holds of every store, whatever its volume tells: no version shows more transactions than there are.
pub record IsBook (s : Book) : Type 0 where
  pub limits : AreLimits s.limits
  pub few : length s.sequence.refs ≤ MAX_TXNS
  pub shown : (row : ℕ) (x : catalog.Version) → version_at s.versions.versions row ≡ Some x → x.n ≤ length s.sequence.refs

-- The version that a failed publication may have left stands for the history too; its blocks are the current version's, or new.
pub record IsPending (v : versions.Store) (history : List Entry) (next : Version) (disk : Disk) : Type 0 where
  pub left : IsLeft history next disk
  pub blocks : (b : ℕ) → Contains (blocks_of left.manifest.shape) b → (lists (version_at v.versions v.versions.current) b ≡ true) ⊎ (v.versions.next_block ≤ b)

-- The versions on a volume: it is made, the root gives the current version, and each live version stands for the history, as does
-- the one that a failed publication may have left. What rows behind those of its blocks go on with, where that is kept, is known.
pub record HasVersions (v : versions.Store) (history : List Entry) (next : Version) (disk : Disk) : Type 0 where
  pub made : EachNow disk IsMade
  pub rooted : IsRooted v next disk
  pub pending : IsDirty v.root.other → IsPending v history next disk
  pub live : (row : ℕ) (x : catalog.Version) → version_at v.versions row ≡ Some x → IsShown history x.n x.shape disk
  pub kept : KeepsTails v disk

-- The invariant of a store over a told volume: the sequencer stands behind the history, and the versions stand for it.
pub record IsStore (s : Book) (history : List Entry) (next : Version) (disk : Disk) : Type 0 where
  pub sequence : IsSequence s.sequence history disk
  pub versions : HasVersions s.versions history next disk
