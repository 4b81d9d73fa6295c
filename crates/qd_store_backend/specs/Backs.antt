-- What a backend over a store keeps, and what it shows of it.
use Rattle.std.specs.Prelude.{◌≡◌, ◌⊎◌, ℕ, ◌+◌, ◌-◌, ◌<◌, ◌≤◌, true, List, [], ◌∷◌, ◌++◌, length, map, Option, Some, None, IfSome, Result, Ok, Err}
use Rattle.std.specs.List.{range_with_len}
use Rattle.qd_base.specs.declared.op.Entry.{Entry}
use Rattle.qd_base.specs.declared.limits.Limits.{Limits}
use Rattle.qd_base.specs.declared.schema.Schema.{Schema}
use Rattle.qd_base.specs.Database.{Database, schemas_of}
use Rattle.qd_base.specs.Replay.{after, first}
use Rattle.qd_base.specs.declared.part.Part.{Part}
use Rattle.qd_catalog.specs.declared.version.Version as catalog
use Rattle.qd_catalog.specs.Versions.{IsLive, version_at}
use Rattle.qd_column_files.specs.Damage.{HoldsNone}
use Rattle.qd_column_files.specs.Growing.{IsTailLost}
use Rattle.qd_column_files.specs.Reading.{IsBlockRead}
use Rattle.qd_durable.specs.declared.fault.LogFault.TheVariants as fault
use Rattle.qd_manifest.specs.declared.shape.TableParts.{TableParts}
use Rattle.qd_manifest.specs.Spelling.{schemas_in}
use Rattle.qd_scan.specs.Sources.{SourceView}
use Rattle.qd_session.specs.Looks.{Shown}
use Rattle.qd_sequencer.specs.Calls.{PendsAsBefore, PendsOwn}
use Rattle.qd_sequencer.specs.Histories.{IsPending}
use Rattle.qd_sequencer.specs.declared.fault.Committed.{Committed}
use Rattle.qd_store.specs.Arriving.{is_kept}
use Rattle.qd_store.specs.Damage.{IsDraftDamage}
use Rattle.qd_store.specs.Owned.{Store}
use Rattle.qd_store.specs.Stores.{IsStore, Book}
use Rattle.qd_txnfile.specs.Versions.{Version}
use Rattle.qd_versions.specs.Reading.{IsPartAt}
use Rattle.qd_volume.specs.Disk.{Disk, Image, reads_of}
use Rattle.qd_base.specs.declared.limits.TheConstants.{MAX_TXNS}

-- what contracts see of a source over the current version of a store
pub record Parts : Type 0 where
  -- the store with its volume
  pub owned : Store
  -- the transactions of its history, where they are told: no code reads them
  pub history : Option (List Entry)
  -- the schemas of the current version's tables
  pub schemas : List Schema
  -- how often bytes were found damaged, and where the last time
  pub damages : ℕ
  pub last_damage : Option (ℕ × ℕ)

-- what they see of a backend: the source; how many transactions there were when it began; the writer by which it commits, once there
-- is one; and the transaction that a write that failed may have left behind the history, where that is told
pub record Back : Type 0 where
  pub parts : Parts
  pub before : ℕ
  pub writer : Option ℕ
  pub left : Option Entry

-- the current version, its tables and its number
abbrev pub current : Book → Option catalog.Version
current s = version_at s.versions.versions s.versions.versions.current

abbrev pub shape_in : Option catalog.Version → List TableParts
shape_in None = []
shape_in (Some x) = x.shape

abbrev pub n_in : Option catalog.Version → ℕ
n_in None = 0
n_in (Some x) = x.n

-- the database of the first transactions, where they are told
abbrev pub database_in : Option (List Entry) → ℕ → Option Database
database_in None n = None
database_in (Some h) n = Some (first h n)

-- what the source shows
abbrev pub source_of : Parts → SourceView
source_of p = record {
  schemas = p.schemas;
  parts = map (λ t. t.parts) (shape_in (current p.owned.store));
  database = database_in p.history (n_in (current p.owned.store));
  faults = p.owned.storage.faults;
  damages = p.damages;
  last_damage = p.last_damage;
}

-- what no read changes: all but the counts of faults and of damages
abbrev pub kept_of : Parts → Parts
kept_of p = record {
  owned = record { store = p.owned.store; storage = record { disk = p.owned.storage.disk; faults = 0 } };
  history = p.history;
  schemas = p.schemas;
  damages = 0;
  last_damage = None;
}

-- A history is told of a store: its volume is told, and holds it.
abbrev pub IsTold : Store → List Entry → Type 0
IsTold owned h = (disk : Disk) × (next : Version) × (owned.storage.disk ≡ Some disk) × IsStore owned.store h next disk

-- No damage was found where a history is told: it is that of a whole store.
abbrev pub IsToldWhole : Parts → Type 0
IsToldWhole p = (h : List Entry) → p.history ≡ Some h → p.damages ≡ 0

-- The files of a part of the current version are damaged at a byte: so they hold no block that is the part's.
pub record IsPartDamage (s : Book) (image : Image) (file at : ℕ) : Type 0 where
  pub row : ℕ
  pub table : ℕ
  pub i : ℕ
  pub of : TableParts
  pub part : Part
  pub there : IsPartAt s.versions.versions row table i of part
  pub its_row : row ≡ s.versions.versions.current
  pub damaged : IsBlockRead (Err (fault.Damaged file at)) of.schema part image

-- a place of what a volume holds is damaged, where that is told
abbrev pub IsDamageTold : Store → (Image → ℕ → ℕ → Type 0) → ℕ → ℕ → Type 0
IsDamageTold owned Damage file at = IfSome owned.storage.disk (λ disk. Damage (reads_of disk) file at)

-- that of a part of the current version
abbrev pub IsPartDamaged : Store → ℕ → ℕ → Type 0
IsPartDamaged owned file at = IsDamageTold owned (IsPartDamage owned.store) file at

-- that of a draft of the transactions that aren't shown
abbrev pub IsDraftDamaged : Store → ℕ → ℕ → Type 0
IsDraftDamaged owned file at = IsDamageTold owned (IsDraftDamage owned.store (length owned.store.sequence.refs)) file at

-- The files of a part of the current version, behind whose rows others are put, are damaged at a byte, and hold no block
-- that is the part's.
pub record IsTailDamage (s : Book) (file at : ℕ) (image : Image) : Type 0 where
  pub table : ℕ
  pub i : ℕ
  pub of : TableParts
  pub part : Part
  pub there : IsPartAt s.versions.versions s.versions.versions.current table i of part
  pub lost : IsTailLost of.schema part file at image
  pub none : HoldsNone of.schema part image

abbrev pub IsGrowthDamaged : Store → ℕ → ℕ → Type 0
IsGrowthDamaged owned file at = IsDamageTold owned (λ image f a. IsTailDamage owned.store f a image) file at

-- that of a round: of its draft, or of what it puts rows behind
abbrev pub IsRoundDamaged : Store → ℕ → ℕ → Type 0
IsRoundDamaged owned file at = IsDraftDamaged owned file at ⊎ IsGrowthDamaged owned file at

-- the last damage that was found is there still
abbrev pub IsLastDamage : Store → Option (ℕ × ℕ) → Type 0
IsLastDamage owned last = IfSome last (λ place. IsPartDamaged owned place.0 place.1)

-- what a source keeps
pub record IsParts (p : Parts) : Type 0 where
  pub schemas : p.schemas ≡ schemas_in (shape_in (current p.owned.store))
  pub told : IfSome p.history (IsTold p.owned)
  pub whole : IsToldWhole p
  pub damage : IsLastDamage p.owned p.last_damage

-- no version is live but the current one
abbrev pub IsAlone : Parts → Type 0
IsAlone p = (row : ℕ) → IsLive p.owned.store.versions.versions row → row ≡ p.owned.store.versions.versions.current

-- ---- what a write that failed may have left

-- the one entry of which a fact holds, or none where it holds of none
abbrev pub IsOnly : Option Entry → (Entry → Type 0) → Type 0
IsOnly None P = (e : Entry) → P e → ⊥
IsOnly (Some e) P = P e × ((x : Entry) → P x → x ≡ e)

-- It is the one that may be there behind a told history; where none is told, nothing is said.
abbrev pub IsLeftOf : Option (List Entry) → Store → Option Entry → Type 0
IsLeftOf None owned left = left ≡ None
IsLeftOf (Some h) owned left = (disk : Disk) → owned.storage.disk ≡ Some disk → IsOnly left (IsPending owned.store.sequence.pending disk)

-- what only proofs keep of it: a list of it alone, or none
abbrev pub left_of : Option (List Entry) → Option Entry
left_of None = None
left_of (Some []) = None
left_of (Some (e ∷ es)) = Some e

-- No other than before may be left behind a told history by a call.
abbrev pub LeavesNoOther : (old new : Store) → Type 0
LeavesNoOther old new = (h : List Entry) (next : Version) (disk later : Disk) → old.storage.disk ≡ Some disk → IsStore old.store h next disk → new.storage.disk ≡ Some later
    → PendsAsBefore old.store.sequence.pending new.store.sequence.pending disk later

-- that, or one of which a fact holds
abbrev pub LeavesOwn : (old new : Store) → (Entry → Type 0) → Type 0
LeavesOwn old new Own = (h : List Entry) (next : Version) (disk later : Disk) → old.storage.disk ≡ Some disk → IsStore old.store h next disk → new.storage.disk ≡ Some later
    → PendsOwn old.store.sequence.pending new.store.sequence.pending Own disk later

-- ---- the writer by which a backend commits

-- it is one that the store keeps
abbrev pub IsWriterKept : Store → Option ℕ → Type 0
IsWriterKept owned writer = IfSome writer (λ w. is_kept owned.store.sequence.writers w ≡ true)

-- the writer once a commit is answered: the one of that
abbrev pub writer_behind : {E : Type 0} → Option ℕ → Result Committed E → Option ℕ
writer_behind writer (Ok done) = Some done.writer
writer_behind writer (Err fault) = writer

-- A backend that has a writer goes on with it, and its store keeps no more writers than before.
abbrev pub GoesOn : (old new : Back) → Type 0
GoesOn old new = (w : ℕ) → old.writer ≡ Some w
    → (new.writer ≡ Some w) × (length new.parts.owned.store.sequence.writers ≡ length old.parts.owned.store.sequence.writers)

-- ---- backends

-- the limits of the product
pub record AreUsual (l : Limits) : Type 0 where
  pub max_txns : l.max_txns ≡ MAX_TXNS
  pub split_rows : l.split_rows ≡ 4096
  pub seg_bytes : l.seg_bytes ≡ 67108864
  pub cache_blocks : l.cache_blocks ≡ 256

-- What a backend keeps: it has no fewer transactions than when it began, and no fewer than are shown; the usual limits; no live
-- version but the current one; its writer; and what may have been left.
pub record IsBack (b : Back) : Type 0 where
  pub since : b.before ≤ length b.parts.owned.store.sequence.refs
  pub within : n_in (current b.parts.owned.store) ≤ length b.parts.owned.store.sequence.refs
  pub usual : AreUsual b.parts.owned.store.limits
  pub alone : IsAlone b.parts
  pub writer : IsWriterKept b.parts.owned b.writer
  pub left : IsLeftOf b.parts.history b.parts.owned b.left

-- what a backend shows: all transactions since it began are its own
abbrev pub back_shown : Back → Shown
back_shown b = record {
  history = b.parts.history;
  sequenced = length b.parts.owned.store.sequence.refs;
  known = n_in (current b.parts.owned.store);
  own = range_with_len (b.before + 1) (length b.parts.owned.store.sequence.refs - b.before);
  faults = b.parts.owned.storage.faults;
  pinned = [];
  pending = b.left;
}

-- a history grew by one transaction, where it is told
abbrev pub IsNextTold : Option (List Entry) → Store → Option (List Entry) → Type 0
IsNextTold None owned then = then ≡ None
IsNextTold (Some h) owned then = (e : Entry) × (then ≡ Some (h ++ e ∷ [])) × IsTold owned (h ++ e ∷ [])

-- what is told behind a commit: the history with its transaction, of which a fact holds, or the history as it was
abbrev pub IsToldBehind : {T E : Type 0} → Result T E → Option (List Entry) → Option (List Entry) → (Entry → Type 0) → Type 0
IsToldBehind (Ok done) None new Own = new ≡ None
IsToldBehind (Ok done) (Some h) new Own = (e : Entry) × Own e × (new ≡ Some (h ++ e ∷ []))
IsToldBehind (Err fault) old new Own = new ≡ old

-- how many transactions there are behind a commit
abbrev pub IsCountBehind : {T E : Type 0} → Result T E → ℕ → ℕ → Type 0
IsCountBehind (Ok done) old new = new ≡ old + 1
IsCountBehind (Err fault) old new = new ≡ old

-- A transaction is committed to the store of a source, or none is.
pub record CommitsTo {T E : Type 0} (result : Result T E) (old new : Parts) (Own : Entry → Type 0) : Type 0 where
  pub count : IsCountBehind result (length old.owned.store.sequence.refs) (length new.owned.store.sequence.refs)
  pub versions : new.owned.store.versions ≡ old.owned.store.versions
  pub limits : new.owned.store.limits ≡ old.owned.store.limits
  pub told : IsToldBehind result old.history new.history Own
  pub damages : new.damages ≡ old.damages

-- the schemas behind all transactions are those of the history's database, where it is told
abbrev pub AreToldSchemas : Parts → Type 0
AreToldSchemas p = IfSome p.history (λ h. p.owned.store.sequence.schemas ≡ schemas_of (after h))

-- the transactions of a told history are as many as the store has
abbrev pub AreToldCount : Parts → Type 0
AreToldCount p = IfSome p.history (λ h. length p.owned.store.sequence.refs ≡ length h)

-- All transactions are shown; or no fewer than before, and no more than there are.
abbrev pub IsShownBehind : {E : Type 0} → Result ℕ E → Parts → Parts → Type 0
IsShownBehind (Ok n) old new = (n ≡ length old.owned.store.sequence.refs) × (n_in (current new.owned.store) ≡ n)
IsShownBehind (Err fault) old new = (n_in (current old.owned.store) ≤ n_in (current new.owned.store)) × (n_in (current new.owned.store) ≤ length old.owned.store.sequence.refs)

pub record ShowsAll {E : Type 0} (result : Result ℕ E) (old new : Parts) : Type 0 where
  pub shown : IsShownBehind result old new
  pub sequence : new.owned.store.sequence ≡ old.owned.store.sequence
  pub limits : new.owned.store.limits ≡ old.owned.store.limits
  pub told : new.history ≡ old.history
  pub damages : new.damages ≡ old.damages

-- A round shows more transactions than before, or as many.
abbrev pub IsShownNext : {T E : Type 0} → Result T E → Parts → Parts → Type 0
IsShownNext (Ok done) old new = n_in (current old.owned.store) < n_in (current new.owned.store)
IsShownNext (Err fault) old new = n_in (current new.owned.store) ≡ n_in (current old.owned.store)

pub record ShowsNext {T E : Type 0} (result : Result T E) (old new : Parts) : Type 0 where
  pub shown : IsShownNext result old new
  pub sequence : new.owned.store.sequence ≡ old.owned.store.sequence
  pub limits : new.owned.store.limits ≡ old.owned.store.limits
  pub told : new.history ≡ old.history
  pub damages : new.damages ≡ old.damages

-- A store was found behind transactions, or is without one: what a backend begins with, where that is told.
abbrev pub BeginsWith : Option (List Entry) → Store → Type 0
BeginsWith None owned = Unit {0}
BeginsWith (Some h) owned = IsTold owned h
