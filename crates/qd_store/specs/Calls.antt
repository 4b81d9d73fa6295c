-- What each call makes of a told volume: at every moment inside it, and behind it.
use Rattle.std.specs.Prelude.{◌≡◌, ◌⊎◌, ℕ, ◌<◌, ◌≤◌, true, List, [], ◌∷◌, ◌++◌, length, map, All, Contains, Some, Result, Ok, Err}
use Rattle.std.specs.Arc.{arc_value}
use Rattle.qd_base.specs.declared.op.Entry.{Entry}
use Rattle.qd_base.specs.Replay.{first}
use Rattle.qd_block.specs.Blocks.{Block}
use Rattle.qd_catalog.specs.declared.version.Version as catalog
use Rattle.qd_catalog.specs.Versions.{lists, version_at}
use Rattle.qd_apply.specs.Laws.{GoesOnFrom}
use Rattle.qd_apply.specs.Stands.{StandsFor}
use Rattle.qd_durable.specs.Moments.{EachNow, LeavesOnly}
use Rattle.qd_manifest.specs.declared.shape.TableParts.{TableParts}
use Rattle.qd_manifest.specs.Spelling.{blocks_of}
use Rattle.qd_sequencer.specs.Calls.{PendsAsBefore, PendsOwn}
use Rattle.qd_sequencer.specs.Histories as histories
use Rattle.qd_txnfile.specs.States.{IsDirty}
use Rattle.qd_txnfile.specs.Versions.{Version}
use Rattle.qd_versions.specs.declared.published.GrownBlock.{GrownBlock}
use Rattle.qd_versions.specs.declared.published.NewBlock.{NewBlock}
use Rattle.qd_versions.specs.Stores.{current_version}
use Rattle.qd_volume.specs.Disk.{Disk, Image}
use Rattle.qd_store.specs.Marks.{IsMade}
use Rattle.qd_store.specs.Grown.{growth_of}
use Rattle.qd_store.specs.Found.{Finds, Found, IsUnmade, nothing, version_of}
use Rattle.qd_store.specs.Stores.{Book, IsStore}

-- a history, or that with one transaction more, of which a fact holds
abbrev pub MayBe : List Entry → (Entry → Type 0) → List Entry → Type 0
MayBe h More other = (other ≡ h) ⊎ ((e : Entry) × More e × (other ≡ h ++ e ∷ []))

-- the current version of a store, or the one that a failed publication may have left
abbrev pub MayShow : Book → Version → Version → Type 0
MayShow s next v = (v ≡ current_version s.versions.versions) ⊎ (IsDirty s.versions.root.other × (v ≡ next))

-- An image is that of a whole store: of a history, or with one transaction more, of which a fact holds; and with one of some
-- versions.
pub record ShowsOneOf (h : List Entry) (More : Entry → Type 0) (Shows : Version → Type 0) (image : Image) : Type 0 where
  pub found : Found
  pub finds : Finds found image
  pub history : MayBe h More found.history
  pub version : Shows (version_of found)

-- ---- a store is made

-- an image isn't made, or is that of a store without a transaction
abbrev pub IsBeingMade : Image → Type 0
IsBeingMade image = (IsMade image → ⊥) ⊎ Finds nothing image

abbrev pub IsCreated : {E : Type 0} → Result Book E → Disk → Type 0
IsCreated (Ok s) after = EachNow after (Finds nothing) × ((next : Version) → IsStore s [] next after)
IsCreated (Err fault) after = EachNow after IsBeingMade

-- A store is made on a volume without one: at each moment it isn't made, or is whole and has no transaction.
pub record Creates {E : Type 0} (result : Result Book E) (before after : Disk) : Type 0 where
  pub any_moment : IsUnmade before → LeavesOnly before after IsBeingMade
  pub created : IsUnmade before → IsCreated result after

-- ---- a transaction is committed

-- the transaction is the last of the history, where the call answered with an Ok
abbrev pub IsCommitted : {T E : Type 0} → Result T E → Book → List Entry → Version → (Entry → Type 0) → Disk → Type 0
IsCommitted (Ok done) new h next Own after = (e : Entry) × Own e × IsStore new (h ++ e ∷ []) next after
IsCommitted (Err fault) new h next Own after = IsStore new h next after

-- A transaction is committed, or none is: at each moment a crash leaves a whole store with the history, or with one transaction
-- more: the call's own, or the one that a failed commit left before it. No other may be left behind it.
pub record Commits {T E : Type 0} (result : Result T E) (old new : Book) (Own : Entry → Type 0) (before after : Disk) : Type 0 where
  pub any_moment : (h : List Entry) (next : Version) → IsStore old h next before → LeavesOnly before after (ShowsOneOf h (λ e. Own e ⊎ histories.IsPending old.sequence.pending before e) (MayShow old next))
  pub behind : (h : List Entry) (next : Version) → IsStore old h next before → IsCommitted result new h next Own after
  pub pending : (h : List Entry) (next : Version) → IsStore old h next before → PendsOwn old.sequence.pending new.sequence.pending Own before after

-- ---- a version is published

-- The parts of the next version stand for the first n transactions: over the blocks of the current version, of which each goes on
-- with its first rows, or with all and those that are put behind them; and over the new ones at their numbers.
pub record StandsNext (old : Book) (h : List Entry) (n : ℕ) (shape : List TableParts) (blocks : List NewBlock) (grown : List GrownBlock) : Type 0 where
  pub few : n ≤ length h
  pub contents : ℕ → Block
  pub stands : StandsFor contents shape (first h n)
  pub kept : (x : catalog.Version) (held : ℕ → Block) → version_at old.versions.versions old.versions.versions.current ≡ Some x → StandsFor held x.shape (first h x.n)
      → (b : ℕ) → lists (Some x) b ≡ true → Contains (blocks_of shape) b → b < old.versions.versions.next_block → GoesOnFrom x.shape held (map growth_of grown) contents b
  pub made : All (λ new. contents new.block ≡ arc_value new.of) blocks

-- Behind an Ok any image gives the new version; behind an Err the current one, or one that this call or an earlier one left.
abbrev pub IsPublished : {T E : Type 0} → Result T E → Book → List Entry → Version → Version → Disk → Type 0
IsPublished (Ok row) new h last v after = (next : Version) → IsStore new h next after
IsPublished (Err fault) new h last v after = IsStore new h last after ⊎ IsStore new h v after

-- A version is published: at each moment a crash leaves a whole store with the history, and the version that it might have left
-- before, or the new one.
pub record Publishes {T E : Type 0} (result : Result T E) (old new : Book) (n : ℕ) (shape : List TableParts) (blocks : List NewBlock) (grown : List GrownBlock) (v : Version) (before after : Disk) : Type 0 where
  pub any_moment : (h : List Entry) (last : Version) → IsStore old h last before → StandsNext old h n shape blocks grown
      → LeavesOnly before after (ShowsOneOf h (histories.IsPending old.sequence.pending before) (λ w. MayShow old last w ⊎ (w ≡ v)))
  pub behind : (h : List Entry) (last : Version) → IsStore old h last before → StandsNext old h n shape blocks grown → IsPublished result new h last v after
  pub pending : (h : List Entry) (last : Version) → IsStore old h last before → PendsAsBefore old.sequence.pending new.sequence.pending before after

-- ---- a call that changes neither the history nor what versions show

-- A block is swept, or what a failed commit left is settled: at each moment a crash leaves a whole store with what it might have had
-- before, and the store stands behind the call as before it. No other transaction may be left.
pub record Stands (old new : Book) (before after : Disk) : Type 0 where
  pub any_moment : (h : List Entry) (next : Version) → IsStore old h next before → LeavesOnly before after (ShowsOneOf h (histories.IsPending old.sequence.pending before) (MayShow old next))
  pub behind : (h : List Entry) (next : Version) → IsStore old h next before → IsStore new h next after
  pub pending : (h : List Entry) (next : Version) → IsStore old h next before → PendsAsBefore old.sequence.pending new.sequence.pending before after
