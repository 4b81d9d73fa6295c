-- What each call makes of a told volume: at every moment inside it, and behind it.
use Rattle.std.specs.Prelude.{◌⊎◌, ℕ, Bool, ◌||◌, true, List, [], ◌∷◌, IfSome, slice_get, Result, Ok, Err}
use Rattle.qd_block.specs.Blocks.{Block}
use Rattle.qd_volume.specs.Disk.{Disk}
use Rattle.qd_durable.specs.Moments.{EachNow, LeavesOnly, Moves, SameBut}
use Rattle.qd_txnfile.specs.Calls.{ChangesVersionFiles}
use Rattle.qd_txnfile.specs.States.{GivesKnown, IsDirty}
use Rattle.qd_txnfile.specs.Versions.{GivesVersion, Version, is_version_file}
use Rattle.qd_column_files.specs.Calls.{IsGone}
use Rattle.qd_column_files.specs.Files.{is_file_of}
use Rattle.qd_versions.specs.declared.fault.PublishFault.{PublishFault}
use Rattle.qd_versions.specs.declared.published.GrownBlock.{GrownBlock}
use Rattle.qd_versions.specs.declared.published.NewBlock.{NewBlock}
use Rattle.qd_versions.specs.Kept.{KeepsTails}
use Rattle.qd_versions.specs.Stores.{IsRooted, Store, current_version, stored}
use Rattle.qd_versions.specs.Publishing.{AreHeldBy, GivesBefore, GivesWhole, HoldsAll, HoldsGrown, IsUndone, KeepsGrown, grown_blocks, is_published_file}

-- version 0, of no table
abbrev pub no_tables : Version
no_tables = stored 0 0 []

-- the files are made: each image gives version 0, and the store knows it
abbrev pub IsCreated : {E : Type 0} → Result Store E → Disk → Type 0
IsCreated (Ok s) disk = EachNow disk (GivesVersion no_tables) × ((next : Version) → IsRooted s next disk)
IsCreated (Err fault) disk = Unit {0}

pub record Creates {E : Type 0} (result : Result Store E) (before after : Disk) : Type 0 where
  pub created : IsCreated result after
  pub elsewhere : ChangesVersionFiles before after

-- what is known behind a repair: after an Ok each image gives the current version alone
abbrev pub IsRepaired : {T E : Type 0} → Result T E → Store → Version → Disk → Type 0
IsRepaired (Ok done) new next disk = EachNow disk (GivesVersion (current_version new.versions)) × IsRooted new next disk
IsRepaired (Err fault) new next disk = IsRooted new next disk

-- The gate that a publication may have left open is closed. Nothing but what could be left before can be left
-- at any moment.
pub record Repairs {T E : Type 0} (result : Result T E) (old new : Store) (before after : Disk) : Type 0 where
  pub any_moment : (next : Version) → IsRooted old next before → LeavesOnly before after (GivesKnown old.root.other (current_version old.versions) next)
  pub behind : (next : Version) → IsRooted old next before → IsRepaired result new next after
  pub tails : KeepsTails old before → KeepsTails new after
  pub elsewhere : ChangesVersionFiles before after

-- What is known behind a publication: after an Ok each image gives the new version and holds its new blocks, and those that
-- grew with the rows behind. Where it failed, it was before or in its repair, no other version is pending than before, and only
-- version files were touched; or no version is pending; or the new one may be left, and each image holds all of its blocks.
abbrev pub IsPublished : {T E : Type 0} → Result T E → Store → Store → Version → Version → List NewBlock → List GrownBlock → (ℕ → Block) → Disk → Disk → Type 0
IsPublished (Ok row) old new last v blocks grown held before after = EachNow after (λ image. GivesWhole v blocks image × HoldsGrown old.versions held grown image) × ((later : Version) → IsRooted new later after)
IsPublished (Err fault) old new last v blocks grown held before after = ((IsDirty new.root.other → IsDirty old.root.other) × (IsRooted new last after × Moves (SameBut is_version_file) before after)) ⊎ (IsRooted new last after × (IsDirty new.root.other → ⊥)) ⊎ (IsRooted new v after × EachNow after (λ image. HoldsAll blocks image × HoldsGrown old.versions held grown image))

-- A version is published: at each moment a crash leaves what it might have left before, with all but the
-- version files as before; or the current version, behind the repair; or the new version with all of its new
-- blocks, and the rows behind those that grew. At each moment, and whatever is answered, the blocks that grow are held as they
-- were, where the volume held them. What rows behind them go on with may be kept, and is known behind the call, whatever is
-- answered. Where it failed before the flip, the files of its new blocks are removed, or it says that
-- some may be left; what was put behind other rows may be left, and no version shows it.
pub record Publishes {T : Type 0} (result : Result T PublishFault) (old new : Store) (v : Version) (blocks : List NewBlock) (grown : List GrownBlock) (before after : Disk) : Type 0 where
  pub any_moment : (last : Version) (held : ℕ → Block) → IsRooted old last before → KeepsTails old before → AreHeldBy old.versions held grown before → LeavesOnly before after (λ image. GivesBefore old.root.other (current_version old.versions) last before image ⊎ GivesVersion (current_version old.versions) image ⊎ (GivesWhole v blocks image × HoldsGrown old.versions held grown image))
  pub keeps : (held : ℕ → Block) → KeepsTails old before → AreHeldBy old.versions held grown before → LeavesOnly before after (KeepsGrown old.versions held grown) × EachNow after (KeepsGrown old.versions held grown)
  pub behind : (last : Version) (held : ℕ → Block) → IsRooted old last before → KeepsTails old before → AreHeldBy old.versions held grown before → IsPublished result old new last v blocks grown held before after
  pub tails : (held : ℕ → Block) → KeepsTails old before → AreHeldBy old.versions held grown before → KeepsTails new after
  pub elsewhere : Moves (SameBut (is_published_file old.versions.next_block (grown_blocks old.versions grown))) before after
  pub removed : IsUndone result new.root.other blocks before after

-- a version file, or one of the block at the front of the queue
abbrev pub is_swept_file : List ℕ → ℕ → Bool
is_swept_file [] file = is_version_file file
is_swept_file (block ∷ queue) file = is_version_file file || is_file_of block file

-- after a sweep the files of the block have no bytes
abbrev pub IsSwept : {E : Type 0} → Result Bool E → List ℕ → Disk → Type 0
IsSwept (Ok true) queue disk = IfSome (slice_get queue 0) (λ block. IsGone {T = Unit {0}} {E = Unit {0}} (Ok tt) block disk)
IsSwept _ queue disk = Unit {0}

-- The files of the block at the front of the queue are removed: at each moment a crash leaves what it might
-- have left before, with all but the version files as before, or the current version, behind the repair. Behind
-- it only version files were touched, or no version is pending.
pub record SweepsFront {E : Type 0} (result : Result Bool E) (old new : Store) (before after : Disk) : Type 0 where
  pub any_moment : (next : Version) → IsRooted old next before → LeavesOnly before after (λ image. GivesBefore old.root.other (current_version old.versions) next before image ⊎ GivesVersion (current_version old.versions) image)
  pub behind : (next : Version) → IsRooted old next before → ((IsDirty new.root.other → IsDirty old.root.other) × (IsRooted new next after × Moves (SameBut is_version_file) before after)) ⊎ (IsRooted new next after × (IsDirty new.root.other → ⊥))
  pub tails : KeepsTails old before → KeepsTails new after
  pub swept : IsSwept result old.versions.retired after
  pub elsewhere : Moves (SameBut (is_swept_file old.versions.retired)) before after
