-- What the writing of a version makes of a told volume, by its root alone. No public clause cites this module.
use Rattle.std.specs.Prelude.{ℕ, ◌⊎◌, ◌≤◌, ◌||◌, List, length, Result, Ok, Err, OnOk}
use Rattle.std.specs.Arc.{arc_value}
use Rattle.qd_base.specs.declared.limits.TheConstants.{MAX_COLUMNS}
use Rattle.qd_block.specs.Blocks.{Block}
use Rattle.qd_volume.specs.Disk.{Disk}
use Rattle.qd_durable.specs.Moments.{EachNow, LeavesOnly, Moves, SameBut}
use Rattle.qd_txnfile.specs.States.{IsDirty, Knows, Root}
use Rattle.qd_txnfile.specs.Versions.{GivesVersion, Version, is_version_file}
use Rattle.qd_column_files.specs.Calls.{IsGone}
use Rattle.qd_column_files.specs.Files.{is_file_of}
use Rattle.qd_versions.specs.declared.fault.PublishFault.{PublishFault}
use Rattle.qd_versions.specs.declared.fault.PublishFault.TheVariants as fault
use Rattle.qd_versions.specs.declared.growing.Growing.{Growing}
use Rattle.qd_versions.specs.declared.published.NewBlock.{NewBlock}
use Rattle.qd_versions.specs.Publishing.{AreCleared, AreGone, GivesBefore, GivesWhole, HoldsAll, IsUndone, is_file_from, is_published_file, is_put_file}
use Rattle.qd_versions.specs.Tails.{AreAllGrown, AreReady, GrowsAll, HoldsMore, Keeps, blocks_growing}

-- a new block has at most as many columns as a table may
abbrev pub IsNarrow : NewBlock → Type 0
IsNarrow new = let b : Block = arc_value new.of in length b.kinds ≤ MAX_COLUMNS

-- after an Ok each image holds the blocks
abbrev pub AreHeld : {T E : Type 0} → Result T E → List NewBlock → Disk → Type 0
AreHeld (Ok done) blocks disk = EachNow disk (HoldsAll blocks)
AreHeld (Err fault) blocks disk = Unit {0}

-- The files of blocks from a number on are put.
pub record PutsBlocks {T E : Type 0} (result : Result T E) (next : ℕ) (blocks : List NewBlock) (before after : Disk) : Type 0 where
  pub elsewhere : Moves (SameBut (is_file_from next)) before after
  pub held : AreHeld result blocks after

-- The files of blocks from a number on are put, and rows behind those of others.
pub record PutsFiles {T E : Type 0} (result : Result T E) (next : ℕ) (blocks : List NewBlock) (growing grown : List Growing) (before after : Disk) : Type 0 where
  pub elsewhere : Moves (SameBut (is_put_file next (blocks_growing growing))) before after
  pub held : AreHeld result blocks after
  pub grows : (held : ℕ → Block) → AreReady held growing before → GrowsAll result held growing grown before after

-- whether a publication that found a row, and no damage, may answer a fault
abbrev pub IsLate : PublishFault → Type 0
IsLate fault.NoRow = ⊥
IsLate (fault.Damaged file at) = ⊥
IsLate fault.Vol = Unit {0}
IsLate fault.Memory = Unit {0}
IsLate (fault.Unremoved cause) = Unit {0}

-- what is known behind the writing of a version beside the current one
abbrev pub IsBeside : {T E : Type 0} → Result T E → Root → Version → Version → Version → Disk → Type 0
IsBeside (Ok done) new current last v disk = Knows new current v disk
IsBeside (Err fault) new current last v disk = Knows new current last disk

-- The files of blocks from a number on are put, and rows behind those of others, and a version is written beside the current
-- one: each moment leaves the current one.
pub record PutsBeside {T E : Type 0} (result : Result T E) (old new : Root) (next_block : ℕ) (v : Version) (blocks : List NewBlock) (growing grown : List Growing) (before after : Disk) : Type 0 where
  pub any_moment : (current last : Version) → Knows old current last before → EachNow before (GivesVersion current) → LeavesOnly before after (GivesVersion current)
  pub behind : (current last : Version) → Knows old current last before → IsBeside result new current last v after
  pub held : AreHeld result blocks after
  pub grows : (held : ℕ → Block) → AreReady held growing before → GrowsAll result held growing grown before after
  pub elsewhere : Moves (SameBut (is_published_file next_block (blocks_growing growing))) before after

-- after an Ok the files of blocks are removed
abbrev pub AreRemoved : {T E : Type 0} → Result T E → List NewBlock → Disk → Type 0
AreRemoved (Ok done) blocks disk = AreGone blocks disk
AreRemoved (Err fault) blocks disk = Unit {0}

-- The files of blocks from a number on are removed.
pub record RemovesBlocks {T E : Type 0} (result : Result T E) (next : ℕ) (blocks : List NewBlock) (before after : Disk) : Type 0 where
  pub elsewhere : Moves (SameBut (is_file_from next)) before after
  pub gone : AreRemoved result blocks after

-- The files of blocks from a number on are removed, as the fault of their publication says.
pub record GivesUp (cause : PublishFault) (next : ℕ) (blocks : List NewBlock) (before after : Disk) : Type 0 where
  pub elsewhere : Moves (SameBut (is_file_from next)) before after
  pub cleared : AreCleared cause blocks after

-- what is known behind the writing of a version
abbrev pub IsLaid : {T E : Type 0} → Result T E → Root → Root → Version → Version → Version → List NewBlock → List Growing → (ℕ → Block) → Disk → Disk → Type 0
IsLaid (Ok done) old new current last v blocks growing held before after = EachNow after (λ image. GivesWhole v blocks image × HoldsMore held growing image) × ((later : Version) → Knows new v later after)
IsLaid (Err fault) old new current last v blocks growing held before after = ((IsDirty new.other → IsDirty old.other) × (Knows new current last after × Moves (SameBut is_version_file) before after)) ⊎ (Knows new current last after × (IsDirty new.other → ⊥)) ⊎ (Knows new current v after × EachNow after (λ image. HoldsAll blocks image × HoldsMore held growing image))

-- The root is repaired, the files of new blocks are put and rows behind those of others, and a version is written and made the
-- current one. Where that fails before the flip, the files of new blocks are removed.
pub record LaysDown {T : Type 0} (result : Result T PublishFault) (old new : Root) (next_block : ℕ) (v : Version) (blocks : List NewBlock) (growing grown : List Growing) (before after : Disk) : Type 0 where
  pub any_moment : (current last : Version) (held : ℕ → Block) → Knows old current last before → AreReady held growing before → LeavesOnly before after (λ image. GivesBefore old.other current last before image ⊎ GivesVersion current image ⊎ (GivesWhole v blocks image × HoldsMore held growing image))
  pub keeps : (held : ℕ → Block) → AreReady held growing before → LeavesOnly before after (Keeps held growing) × EachNow after (Keeps held growing)
  pub behind : (current last : Version) (held : ℕ → Block) → Knows old current last before → AreReady held growing before → IsLaid result old new current last v blocks growing held before after
  pub tails : (held : ℕ → Block) → AreReady held growing before → OnOk result (EachNow after (HoldsMore held growing) × AreAllGrown held growing grown)
  pub elsewhere : Moves (SameBut (is_published_file next_block (blocks_growing growing))) before after
  pub removed : IsUndone result new.other blocks before after

-- The root is repaired, and the files of a block are removed.
pub record Clears {T E : Type 0} (result : Result T E) (old new : Root) (block : ℕ) (before after : Disk) : Type 0 where
  pub any_moment : (current next : Version) → Knows old current next before → LeavesOnly before after (λ image. GivesBefore old.other current next before image ⊎ GivesVersion current image)
  pub behind : (current next : Version) → Knows old current next before → ((IsDirty new.other → IsDirty old.other) × (Knows new current next after × Moves (SameBut is_version_file) before after)) ⊎ (Knows new current next after × (IsDirty new.other → ⊥))
  pub gone : IsGone result block after
  pub elsewhere : Moves (SameBut (λ file. is_version_file file || is_file_of block file)) before after
