-- What the rows of a publication go on with, and what they make of a told volume. No public clause cites this module.
use Rattle.std.specs.Prelude.{◌≡◌, ◌⊎◌, ℕ, ◌<◌, ◌≤◌, List, length, map, All, Contains, Vec, slice_index_or, Result, Ok, Err, OnOk}
use Rattle.std.specs.Arc.{arc_value}
use Rattle.std.specs.declared.alloc.Global.{Global}
use Rattle.qd_base.specs.declared.limits.TheConstants.{MAX_COLUMNS}
use Rattle.qd_base.specs.declared.part.Part.{Part}
use Rattle.qd_base.specs.declared.schema.Schema.{Schema}
use Rattle.qd_block.specs.Blocks.{Block}
use Rattle.qd_volume.specs.Disk.{Disk, Image}
use Rattle.qd_durable.specs.declared.fault.LogFault.{LogFault}
use Rattle.qd_durable.specs.declared.fault.LogFault.TheVariants as fault
use Rattle.qd_durable.specs.Moments.{EachNow, LeavesOnly, Moves, SameBut}
use Rattle.qd_manifest.specs.declared.shape.TableParts.{TableParts}
use Rattle.qd_catalog.specs.Versions.{Versions}
use Rattle.qd_column_files.specs.Files.{HoldsBlock}
use Rattle.qd_column_files.specs.Growing.{BlockBehind, GoesOn, IsTailRead, block_behind, with_rows}
use Rattle.qd_versions.specs.declared.growing.Growing.{Growing}
use Rattle.qd_versions.specs.declared.keeping.KeptTail.{KeptTail}
use Rattle.qd_versions.specs.declared.published.GrownBlock.{GrownBlock}
use Rattle.qd_versions.specs.Publishing.{IsGrownLost, grown_block, is_file_among}
use Rattle.qd_versions.specs.Reading.{IsPartAt}
use Rattle.qd_versions.specs.Stores.{Store}

-- ---- what is read

-- A block below a number has a tail of as many columns as the rows, and as a table may have.
pub record IsFit (next : ℕ) (x : Growing) : Type 0 where
  pub below : x.block < next
  pub columns : length x.tail.columns ≡ length (arc_value x.rows).kinds
  pub few : length (arc_value x.rows).kinds ≤ MAX_COLUMNS

-- what is read for rows of a publication: the block of their part, and a tail that fits
pub record IsGrowing (v : Versions) (g : GrownBlock) (x : Growing) : Type 0 where
  pub block : x.block ≡ grown_block v g
  pub rows : arc_value x.rows ≡ arc_value g.rows
  pub fit : IsFit v.next_block x

-- what is read for the rows of a publication, in order
pub record AreGrowing (v : Versions) (grown : List GrownBlock) (growing : List Growing) : Type 0 where
  pub count : length growing ≡ length grown
  pub each : (k : ℕ) (d : GrownBlock) (e : Growing) → k < length grown → IsGrowing v (slice_index_or grown k d) (slice_index_or growing k e)

-- a kept tail is that of a part: of its block, behind as many rows as it shows, and of its columns
pub record IsTailOfPart (k : KeptTail) (p : Part) : Type 0 where
  pub block : k.block ≡ p.block
  pub rows : k.tail.rows ≡ p.rows
  pub columns : length k.tail.columns ≡ p.cols

-- What rows behind those of a part go on with: a tail that was kept of its block, or what is read.
abbrev pub IsTailFound : Result BlockBehind LogFault → List KeptTail → Schema → Part → Image → Type 0
IsTailFound (Ok t) kept s p image = Contains kept (record { block = p.block; tail = t }) ⊎ IsTailRead (Ok t) s p image
IsTailFound (Err e) kept s p image = IsTailRead (Err e) s p image

-- the tail is that of the part, whatever block the files hold that is the part's, or it was kept
abbrev pub IsTailOf : Store → GrownBlock → Growing → Image → Type 0
IsTailOf s g x image = (t : TableParts) (p : Part) → IsPartAt s.versions s.versions.current g.table g.part t p → (x.tail.rows ≡ p.rows) × IsTailFound (Ok x.tail) s.kept t.schema p image

-- What is read for rows of a publication: the tail of their part; or its files are damaged.
abbrev pub IsGrowthRead : Result Growing LogFault → Store → GrownBlock → Image → Type 0
IsGrowthRead (Ok x) s g image = IsTailOf s g x image
IsGrowthRead (Err (fault.Damaged file at)) s g image = (t : TableParts) × (p : Part) × IsPartAt s.versions s.versions.current g.table g.part t p × IsTailRead (Err (fault.Damaged file at)) t.schema p image
IsGrowthRead (Err fault.Vol) s g image = Unit {0}
IsGrowthRead (Err fault.Memory) s g image = Unit {0}

-- the tails of the first blocks that grow
abbrev pub AreTails : ℕ → Store → List GrownBlock → List Growing → Image → Type 0
AreTails n s grown growing image = (k : ℕ) (d : GrownBlock) (e : Growing) → k < n → IsTailOf s (slice_index_or grown k d) (slice_index_or growing k e) image

-- what is read for all rows of a publication
abbrev pub AreTailsRead : Result (Vec Growing Global) LogFault → Store → List GrownBlock → Image → Type 0
AreTailsRead (Ok growing) s grown image = AreTails (length grown) s grown growing.items image
AreTailsRead (Err (fault.Damaged file at)) s grown image = IsGrownLost s.versions grown file at image
AreTailsRead (Err fault.Vol) s grown image = Unit {0}
AreTailsRead (Err fault.Memory) s grown image = Unit {0}

-- ---- what is written

abbrev pub blocks_growing : List Growing → List ℕ
blocks_growing growing = map (λ x. x.block) growing

-- what rows behind theirs go on with, by their numbers
abbrev pub tails_in : List Growing → List KeptTail
tails_in growing = map (λ x. record { block = x.block; tail = x.tail }) growing

-- a tail was kept, and is none of some blocks
pub record IsLeft (kept : List KeptTail) (blocks : List ℕ) (k : KeptTail) : Type 0 where
  pub among : Contains kept k
  pub apart : Contains blocks k.block → ⊥

-- Blocks by their numbers are those behind which the rows go on, and each image of a volume holds them.
abbrev pub AreReady : (ℕ → Block) → List Growing → Disk → Type 0
AreReady held growing disk = All (λ x. GoesOn (held x.block) x.tail (arc_value x.rows) × EachNow disk (HoldsBlock x.block (held x.block))) growing

-- an image holds the blocks as they were
abbrev pub Keeps : (ℕ → Block) → List Growing → Image → Type 0
Keeps held growing image = All (λ x. HoldsBlock x.block (held x.block) image) growing

-- a block with the rows that go behind its own
abbrev pub grown_of : (ℕ → Block) → Growing → Block
grown_of held x = with_rows (held x.block) (arc_value x.rows).rows

-- an image holds the blocks with the rows behind
abbrev pub HoldsMore : (ℕ → Block) → List Growing → Image → Type 0
HoldsMore held growing image = All (λ x. HoldsBlock x.block (grown_of held x) image) growing

-- after an Ok each image does
abbrev pub AreGrown : {T E : Type 0} → Result T E → (ℕ → Block) → List Growing → Disk → Type 0
AreGrown (Ok done) held growing disk = EachNow disk (HoldsMore held growing)
AreGrown (Err fault) held growing disk = Unit {0}

-- a block that grew, and what rows behind those that went there go on with
pub record IsGrownTail (held : ℕ → Block) (x new : Growing) : Type 0 where
  pub block : new.block ≡ x.block
  pub tail : new.tail ≡ block_behind (grown_of held x)

-- the first of some blocks
abbrev pub AreGrownTails : ℕ → (ℕ → Block) → List Growing → List Growing → Type 0
AreGrownTails n held growing new = (k : ℕ) (d e : Growing) → k < n → IsGrownTail held (slice_index_or growing k d) (slice_index_or new k e)

-- all of them
pub record AreAllGrown (held : ℕ → Block) (growing new : List Growing) : Type 0 where
  pub count : length new ≡ length growing
  pub each : AreGrownTails (length growing) held growing new

-- Blocks that the images held before are held at every moment and behind the call; after an Ok with the rows behind, and the
-- tails are behind these.
pub record GrowsAll {T E : Type 0} (result : Result T E) (held : ℕ → Block) (growing new : List Growing) (before after : Disk) : Type 0 where
  pub moments : LeavesOnly before after (Keeps held growing)
  pub stays : EachNow after (Keeps held growing)
  pub grown : AreGrown result held growing after
  pub tails : OnOk result (AreAllGrown held growing new)

-- Rows are put behind those of blocks. Each image of the call is one from before it in all other files.
pub record GrowsBlocks {T E : Type 0} (result : Result T E) (growing new : List Growing) (before after : Disk) : Type 0 where
  pub elsewhere : Moves (SameBut (is_file_among (blocks_growing growing))) before after
  pub grows : (held : ℕ → Block) → AreReady held growing before → GrowsAll result held growing new before after
