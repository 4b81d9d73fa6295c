-- What is published: a version, with the blocks that are new in it.
use Rattle.std.specs.Prelude.{◌≡◌, ◌⊎◌, ℕ, ◌+◌, ◌^◌, ◌<◌, ◌≤◌, Bool, ◌||◌, ◌&&◌, nat_le, nat_lt, true, List, map, take, is_some, length, All, Contains, Option, Some, None, slice_get, Result, Ok, Err}
use Rattle.std.specs.List.{list_any, range_with_len}
use Rattle.std.specs.Arc.{arc_value}
use Rattle.qd_base.specs.declared.part.Part.{Part}
use Rattle.qd_block.specs.Blocks.{Block, kinds_in}
use Rattle.qd_volume.specs.Disk.{Disk, Image}
use Rattle.qd_durable.specs.Moments.{ComesFrom, EachNow, Moves, SameBut}
use Rattle.qd_txnfile.specs.declared.half.Other.{Other}
use Rattle.qd_txnfile.specs.States.{GivesKnown, IsDirty}
use Rattle.qd_txnfile.specs.Versions.{GivesVersion, Version, is_version_file}
use Rattle.qd_manifest.specs.declared.shape.TableParts.{TableParts}
use Rattle.qd_manifest.specs.Spelling.{IsManifest, blocks_of}
use Rattle.qd_catalog.specs.declared.version.Version as shown
use Rattle.qd_catalog.specs.Versions.{Versions, current_n, lists, version_at, written_of}
use Rattle.qd_scan.specs.Sources.{IsBlockOf}
use Rattle.qd_column_files.specs.Calls.{IsGone}
use Rattle.qd_column_files.specs.Damage.{HoldsNone}
use Rattle.qd_column_files.specs.Files.{HoldsBlock, column_file, is_file_of}
use Rattle.qd_column_files.specs.Growing.{IsTailLost, with_rows}
use Rattle.qd_versions.specs.declared.fault.PublishFault.{PublishFault}
use Rattle.qd_versions.specs.declared.fault.PublishFault.TheVariants as fault
use Rattle.qd_versions.specs.declared.published.GrownBlock.{GrownBlock}
use Rattle.qd_versions.specs.declared.published.NewBlock.{NewBlock}
use Rattle.qd_versions.specs.Reading.{IsPartAt}
use Rattle.qd_versions.specs.Stores.{HaveOneKinds, manifest_in}

-- all rows are live
abbrev pub IsFull : Versions → Type 0
IsFull v = All (λ version. is_some version ≡ true) v.versions

-- blocks are numbered upwards from a number
abbrev pub AreNumbered : ℕ → List NewBlock → Type 0
AreNumbered next blocks = map (λ b. b.block) blocks ≡ range_with_len next (length blocks)

-- A version may be published with so many new blocks: it shows more transactions than the current one, and has
-- a manifest; the blocks of its parts are those of the current version, whose files it reads as the same kinds, and all of
-- the new ones.
pub record MayPublish (v : Versions) (n : ℕ) (shape : List TableParts) (count : ℕ) : Type 0 where
  pub newer : (k : ℕ) → current_n v ≡ Some k → k < n
  pub few : n ≤ 2 ^ 30
  pub sound : IsManifest n (manifest_in (v.next_block + count) shape)
  pub old : (b : ℕ) → Contains (blocks_of shape) b → b < v.next_block → lists (version_at v v.current) b ≡ true
  pub whole : (b : ℕ) → v.next_block ≤ b → b < v.next_block + count → Contains (blocks_of shape) b
  pub alike : (x : shown.Version) → version_at v v.current ≡ Some x → HaveOneKinds shape x.shape

-- ---- blocks that grow

-- the part at a position of the table at a position of a version
abbrev pub part_in_table : Option TableParts → ℕ → Option Part
part_in_table None i = None
part_in_table (Some t) i = slice_get t.parts i

abbrev pub part_in_version : Option shown.Version → ℕ → ℕ → Option Part
part_in_version None table i = None
part_in_version (Some x) table i = part_in_table (slice_get x.shape table) i

-- its block; 0 where there is none
abbrev pub block_of_part : Option Part → ℕ
block_of_part None = 0
block_of_part (Some p) = p.block

-- the block behind whose rows others are put: that of a part of the current version
abbrev pub grown_block : Versions → GrownBlock → ℕ
grown_block v g = block_of_part (part_in_version (version_at v v.current) g.table g.part)

abbrev pub grown_blocks : Versions → List GrownBlock → List ℕ
grown_blocks v grown = map (grown_block v) grown

-- Rows may be put behind those of a part of the current version: it shows all rows that its block's files hold, and the rows are
-- of its columns. So no version shows what is written over.
pub record MayGrow (v : Versions) (g : GrownBlock) : Type 0 where
  pub t : TableParts
  pub p : Part
  pub there : IsPartAt v v.current g.table g.part t p
  pub all : p.rows ≡ written_of v p.block
  pub kinds : (arc_value g.rows).kinds ≡ take p.cols (kinds_in t.schema.cols)
  pub time_col : (arc_value g.rows).time_col ≡ t.schema.time_col

-- Blocks by their numbers are those of the parts that grow, and each image of a volume holds them.
abbrev pub AreHeldBy : Versions → (ℕ → Block) → List GrownBlock → Disk → Type 0
AreHeldBy v held grown disk = All (λ (g : GrownBlock). (t : TableParts) (p : Part) → IsPartAt v v.current g.table g.part t p → IsBlockOf t.schema p (held p.block) × EachNow disk (HoldsBlock p.block (held p.block))) grown

-- an image holds the blocks that grow as they were
abbrev pub KeepsGrown : Versions → (ℕ → Block) → List GrownBlock → Image → Type 0
KeepsGrown v held grown image = All (λ (g : GrownBlock). (t : TableParts) (p : Part) → IsPartAt v v.current g.table g.part t p → HoldsBlock p.block (held p.block) image) grown

-- an image holds them with the rows behind
abbrev pub HoldsGrown : Versions → (ℕ → Block) → List GrownBlock → Image → Type 0
HoldsGrown v held grown image = All (λ (g : GrownBlock). (t : TableParts) (p : Part) → IsPartAt v v.current g.table g.part t p → HoldsBlock p.block (with_rows (held p.block) (arc_value g.rows).rows) image) grown

-- The files of a block that grows are damaged at a byte, and hold no block that is the part's.
pub record IsGrownLost (v : Versions) (grown : List GrownBlock) (file at : ℕ) (image : Image) : Type 0 where
  pub g : GrownBlock
  pub among : Contains grown g
  pub t : TableParts
  pub p : Part
  pub there : IsPartAt v v.current g.table g.part t p
  pub lost : IsTailLost t.schema p file at image
  pub none : HoldsNone t.schema p image

-- where a publication found damage, if that is its fault
abbrev pub IsLostWhere : PublishFault → Versions → List GrownBlock → Image → Type 0
IsLostWhere fault.NoRow v grown image = Unit {0}
IsLostWhere (fault.Damaged file at) v grown image = IsGrownLost v grown file at image
IsLostWhere fault.Vol v grown image = Unit {0}
IsLostWhere fault.Memory v grown image = Unit {0}
IsLostWhere (fault.Unremoved cause) v grown image = Unit {0}

-- ---- what an image holds of a publication

-- an image holds each of the new blocks
abbrev pub HoldsAll : List NewBlock → Image → Type 0
HoldsAll blocks image = All (λ b. HoldsBlock b.block (arc_value b.of) image) blocks

-- an image gives a version, and holds each of its new blocks
abbrev pub GivesWhole : Version → List NewBlock → Image → Type 0
GivesWhole v blocks image = GivesVersion v image × HoldsAll blocks image

-- An image gives what is known of a root, and has all but the version files as before: so it is while a root is
-- repaired.
abbrev pub GivesBefore : Other → Version → Version → Disk → Image → Type 0
GivesBefore known current next before image = GivesKnown known current next image × ComesFrom (SameBut is_version_file) before image

-- no file of a new block has bytes
abbrev pub AreGone : List NewBlock → Disk → Type 0
AreGone blocks disk = All (λ b. IsGone {T = Unit {0}} {E = Unit {0}} (Ok tt) b.block disk) blocks

-- no such file has bytes, but where the fault of the publication says that some may be left
abbrev pub AreCleared : PublishFault → List NewBlock → Disk → Type 0
AreCleared fault.NoRow blocks disk = AreGone blocks disk
AreCleared (fault.Damaged file at) blocks disk = AreGone blocks disk
AreCleared fault.Vol blocks disk = AreGone blocks disk
AreCleared fault.Memory blocks disk = AreGone blocks disk
AreCleared (fault.Unremoved cause) blocks disk = Unit {0}

-- What a publication that failed leaves of the files of its new blocks. It was before or in its repair, and only
-- version files were touched; or the flip failed, and the new version may be left; or they are removed.
abbrev pub IsUndone : {T : Type 0} → Result T PublishFault → Other → List NewBlock → Disk → Disk → Type 0
IsUndone (Ok done) known blocks before after = Unit {0}
IsUndone (Err fault) known blocks before after = Moves (SameBut is_version_file) before after ⊎ IsDirty known ⊎ AreCleared fault blocks after

-- whether a file may be one of a block from a number on
abbrev pub is_file_from : ℕ → ℕ → Bool
is_file_from next file = nat_le (column_file next 0 0) file && nat_lt file (2 ^ 63)

-- whether a file is one of some blocks
abbrev pub is_file_among : List ℕ → ℕ → Bool
is_file_among blocks file = list_any (λ b. is_file_of b file) blocks

-- a file of a new block, or of one that grows
abbrev pub is_put_file : ℕ → List ℕ → ℕ → Bool
is_put_file next grown file = is_file_from next file || is_file_among grown file

-- a version file, or such a file
abbrev pub is_published_file : ℕ → List ℕ → ℕ → Bool
is_published_file next grown file = is_version_file file || is_put_file next grown file
