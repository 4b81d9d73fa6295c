-- Versions that stand for the first transactions of a history.
use Rattle.std.specs.Prelude.{◌≡◌, ℕ, ◌^◌, ◌<◌, ◌≤◌, List, length, All}
use Rattle.qd_base.specs.declared.op.Entry.{Entry}
use Rattle.qd_base.specs.Database.{Database}
use Rattle.qd_base.specs.Replay.{first}
use Rattle.qd_block.specs.Blocks.{Block}
use Rattle.qd_apply.specs.Stands.{StandsFor}
use Rattle.qd_durable.specs.Moments.{EachNow}
use Rattle.qd_column_files.specs.Files.{HoldsBlock}
use Rattle.qd_manifest.specs.declared.shape.Manifest.{Manifest}
use Rattle.qd_manifest.specs.declared.shape.TableParts.{TableParts}
use Rattle.qd_manifest.specs.Spelling.{blocks_of, IsManifest}
use Rattle.qd_txnfile.specs.Versions.{Version}
use Rattle.qd_versions.specs.Stores.{stored}
use Rattle.qd_volume.specs.Disk.{Disk, Image}

-- The files of blocks in an image hold the blocks of a version's parts.
abbrev pub HoldsBlocks : List TableParts → (ℕ → Block) → Image → Type 0
HoldsBlocks shape blocks image = All (λ b. HoldsBlock b (blocks b) image) (blocks_of shape)

-- an image holds a version's tables, which are those of a database
pub record HoldsTables (shape : List TableParts) (db : Database) (image : Image) : Type 0 where
  pub blocks : ℕ → Block
  pub stands : StandsFor blocks shape db
  pub held : HoldsBlocks shape blocks image

-- A version of n transactions stands for a history: in each image that a crash may leave, the blocks of its parts are the rows of
-- the first n transactions.
pub record IsShown (history : List Entry) (n : ℕ) (shape : List TableParts) (disk : Disk) : Type 0 where
  pub few : n ≤ length history
  -- each block has files of its own
  pub small : All (λ b. b < 2 ^ 52) (blocks_of shape)
  pub blocks : ℕ → Block
  pub stands : StandsFor blocks shape (first history n)
  pub held : EachNow disk (HoldsBlocks shape blocks)

-- the same of a version that a publication may have left in the version files, by its manifest
pub record IsLeft (history : List Entry) (next : Version) (disk : Disk) : Type 0 where
  pub manifest : Manifest
  pub sound : IsManifest next.n manifest
  pub spelled : next ≡ stored next.n manifest.next_block manifest.shape
  pub shown : IsShown history next.n manifest.shape disk
