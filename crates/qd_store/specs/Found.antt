-- What is found in the files of a store, and which volumes are whole.
--
-- File 0 is the mark, file 1 the log, files 2 and 3 give the version. The transactions are those that the bytes at the log's
-- references spell; the version shows the first n of them.
use Rattle.std.specs.Prelude.{◌≡◌, ℕ, ◌≤◌, List, [], length, Contains}
use Rattle.qd_base.specs.declared.op.Entry.{Entry}
use Rattle.qd_base.specs.declared.part.Part.{Part}
use Rattle.qd_base.specs.declared.part.WalRef.{WalRef}
use Rattle.qd_base.specs.Replay.{first}
use Rattle.qd_block.specs.Blocks.{Block}
use Rattle.qd_durable.specs.Moments.{EachNow}
use Rattle.qd_column_files.specs.Files.{HoldsBlock}
use Rattle.qd_manifest.specs.declared.shape.Manifest.{Manifest}
use Rattle.qd_manifest.specs.declared.shape.TableParts.{TableParts}
use Rattle.qd_manifest.specs.Spelling.{blocks_of, IsManifest}
use Rattle.qd_scan.specs.Sources.{IsBlockOf}
use Rattle.qd_sequencer.specs.Histories.{HoldsHistory}
use Rattle.qd_txnfile.specs.Versions.{GivesVersion, Version}
use Rattle.qd_versions.specs.Stores.{stored}
use Rattle.qd_volume.specs.Disk.{Disk, Image, images_now}
use Rattle.qd_wal.specs.Segments.{file_in, part_at}
use Rattle.qd_store.specs.Marks.{IsMade}
use Rattle.qd_store.specs.Prefixes.{HoldsTables}

-- what is found: the references, their transactions, how many of these the version shows, and its manifest
pub record Found : Type 0 where
  pub refs : List WalRef
  pub history : List Entry
  pub n : ℕ
  pub manifest : Manifest

abbrev pub version_of : Found → Version
version_of f = stored f.n f.manifest.next_block f.manifest.shape

-- An image of a whole store: all of it is there, and lawful, and the version stands for its transactions.
pub record Finds (f : Found) (image : Image) : Type 0 where
  pub made : IsMade image
  pub history : HoldsHistory f.refs f.history image
  pub version : GivesVersion (version_of f) image
  pub manifest : IsManifest f.n f.manifest
  pub few : f.n ≤ length f.history
  pub tables : HoldsTables f.manifest.shape (first f.history f.n) image

-- a store without a transaction
abbrev pub nothing : Found
nothing = record { refs = []; history = []; n = 0; manifest = record { next_block = 0; shape = [] } }

-- Two images of one volume agree in what both have: in the bytes at each reference, and in what the files of a block hold of a
-- part that the first one's version lists.
pub record Agree (f g : Found) (a b : Image) : Type 0 where
  pub entries : (ref : WalRef) → Contains f.refs ref → Contains g.refs ref → part_at (a (file_in ref)) ref ≡ part_at (b (file_in ref)) ref
  pub blocks : (t : TableParts) (p : Part) (rows : Block) → Contains f.manifest.shape t → Contains t.parts p → Contains (blocks_of g.manifest.shape) p.block → IsBlockOf t.schema p rows → HoldsBlock p.block rows a → HoldsBlock p.block rows b

-- A volume is whole: each image that a crash may leave is that of a whole store, and any two agree.
pub record IsWhole (disk : Disk) : Type 0 where
  pub each : EachNow disk (λ image. (f : Found) × Finds f image)
  pub agree : (a b : Image) (f g : Found) → images_now disk a → images_now disk b → Finds f a → Finds g b → Agree f g a b

-- it is not made
abbrev pub IsUnmade : Disk → Type 0
IsUnmade disk = EachNow disk (λ image. IsMade image → ⊥)
