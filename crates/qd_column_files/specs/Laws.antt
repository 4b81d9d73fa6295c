-- The laws of the files of blocks.
use Rattle.std.specs.Prelude.{◌≡◌, ℕ, ◌^◌, ◌<◌, ◌≤◌, Bool, true, false, length}
use Rattle.qd_base.specs.declared.limits.TheConstants.{MAX_COLUMNS}
use Rattle.qd_base.specs.declared.part.Part.{Part}
use Rattle.qd_base.specs.declared.schema.Schema.{Schema}
use Rattle.qd_block.specs.Blocks.{Block}
use Rattle.qd_durable.specs.Moments.{EachNow, LeavesOnly, Moves, SameBut}
use Rattle.qd_scan.specs.Sources.{IsBlockOf}
use Rattle.qd_volume.specs.Disk.{Disk, Image}
use Rattle.qd_column_files.specs.Files.{HoldsBlock, column_file, front_of, is_file_of}

-- An image holds one block of a part, and no other.
abbrev pub OneBlockIsHeld : Type 0
OneBlockIsHeld = (s : Schema) (p : Part) (block : ℕ) (a b : Block) (image : Image) → IsBlockOf s p a → IsBlockOf s p b → HoldsBlock block a image → HoldsBlock block b image → a ≡ b

-- Each file of a column of a block is another one, and among the block's; no two blocks share a file; and none of
-- these is one of the first four, or of those from 2^63 on.
pub record BlocksHaveFilesOfTheirOwn : Type 0 where
  pub columns : (block other col next half last : ℕ) → col < 512 → next < 512 → half < 2 → last < 2 → column_file block col half ≡ column_file other next last → (block ≡ other) × (col ≡ next) × (half ≡ last)
  pub among : (block col half : ℕ) → col < 512 → half < 2 → is_file_of block (column_file block col half) ≡ true
  pub own : (block other file : ℕ) → is_file_of block file ≡ true → is_file_of other file ≡ true → block ≡ other
  pub apart : (block file : ℕ) → block < 2 ^ 52 → is_file_of block file ≡ true → (3 < file) × (file < 2 ^ 63)

-- A call that leaves the files of a block leaves the block, at every moment of it and behind it.
abbrev pub OtherFilesLeaveBlocks : Type 0
OtherFilesLeaveBlocks = (touched : ℕ → Bool) (block : ℕ) (b : Block) (before after : Disk) → Moves (SameBut touched) before after → ((file : ℕ) → is_file_of block file ≡ true → touched file ≡ false) → length b.kinds ≤ MAX_COLUMNS → EachNow before (HoldsBlock block b) → LeavesOnly before after (HoldsBlock block b) × EachNow after (HoldsBlock block b)

-- An image that holds a block holds its first rows: so versions that show a beginning of the same files need no files of their
-- own.
abbrev pub FirstRowsAreHeld : Type 0
FirstRowsAreHeld = (block n : ℕ) (b : Block) (image : Image) → HoldsBlock block b image → HoldsBlock block (front_of n b) image
