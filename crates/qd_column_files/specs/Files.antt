-- The files of the blocks of a volume, and what an image of it holds of a block. Which file is which is the project's
-- own; the bytes are those of stored columns, format 1.
use Rattle.std.specs.Prelude.{ℕ, ◌+◌, ◌*◌, ◌^◌, ◌<◌, Bool, ◌&&◌, nat_le, nat_lt, length, take}
use Rattle.qd_block.specs.Blocks.{Block, column_in}
use Rattle.qd_column_format.specs.Spelling.{SpellsColumn}
use Rattle.qd_volume.specs.Disk.{Image}

-- the number of a file of a column of a block: half 0 is its main file, 1 the second one
abbrev pub column_file : ℕ → ℕ → ℕ → ℕ
column_file block col half = 2 ^ 62 + block * 2 ^ 10 + 2 * col + half

-- whether a file is one of the 2^10 that a block has
abbrev pub is_file_of : ℕ → ℕ → Bool
is_file_of block file = nat_le (column_file block 0 0) file && nat_lt file (column_file (block + 1) 0 0)

-- An image holds a block: the files of each of its columns spell it. What lies behind those bytes is of no account.
pub record HoldsBlock (block : ℕ) (b : Block) (image : Image) : Type 0 where
  pub each : (col : ℕ) → col < length b.kinds → SpellsColumn (image (column_file block col 0)) (image (column_file block col 1)) (column_in b col)

-- the first rows of a block
abbrev pub front_of : ℕ → Block → Block
front_of n b = record b { rows = take n b.rows }
