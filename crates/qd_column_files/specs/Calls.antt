-- What each call makes of a told volume: at every moment inside it, and behind it.
use Rattle.std.specs.Prelude.{◌≡◌, ℕ, ◌+◌, ◌<◌, Bool, ◌&&◌, nat_eq, nat_le, nat_lt, List, [], take, Result, Ok, Err}
use Rattle.qd_base.specs.declared.limits.TheConstants.{MAX_COLUMNS}
use Rattle.qd_block.specs.Blocks.{Block}
use Rattle.qd_column.specs.Cells.{CellsOf}
use Rattle.qd_column_format.specs.Spelling.{SpellsColumn}
use Rattle.qd_volume.specs.Disk.{Disk, Image, reads_of}
use Rattle.qd_durable.specs.Moments.{EachNow, Moves, SameBut}
use Rattle.qd_durable.specs.Places.{StandsAt}
use Rattle.qd_column_files.specs.Files.{HoldsBlock, column_file, is_file_of}

-- two images have the same bytes in all files but one, and in that one below a place
pub record SameBelow (file at : ℕ) (earlier image : Image) : Type 0 where
  pub others : SameBut (nat_eq file) earlier image
  pub below : take at (image file) ≡ take at (earlier file)

-- after an Ok the bytes stand at the place, in each image and as the file reads
abbrev pub IsPut : {T E : Type 0} → Result T E → ℕ → ℕ → List ℕ → Disk → Type 0
IsPut (Ok done) file at bytes after = EachNow after (λ image. StandsAt (image file) at bytes) × StandsAt (reads_of after file) at bytes
IsPut (Err fault) file at bytes after = Unit {0}

-- Bytes are put at a place of a file. Each image of the call is one from before it in all other files, and below the
-- place.
pub record PutsFile {T E : Type 0} (result : Result T E) (file at : ℕ) (bytes : List ℕ) (before after : Disk) : Type 0 where
  pub below : Moves (SameBelow file at) before after
  pub put : IsPut result file at bytes after

-- whether a file is one of the two of a column of a block
abbrev pub is_column_file : ℕ → ℕ → ℕ → Bool
is_column_file block col file = nat_le (column_file block col 0) file && nat_lt file (column_file block (col + 1) 0)

-- the two files of a column spell it in an image
abbrev pub HoldsColumn : ℕ → ℕ → CellsOf → Image → Type 0
HoldsColumn block col column image = SpellsColumn (image (column_file block col 0)) (image (column_file block col 1)) column

-- after an Ok each image holds the column
abbrev pub IsColumnHeld : {T E : Type 0} → Result T E → ℕ → ℕ → CellsOf → Disk → Type 0
IsColumnHeld (Ok done) block col column after = EachNow after (HoldsColumn block col column)
IsColumnHeld (Err fault) block col column after = Unit {0}

-- The files of a column are put. Each image of the call is one from before it in all other files.
pub record PutsColumn {T E : Type 0} (result : Result T E) (block col : ℕ) (column : CellsOf) (before after : Disk) : Type 0 where
  pub elsewhere : Moves (SameBut (is_column_file block col)) before after
  pub held : IsColumnHeld result block col column after

-- after an Ok each image holds the block, and it reads so
abbrev pub IsHeld : {T E : Type 0} → Result T E → ℕ → Block → Disk → Type 0
IsHeld (Ok done) block b after = EachNow after (HoldsBlock block b) × HoldsBlock block b (reads_of after)
IsHeld (Err fault) block b after = Unit {0}

-- The files of a block are put. Each image of the call is one from before it in all files that aren't the block's.
pub record PutsBlock {T E : Type 0} (result : Result T E) (block : ℕ) (b : Block) (before after : Disk) : Type 0 where
  pub elsewhere : Moves (SameBut (is_file_of block)) before after
  pub held : IsHeld result block b after

-- after an Ok the two files of the column have no bytes
abbrev pub IsColumnGone : {T E : Type 0} → Result T E → ℕ → ℕ → Disk → Type 0
IsColumnGone (Ok done) block col after = (half : ℕ) → half < 2 → reads_of after (column_file block col half) ≡ []
IsColumnGone (Err fault) block col after = Unit {0}

-- The files of a column are removed: nothing changes of the others.
pub record RemovesColumn {T E : Type 0} (result : Result T E) (block col : ℕ) (before after : Disk) : Type 0 where
  pub elsewhere : Moves (SameBut (is_column_file block col)) before after
  pub others : SameBut (is_column_file block col) (reads_of before) (reads_of after)
  pub gone : IsColumnGone result block col after

-- after an Ok no file that a column of the block may have has bytes
abbrev pub IsGone : {T E : Type 0} → Result T E → ℕ → Disk → Type 0
IsGone (Ok done) block after = (col half : ℕ) → col < MAX_COLUMNS → half < 2 → reads_of after (column_file block col half) ≡ []
IsGone (Err fault) block after = Unit {0}

-- The files of a block are removed: nothing changes of the others.
pub record RemovesBlock {T E : Type 0} (result : Result T E) (block : ℕ) (before after : Disk) : Type 0 where
  pub elsewhere : Moves (SameBut (is_file_of block)) before after
  pub others : SameBut (is_file_of block) (reads_of before) (reads_of after)
  pub gone : IsGone result block after
