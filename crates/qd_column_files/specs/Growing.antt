-- Blocks that grow: rows are put behind those that their files hold. Versions that show a beginning of the files keep it.
use Rattle.std.specs.Prelude.{◌≡◌, ℕ, ◌^◌, ◌<◌, ◌++◌, Bool, true, List, length, map, take, Option, Some, Result, Ok, Err, IfOk, OnOk}
use Rattle.std.specs.List.{range_with_len, sum_by}
use Rattle.qd_base.specs.Rows.{Row}
use Rattle.qd_base.specs.declared.cell.Cell.{Cell}
use Rattle.qd_base.specs.declared.part.Part.{Part}
use Rattle.qd_base.specs.declared.schema.ColType.{ColType}
use Rattle.qd_base.specs.declared.schema.Schema.{Schema}
use Rattle.qd_block.specs.Blocks.{Block, column_in}
use Rattle.qd_column.specs.Cells.{CellsOf}
use Rattle.qd_column_format.specs.declared.encode.ColumnBytes.{ColumnBytes}
use Rattle.qd_column_format.specs.Added.{SpellsItself}
use Rattle.qd_column_format.specs.Spelling.{SpellsColumn}
use Rattle.qd_column_format.specs.Tails.{behind, joined, Behind}
use Rattle.qd_durable.specs.declared.fault.LogFault.{LogFault}
use Rattle.qd_durable.specs.declared.fault.LogFault.TheVariants as fault
use Rattle.qd_durable.specs.Moments.{EachNow, LeavesOnly, Moves, SameBut}
use Rattle.qd_durable.specs.Places.{StandsAt}
use Rattle.qd_io.specs.declared.fault.IoFault.{IoFault}
use Rattle.qd_scan.specs.Sources.{IsBlockOf}
use Rattle.qd_volume.specs.Disk.{Disk, Image}
use Rattle.qd_column_files.specs.Calls.{HoldsColumn, IsColumnHeld, IsHeld, is_column_file}
use Rattle.qd_column_files.specs.Columns.{kind_of}
use Rattle.qd_column_files.specs.Damage.{HoldsNone}
use Rattle.qd_column_files.specs.Files.{HoldsBlock, column_file, is_file_of}
use Rattle.qd_column_files.specs.Reading.{IsColumnLost}

-- ---- one column

-- two images have the same bytes in all files but those of a column, and in these below two places
pub record SameBelowPlaces (block col main_at aux_at : ℕ) (earlier image : Image) : Type 0 where
  pub others : SameBut (is_column_file block col) earlier image
  pub main : take main_at (image (column_file block col 0)) ≡ take main_at (earlier (column_file block col 0))
  pub aux : take aux_at (image (column_file block col 1)) ≡ take aux_at (earlier (column_file block col 1))

-- bytes stand at their places of the two files of a column
pub record StandsIn (block col : ℕ) (bytes : ColumnBytes) (image : Image) : Type 0 where
  pub main : StandsAt (image (column_file block col 0)) bytes.main_at bytes.main
  pub aux : StandsAt (image (column_file block col 1)) bytes.aux_at bytes.aux

-- after an Ok they do in each image
abbrev pub AreStanding : {T E : Type 0} → Result T E → ℕ → ℕ → ColumnBytes → Disk → Type 0
AreStanding (Ok done) block col bytes after = EachNow after (StandsIn block col bytes)
AreStanding (Err fault) block col bytes after = Unit {0}

-- Bytes are put into the files of a column from their places on. Each image of the call is one from before it in all other files,
-- and below the places.
pub record PutsBehind {T E : Type 0} (result : Result T E) (block col : ℕ) (bytes : ColumnBytes) (before after : Disk) : Type 0 where
  pub below : Moves (SameBelowPlaces block col bytes.main_at bytes.aux_at) before after
  pub put : AreStanding result block col bytes after

-- two images have the same bytes in all files but those of a column, and the later one holds it where the earlier one did
pub record KeepsColumn (block col : ℕ) (column : CellsOf) (earlier image : Image) : Type 0 where
  pub others : SameBut (is_column_file block col) earlier image
  pub kept : HoldsColumn block col column earlier → HoldsColumn block col column image

-- Rows go behind the first ones of a column: these stay, and after an Ok each image holds it with the rows, where each held the
-- first ones before.
pub record GrowsColumn {T E : Type 0} (result : Result T E) (block col : ℕ) (first : CellsOf) (rows : List Cell) (before after : Disk) : Type 0 where
  pub keeps : Moves (KeepsColumn block col first) before after
  pub grown : EachNow before (HoldsColumn block col first) → IsColumnHeld result block col (joined first rows) after

-- Rows of a column go on behind its first ones.
pub record GoesBehind (first : CellsOf) (from : ℕ) (tail : Behind) (rows : CellsOf) : Type 0 where
  pub kind : first.kind ≡ rows.kind
  pub count : length first.cells ≡ from
  pub itself : SpellsItself first
  pub goes_on : tail ≡ behind first

-- The column grows by rows that go on behind its first ones, whatever these are.
pub record GrowsTail {T E : Type 0} (result : Result T E) (block col from : ℕ) (tail : Behind) (rows : CellsOf) (before after : Disk) : Type 0 where
  pub elsewhere : Moves (SameBut (is_column_file block col)) before after
  pub grows : (first : CellsOf) → GoesBehind first from tail rows → GrowsColumn result block col first rows.cells before after

-- ---- a block

-- what rows behind those of a block go on with, column by column
abbrev pub tails_of : Block → List Behind
tails_of b = map (λ col. behind (column_in b col)) (range_with_len 0 (length b.kinds))

-- what contracts see of a tail of a block: how many rows it is behind, and what each column goes on with
pub record BlockBehind : Type 0 where
  pub rows : ℕ
  pub columns : List Behind

-- how many texts the columns have named, all together
abbrev pub all_texts : List Behind → ℕ
all_texts columns = sum_by (λ c. length c.texts) columns

abbrev pub block_behind : Block → BlockBehind
block_behind b = record { rows = length b.rows; columns = tails_of b }

-- a block with more rows
abbrev pub with_rows : Block → List Row → Block
with_rows b rows = record b { rows = b.rows ++ rows }

-- Rows of a block go on behind those of another one.
pub record GoesOn (held : Block) (tail : BlockBehind) (rows : Block) : Type 0 where
  pub kinds : held.kinds ≡ rows.kinds
  pub time_col : held.time_col ≡ rows.time_col
  pub goes_on : tail ≡ block_behind held

-- A block that the files held at every moment before grows by rows: it stays held at every moment, and behind the call whatever it
-- answers; after an Ok the files hold it with the rows, and the tail is behind these.
pub record GrowsHeld {T E : Type 0} (result : Result T E) (block : ℕ) (held : Block) (new : BlockBehind) (rows : List Row) (before after : Disk) : Type 0 where
  pub moments : LeavesOnly before after (HoldsBlock block held)
  pub stays : EachNow after (HoldsBlock block held)
  pub grown : IsHeld result block (with_rows held rows) after
  pub tail : OnOk result (new ≡ block_behind (with_rows held rows))

-- Rows are put behind those of a block. Each image of the call is one from before it in all files that aren't the block's.
pub record GrowsBlock {T E : Type 0} (result : Result T E) (block : ℕ) (old new : BlockBehind) (rows : Block) (before after : Disk) : Type 0 where
  pub elsewhere : Moves (SameBut (is_file_of block)) before after
  pub grows : (held : Block) → GoesOn held old rows → EachNow before (HoldsBlock block held) → GrowsHeld result block held new rows.rows before after

-- ---- what is read

-- What is read of two files without the rows of the column that they spell, of a kind and so many rows: what rows behind it go on with.
abbrev pub IsStoredTail : Result (Option Behind) IoFault → ColType → ℕ → List ℕ → List ℕ → Type 0
IsStoredTail result k rows main aux = (column : CellsOf) → column.kind ≡ k → length column.cells ≡ rows → SpellsColumn main aux column → IfOk result (λ t. t ≡ Some (behind column))

-- whether a file has fewer bytes than so many
abbrev pub IsShortTold : Result Bool IoFault → ℕ → List ℕ → Type 0
IsShortTold (Ok short) size bytes = (short ≡ true → length bytes < size) × (length bytes < 2 ^ 64)
IsShortTold (Err fault) size bytes = Unit {0}

-- What is read of the files of a column: what rows behind it go on with, whatever column of the part they spell; or they are damaged.
abbrev pub IsColumnTail : Result Behind LogFault → Schema → Part → ℕ → List ℕ → List ℕ → Type 0
IsColumnTail (Ok t) s p col main aux = (column : CellsOf) → column.kind ≡ kind_of s col → length column.cells ≡ p.rows → SpellsColumn main aux column → t ≡ behind column
IsColumnTail (Err (fault.Damaged file at)) s p col main aux = IsColumnLost s p col file at main aux
IsColumnTail (Err fault.Vol) s p col main aux = Unit {0}
IsColumnTail (Err fault.Memory) s p col main aux = Unit {0}

-- The files of a column of a part are damaged at a byte.
pub record IsTailLost (s : Schema) (p : Part) (file at : ℕ) (image : Image) : Type 0 where
  pub col : ℕ
  pub shown : col < p.cols
  pub lost : IsColumnLost s p col file at (image (column_file p.block col 0)) (image (column_file p.block col 1))

-- What is read of the files of a part's block: what rows behind it go on with, whatever block they hold that is the part's; or the
-- files of a column are damaged, and then they hold none.
abbrev pub IsTailRead : Result BlockBehind LogFault → Schema → Part → Image → Type 0
IsTailRead (Ok t) s p image = (b : Block) → HoldsBlock p.block b image → IsBlockOf s p b → t ≡ block_behind b
IsTailRead (Err (fault.Damaged file at)) s p image = IsTailLost s p file at image × HoldsNone s p image
IsTailRead (Err fault.Vol) s p image = Unit {0}
IsTailRead (Err fault.Memory) s p image = Unit {0}
