-- What is read of the files of a part's block.
use Rattle.std.specs.Prelude.{◌≡◌, ◌⊎◌, ℕ, ◌^◌, ◌<◌, List, [], length, take, All, Vec, Result, Ok, Err, slice_index_or}
use Rattle.std.specs.declared.alloc.Global.{Global}
use Rattle.qd_base.specs.Lawful.{Takes}
use Rattle.qd_base.specs.declared.part.Part.{Part}
use Rattle.qd_base.specs.declared.schema.ColType.{ColType}
use Rattle.qd_base.specs.declared.schema.ColType.TheVariants as kind
use Rattle.qd_base.specs.declared.schema.Schema.{Schema}
use Rattle.qd_block.specs.Blocks.{Block, block_of}
use Rattle.qd_column.specs.Cells.{CellsOf}
use Rattle.qd_durable.specs.declared.fault.LogFault.{LogFault}
use Rattle.qd_durable.specs.declared.fault.LogFault.TheVariants as fault
use Rattle.qd_io.specs.declared.fault.IoFault.{IoFault}
use Rattle.qd_scan.specs.Sources.{IsBlockOf}
use Rattle.qd_column_format.specs.Spelling.{SpellsColumn}
use Rattle.qd_volume.specs.Disk.{Image}
use Rattle.qd_column_files.specs.Calls.{HoldsColumn}
use Rattle.qd_column_files.specs.Columns.{IsColumnOf, kind_of}
use Rattle.qd_column_files.specs.Damage.{HoldsNone, IsBlockDamaged, IsColumnDamage}
use Rattle.qd_column_files.specs.Files.{HoldsBlock, column_file}

-- What is read: the part's block, which the files hold, or where they are damaged, and then they hold none that is
-- the part's.
abbrev pub IsBlockRead : Result Block LogFault → Schema → Part → Image → Type 0
IsBlockRead (Ok b) s p image = HoldsBlock p.block b image × IsBlockOf s p b
IsBlockRead (Err (fault.Damaged file at)) s p image = IsBlockDamaged s p file at image × HoldsNone s p image
IsBlockRead (Err fault.Vol) s p image = Unit {0}
IsBlockRead (Err fault.Memory) s p image = Unit {0}

-- A column that the part asks for isn't spelled: its files are damaged at a byte.
pub record IsColumnLost (s : Schema) (p : Part) (col file at : ℕ) (main aux : List ℕ) : Type 0 where
  pub half : ℕ
  pub in_file : file ≡ column_file p.block col half
  pub damaged : IsColumnDamage s p col main aux half at
  pub none : (column : CellsOf) → IsColumnOf s p col column → SpellsColumn main aux column → ⊥

-- what is read of the bytes of a column's files: the column, which they spell, or where they are damaged
abbrev pub IsColumnRead : Result CellsOf LogFault → Schema → Part → ℕ → List ℕ → List ℕ → Type 0
IsColumnRead (Ok column) s p col main aux = SpellsColumn main aux column
IsColumnRead (Err (fault.Damaged file at)) s p col main aux = IsColumnLost s p col file at main aux
IsColumnRead (Err fault.Vol) s p col main aux = Unit {0}
IsColumnRead (Err fault.Memory) s p col main aux = Unit {0}

-- a column whose cells fit the part, and what the table's column takes
pub record IsFitColumn (s : Schema) (p : Part) (col : ℕ) (column : CellsOf) : Type 0 where
  pub is : IsColumnOf s p col column
  pub takes : All (Takes (kind_of s col)) column.cells

-- the bytes of a file were given by a read of it from its start, or none were taken of it
abbrev pub IsAuxGiven : (ℕ → ℕ → List ℕ → Type 0) → ℕ → List ℕ → Type 0
IsAuxGiven gives file aux = (aux ≡ []) ⊎ gives file 0 aux

-- A column is spelled by bytes that reads of its files gave. Which bytes a read may have given is what a volume says, also one that
-- tells nothing of what it holds.
pub record IsColumnGiven (gives : ℕ → ℕ → List ℕ → Type 0) (block col : ℕ) (column : CellsOf) : Type 0 where
  pub main : List ℕ
  pub aux : List ℕ
  pub main_given : gives (column_file block col 0) 0 main
  pub aux_given : IsAuxGiven gives (column_file block col 1) aux
  pub spelled : SpellsColumn main aux column

-- each of the first columns of a block
abbrev pub AreGiven : (ℕ → ℕ → List ℕ → Type 0) → ℕ → List CellsOf → Type 0
AreGiven gives block columns = (k : ℕ) (d : CellsOf) → k < length columns → IsColumnGiven gives block k (slice_index_or columns k d)

-- the block of a part, each of whose columns was given
pub record IsGiven (gives : ℕ → ℕ → List ℕ → Type 0) (s : Schema) (p : Part) (b : Block) : Type 0 where
  pub columns : List CellsOf
  pub each : AreGiven gives p.block columns
  pub made : b ≡ block_of p.rows s.time_col columns

-- the first columns of a part
pub record AreColumnsOf (s : Schema) (p : Part) (columns : List CellsOf) : Type 0 where
  pub each : (k : ℕ) (d : CellsOf) → k < length columns → IsFitColumn s p k (slice_index_or columns k d)

-- an image holds the first columns of a block
abbrev pub HoldsColumns : ℕ → List CellsOf → Image → Type 0
HoldsColumns block columns image = (k : ℕ) (d : CellsOf) → k < length columns → HoldsColumn block k (slice_index_or columns k d) image

-- the first bytes of a file, as far as they are there
abbrev pub IsFrontRead : Result (Vec ℕ Global) IoFault → ℕ → List ℕ → Type 0
IsFrontRead (Ok front) most bytes = (front.items ≡ take most bytes) × (length bytes < 2 ^ 64)
IsFrontRead (Err fault) most bytes = Unit {0}

-- the second file of a column of a kind that has one; no bytes for the others
abbrev pub aux_read : ColType → List ℕ → List ℕ
aux_read kind.Symbol aux = aux
aux_read kind.Varchar aux = aux
aux_read _ aux = []

abbrev pub IsAuxRead : Result (Vec ℕ Global) IoFault → ColType → List ℕ → Type 0
IsAuxRead (Ok bytes) k aux = bytes.items ≡ aux_read k aux
IsAuxRead (Err fault) k aux = Unit {0}
