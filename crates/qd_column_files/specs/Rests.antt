-- The rows of a part's block from one on, read from its files without those before.
use Rattle.std.specs.Prelude.{◌≡◌, ◌⊎◌, ℕ, ◌+◌, ◌-◌, ◌*◌, ◌^◌, ◌<◌, ◌≤◌, min, false, true, List, [], length, map, take, drop, All, Vec, Option, Some, Result, Ok, Err, IfOk, slice_index_or}
use Rattle.std.specs.List.{range_with_len}
use Rattle.std.specs.declared.alloc.Global.{Global}
use Rattle.qd_base.specs.Lawful.{HasKinds, Takes}
use Rattle.qd_base.specs.declared.part.Part.{Part}
use Rattle.qd_base.specs.declared.schema.ColType.{ColType}
use Rattle.qd_base.specs.declared.schema.ColType.TheVariants as kind
use Rattle.qd_base.specs.declared.schema.Schema.{Schema}
use Rattle.qd_block.specs.Blocks.{Block, block_of, column_in, kinds_in}
use Rattle.qd_column.specs.Cells.{CellsOf}
use Rattle.qd_column_format.specs.Fields.{field_size}
use Rattle.qd_column_format.specs.Rests.{rows_from, texts_from, IsHeldRest}
use Rattle.qd_column_format.specs.Spelling.{SpellsColumn}
use Rattle.qd_durable.specs.declared.fault.LogFault.{LogFault}
use Rattle.qd_durable.specs.declared.fault.LogFault.TheVariants as fault
use Rattle.qd_io.specs.declared.fault.IoFault.{IoFault}
use Rattle.qd_scan.specs.Sources.{IsBlockOf}
use Rattle.qd_volume.specs.Disk.{Image}
use Rattle.qd_column_files.specs.Columns.{IsColumnOf, is_designated, kind_of}
use Rattle.qd_column_files.specs.Damage.{HoldsNone, IsBlockDamaged}
use Rattle.qd_column_files.specs.Files.{HoldsBlock, column_file}

-- the rows of a block from one on
abbrev pub rest_of : ℕ → Block → Block
rest_of skip b = record b { rows = drop skip b.rows }

-- The files hold a block that is the part's, and these are its designated times.
pub record HoldsTimed (s : Schema) (p : Part) (times : CellsOf) (image : Image) (b : Block) : Type 0 where
  pub held : HoldsBlock p.block b image
  pub is : IsBlockOf s p b
  pub timed : column_in b s.time_col ≡ times

-- What is read beside the designated times of a part: the rows from one on of the block that its files hold; or where they
-- are damaged, and then they hold none that is the part's.
abbrev pub IsRestRead : Result Block LogFault → Schema → Part → CellsOf → ℕ → Image → Type 0
IsRestRead (Ok rest) s p times skip image = (b : Block) → HoldsTimed s p times image b → rest ≡ rest_of skip b
IsRestRead (Err (fault.Damaged file at)) s p times skip image = IsBlockDamaged s p file at image × HoldsNone s p image
IsRestRead (Err fault.Vol) s p times skip image = Unit {0}
IsRestRead (Err fault.Memory) s p times skip image = Unit {0}

-- Rows as a part of a table has them, from one of its rows on, with these of its designated times.
pub record IsRestOf (s : Schema) (p : Part) (times : CellsOf) (skip : ℕ) (b : Block) : Type 0 where
  pub rows : skip + length b.rows ≡ p.rows
  pub kinds : b.kinds ≡ take p.cols (kinds_in s.cols)
  pub time_col : b.time_col ≡ s.time_col
  pub fit : All (HasKinds (take p.cols s.cols)) b.rows
  pub timed : column_in b s.time_col ≡ rows_from skip times

-- ---- a column

-- cells of a table's column, as many as a part has from one of its rows on
pub record IsFitRest (s : Schema) (p : Part) (skip col : ℕ) (column : CellsOf) : Type 0 where
  pub kind : column.kind ≡ kind_of s col
  pub rows : skip + length column.cells ≡ p.rows
  pub takes : All (Takes (kind_of s col)) column.cells

-- the same, where the designated times are known
pub record IsTimedRest (s : Schema) (p : Part) (times : CellsOf) (skip col : ℕ) (column : CellsOf) : Type 0 where
  pub fit : IsFitRest s p skip col column
  pub timed : is_designated s col ≡ true → column ≡ rows_from skip times

-- each of the first columns
pub record AreTimedRests (s : Schema) (p : Part) (times : CellsOf) (skip : ℕ) (columns : List CellsOf) : Type 0 where
  pub each : (k : ℕ) (d : CellsOf) → k < length columns → IsTimedRest s p times skip k (slice_index_or columns k d)

-- what is read of a column that the part asks for and its files spell
abbrev pub IsColumnRest : Result (Option CellsOf) IoFault → Schema → Part → ℕ → ℕ → List ℕ → List ℕ → Type 0
IsColumnRest result s p skip col main aux = (column : CellsOf) → IsColumnOf s p col column → SpellsColumn main aux column → IfOk result (λ rest. rest ≡ Some (rows_from skip column))

-- what is read of a column of a block that the files hold
abbrev pub IsRestIn : Result (Option CellsOf) IoFault → Schema → Part → CellsOf → ℕ → ℕ → Image → Type 0
IsRestIn result s p times skip col image = (b : Block) → HoldsTimed s p times image b → IfOk result (λ rest. rest ≡ Some (rows_from skip (column_in b col)))

-- the rows of the first columns of a block
abbrev pub rests_in : ℕ → ℕ → Block → List CellsOf
rests_in skip cols b = map (λ col. rows_from skip (column_in b col)) (range_with_len 0 cols)

-- what is read of all of them
abbrev pub AreRestsIn : Result (Option (List CellsOf)) IoFault → Schema → Part → CellsOf → ℕ → Image → Type 0
AreRestsIn result s p times skip image = (b : Block) → HoldsTimed s p times image b → IfOk result (λ rests. rests ≡ Some (rests_in skip p.cols b))

-- ---- what reads gave

-- where what is read of the second file begins in it
abbrev pub aux_place : ColType → ℕ → ℕ
aux_place kind.Varchar start = start
aux_place _ start = 0

-- bytes of the second file were given by a read of it from there on, or none were taken of it
abbrev pub IsAuxRestGiven : (ℕ → ℕ → List ℕ → Type 0) → ℕ → ColType → ℕ → List ℕ → Type 0
IsAuxRestGiven gives file k start aux = (aux ≡ []) ⊎ gives file (aux_place k start) aux

-- The rows of a column from one on are held by bytes that reads of its files gave: of the main one from that row's number on,
-- or from the last place that a read may name.
pub record IsRestGiven (gives : ℕ → ℕ → List ℕ → Type 0) (block col skip : ℕ) (rest : CellsOf) : Type 0 where
  pub start : ℕ
  pub main : List ℕ
  pub aux : List ℕ
  pub main_given : gives (column_file block col 0) (min (skip * field_size rest.kind) (2 ^ 64 - 1)) main
  pub aux_given : IsAuxRestGiven gives (column_file block col 1) rest.kind start aux
  pub held : IsHeldRest start main aux rest

-- each of the first columns of a table that has rows, but for the designated times
abbrev pub AreRestsGiven : (ℕ → ℕ → List ℕ → Type 0) → Schema → ℕ → ℕ → List CellsOf → Type 0
AreRestsGiven gives s block skip columns = (k : ℕ) (d : CellsOf) → k < length columns → is_designated s k ≡ false → 0 < length (slice_index_or columns k d).cells → IsRestGiven gives block k skip (slice_index_or columns k d)

-- the rows of a part from one on, each of whose columns but the designated times was given
pub record IsGivenRest (gives : ℕ → ℕ → List ℕ → Type 0) (s : Schema) (p : Part) (skip : ℕ) (b : Block) : Type 0 where
  pub columns : List CellsOf
  pub each : AreRestsGiven gives s p.block skip columns
  pub made : b ≡ block_of (p.rows - skip) s.time_col columns

-- ---- bytes

-- bytes of a file from a place on, as far as they are there
abbrev pub IsPartRead : Result (Vec ℕ Global) IoFault → ℕ → ℕ → List ℕ → Type 0
IsPartRead (Ok part) at most bytes = (part.items ≡ take most (drop at bytes)) × (length bytes < 2 ^ 64)
IsPartRead (Err fault) at most bytes = Unit {0}

-- where the texts of a VARCHAR column's rows before one end, as its main file says
abbrev pub IsStartRead : Result ℕ IoFault → ColType → ℕ → List ℕ → Type 0
IsStartRead result k skip main = (aux : List ℕ) (column : CellsOf) → column.kind ≡ k → skip ≤ length column.cells → length main < 2 ^ 64 → SpellsColumn main aux column → IfOk result (λ start. k ≡ kind.Varchar → start ≡ texts_from skip column)

-- the second file from where the rows from one on need it; no bytes for kinds that have none
abbrev pub aux_from : ColType → ℕ → List ℕ → List ℕ
aux_from kind.Symbol start aux = aux
aux_from kind.Varchar start aux = drop start aux
aux_from _ start aux = []

abbrev pub IsAuxRestRead : Result (Vec ℕ Global) IoFault → ColType → ℕ → List ℕ → Type 0
IsAuxRestRead (Ok bytes) k start aux = bytes.items ≡ aux_from k start aux
IsAuxRestRead (Err fault) k start aux = Unit {0}
