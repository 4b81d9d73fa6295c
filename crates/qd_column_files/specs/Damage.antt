-- Where the files of a part's block are damaged: in the first column that they don't spell, or whose times aren't the
-- part's. The place is the first byte of the first field that breaks the rules, or where bytes are missing the length
-- of the file.
use Rattle.std.specs.Prelude.{◌≡◌, ◌⊎◌, ℕ, ◌-◌, ◌*◌, ◌<◌, Bool, true, false, List, length}
use Rattle.qd_base.specs.declared.cell.Cell.{Cell}
use Rattle.qd_base.specs.declared.part.Part.{Part}
use Rattle.qd_base.specs.declared.schema.Schema.{Schema}
use Rattle.qd_block.specs.Blocks.{Block, IsWhole}
use Rattle.qd_column.specs.Cells.{CellsOf}
use Rattle.qd_scan.specs.Sources.{IsBlockOf}
use Rattle.qd_column_format.specs.Damage.{IsDamage}
use Rattle.qd_column_format.specs.Spelling.{SpellsColumn}
use Rattle.qd_volume.specs.Disk.{Image}
use Rattle.qd_column_files.specs.Calls.{HoldsColumn}
use Rattle.qd_column_files.specs.Columns.{AreTimely, IsColumnOf, IsUntimelyAt, is_designated, kind_of, time_at}
use Rattle.qd_column_files.specs.Files.{HoldsBlock, column_file}

-- the first row whose time breaks the rules of its column
pub record IsFirstUntimely (designated : Bool) (cells : List Cell) (row : ℕ) : Type 0 where
  pub there : row < length cells
  pub untimely : IsUntimelyAt designated cells row
  pub before : (i : ℕ) → i < row → IsUntimelyAt designated cells i → ⊥

-- the first designated time isn't the part's first one, or the last isn't its last
abbrev pub IsOtherEnd : Part → List Cell → ℕ → Type 0
IsOtherEnd p cells row = ((row ≡ 0) × (time_at cells 0 ≡ p.lo → ⊥)) ⊎ ((row ≡ p.rows - 1) × (time_at cells 0 ≡ p.lo) × (time_at cells (p.rows - 1) ≡ p.hi → ⊥))

-- the row whose time isn't as the part asks: the first that breaks the rules of its column, and where none does, an end
abbrev pub IsMistimedAt : Bool → Part → List Cell → ℕ → Type 0
IsMistimedAt false p cells row = IsFirstUntimely false cells row
IsMistimedAt true p cells row = IsFirstUntimely true cells row ⊎ (AreTimely true cells × IsOtherEnd p cells row)

-- The files of a column spell it, and the time of a row isn't as the part asks. The place is the row's field.
pub record IsTimeDamage (s : Schema) (p : Part) (col : ℕ) (main aux : List ℕ) (half at : ℕ) : Type 0 where
  pub column : CellsOf
  pub kind : column.kind ≡ kind_of s col
  pub rows : length column.cells ≡ p.rows
  pub spelled : SpellsColumn main aux column
  pub row : ℕ
  pub mistimed : IsMistimedAt (is_designated s col) p column.cells row
  pub in_main : half ≡ 0
  pub place : at ≡ 8 * row

-- the files of a column are damaged at a place of a half
abbrev pub IsColumnDamage : Schema → Part → ℕ → List ℕ → List ℕ → ℕ → ℕ → Type 0
IsColumnDamage s p col main aux half at = IsDamage (kind_of s col) p.rows main aux half at ⊎ IsTimeDamage s p col main aux half at

-- the files of a column spell it as the part asks
abbrev pub IsSpelledAs : Schema → Part → ℕ → Image → CellsOf → Type 0
IsSpelledAs s p col image column = IsColumnOf s p col column × HoldsColumn p.block col column image

-- The files of the columns of a part's block are damaged at a byte of a file, and not in the columns before.
pub record IsBlockDamaged (s : Schema) (p : Part) (file at : ℕ) (image : Image) : Type 0 where
  pub col : ℕ
  pub shown : col < p.cols
  pub before : (k : ℕ) → k < col → (column : CellsOf) × IsSpelledAs s p k image column
  pub half : ℕ
  pub in_file : file ≡ column_file p.block col half
  pub damaged : IsColumnDamage s p col (image (column_file p.block col 0)) (image (column_file p.block col 1)) half at

-- the files hold no block that is the part's
abbrev pub HoldsNone : Schema → Part → Image → Type 0
HoldsNone s p image = (b : Block) → HoldsBlock p.block b image → IsBlockOf s p b → IsWhole b → ⊥
