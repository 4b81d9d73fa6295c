-- What an answer of reading a column says.
use Rattle.std.specs.Prelude.{◌≡◌, ℕ, ◌+◌, ◌*◌, ◌^◌, ◌<◌, ◌≤◌, List, length, All}
use Rattle.std.specs.List.{flat_map}
use Rattle.qd_base.specs.declared.limits.TheConstants.{MAX_TEXT_BYTES}
use Rattle.qd_base.specs.Dictionary.{AreDistinct}
use Rattle.qd_base.specs.declared.schema.ColType.{ColType}
use Rattle.qd_column.specs.Cells.{CellsOf}
use Rattle.qd_column_format.specs.declared.fault.ColumnFault.{ColumnFault}
use Rattle.qd_column_format.specs.declared.fault.ColumnFault.TheVariants as fault
use Rattle.qd_column_format.specs.declared.fault.LoadFault.{LoadFault}
use Rattle.qd_column_format.specs.declared.fault.LoadFault.TheVariants as load_fault
use Rattle.qd_column_format.specs.Damage.{IsDamage, IsTextDamage}
use Rattle.qd_column_format.specs.Fields.{field_size, bytes_of_fields}
use Rattle.qd_column_format.specs.Spelling.{stored_text, BeginsWith, SpellsColumn}

-- a column of this kind and this many rows that the bytes spell
pub record IsReadColumn (k : ColType) (n : ℕ) (main aux : List ℕ) (column : CellsOf) : Type 0 where
  pub kind : column.kind ≡ k
  pub rows : length column.cells ≡ n
  pub spelled : SpellsColumn main aux column

-- why there is none
abbrev pub IsFault : ColType → ℕ → List ℕ → List ℕ → ColumnFault → Type 0
IsFault k rows main aux fault.Memory = Unit {0}
IsFault k rows main aux (fault.Damaged half at) = IsDamage k rows main aux half at

-- why there is no dictionary of this many texts
abbrev pub IsLoadFault : ℕ → List ℕ → LoadFault → Type 0
IsLoadFault count bytes load_fault.Memory = Unit {0}
IsLoadFault count bytes (load_fault.Damaged at) = IsTextDamage count bytes at

-- The numbers of the first rows, those that the main file has whole: all of them, or as many as it has bytes for.
pub record AreThere (k : ColType) (rows : ℕ) (main fields : List ℕ) : Type 0 where
  pub few : length fields ≤ rows
  pub small : length fields < 2 ^ 61
  pub cut : length fields < rows → length main < length fields * field_size k + field_size k
  pub fit : All (λ n. n < 256 ^ field_size k) fields
  pub begins : BeginsWith main (bytes_of_fields k fields)

-- no column of this kind and this many rows is spelled, unless memory was wanting
abbrev pub IsUnspelled : ColType → ℕ → List ℕ → List ℕ → ColumnFault → Type 0
IsUnspelled k rows main aux fault.Memory = Unit {0}
IsUnspelled k rows main aux (fault.Damaged half at) = (column : CellsOf) → column.kind ≡ k → length column.cells ≡ rows → SpellsColumn main aux column → ⊥

-- no dictionary of this many texts is spelled, unless memory was wanting
abbrev pub AreUnspelled : ℕ → List ℕ → LoadFault → Type 0
AreUnspelled count bytes load_fault.Memory = Unit {0}
AreUnspelled count bytes (load_fault.Damaged at) = (texts : List (List ℕ)) → length texts ≡ count → AreDistinct texts → All (λ t. length t ≤ MAX_TEXT_BYTES) texts → BeginsWith bytes (flat_map stored_text texts) → ⊥
