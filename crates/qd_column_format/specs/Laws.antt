-- The laws of stored columns.
use Rattle.std.specs.Prelude.{◌≡◌, ℕ, ◌+◌, ◌≤◌, List, ◌++◌, length, take, drop, All}
use Rattle.std.specs.List.{flat_map}
use Rattle.qd_base.specs.declared.limits.TheConstants.{MAX_TEXT_BYTES}
use Rattle.qd_base.specs.declared.schema.ColType.{ColType}
use Rattle.qd_column.specs.Cells.{CellsOf}
use Rattle.qd_column_format.specs.declared.encode.ColumnBytes.{ColumnBytes}
use Rattle.qd_column_format.specs.Spelling.{BeginsWith, SpellsColumn, main_of, aux_of, stored_text}
use Rattle.qd_column_format.specs.Damage.{IsTextDamage, IsDamage}
use Rattle.qd_column_format.specs.Added.{first_rows, IsAdded}

-- Bytes spell one column of a kind and a number of rows, and no other.
abbrev pub OneColumnIsSpelled : Type 0
OneColumnIsSpelled = (main aux : List ℕ) (a b : CellsOf) → a.kind ≡ b.kind → length a.cells ≡ length b.cells → SpellsColumn main aux a → SpellsColumn main aux b → a ≡ b

-- Bytes past the shown rows are of no account.
abbrev pub LaterBytesDoNotCount : Type 0
LaterBytesDoNotCount = (main aux more_main more_aux : List ℕ) (column : CellsOf) → SpellsColumn main aux column → SpellsColumn (main ++ more_main) (aux ++ more_aux) column

-- Bytes that spell a column spell its first rows.
abbrev pub FirstRowsAreSpelled : Type 0
FirstRowsAreSpelled = (main aux : List ℕ) (n : ℕ) (column : CellsOf) → SpellsColumn main aux column → SpellsColumn main aux (first_rows n column)

-- a file with some bytes written at a place
abbrev pub written_at : ℕ → List ℕ → List ℕ → List ℕ
written_at at bytes file = take at file ++ (bytes ++ drop (at + length bytes) file)

-- Where two files spell the first rows of a column, what the other rows add, written at its places, makes them spell all
-- rows.
abbrev pub AppendedRowsAreSpelled : Type 0
AppendedRowsAreSpelled = (main aux : List ℕ) (n : ℕ) (column : CellsOf) (bytes : ColumnBytes) → SpellsColumn (main_of column) (aux_of column) column → IsAdded n column bytes → SpellsColumn main aux (first_rows n column) → SpellsColumn (written_at bytes.main_at bytes.main main) (written_at bytes.aux_at bytes.aux aux) column

-- Damaged bytes have one place of damage.
abbrev pub DamageHasOnePlace : Type 0
DamageHasOnePlace = (k : ColType) (rows : ℕ) (main aux : List ℕ) (half at other_half other_at : ℕ) → IsDamage k rows main aux half at → IsDamage k rows main aux other_half other_at → (half ≡ other_half) × (at ≡ other_at)

-- Bytes spell one list of texts of a number, and no other.
abbrev pub OneDictionaryIsSpelled : Type 0
OneDictionaryIsSpelled = (bytes : List ℕ) (a b : List (List ℕ)) → length a ≡ length b → All (λ t. length t ≤ MAX_TEXT_BYTES) a → All (λ t. length t ≤ MAX_TEXT_BYTES) b → BeginsWith bytes (flat_map stored_text a) → BeginsWith bytes (flat_map stored_text b) → a ≡ b

-- A damaged dictionary has one place of damage.
abbrev pub DictionaryDamageHasOnePlace : Type 0
DictionaryDamageHasOnePlace = (count : ℕ) (bytes : List ℕ) (at other : ℕ) → IsTextDamage count bytes at → IsTextDamage count bytes other → at ≡ other
