-- Stored columns, format 1: what the two files of a column hold for its cells. Both hold whole numbers, the lowest byte
-- first.
--
-- LONG: 8 bytes a row, the least number for NULL. TIMESTAMP: 8 bytes, all of them 255 for NULL. BOOLEAN: one byte, 0 or 1.
-- SYMBOL: 8 bytes, the id of the row's text, all of them 255 for NULL; the second file holds the texts, each behind its
-- length in two bytes, in the order in which they first appear. VARCHAR: 8 bytes, twice the place behind the row's text
-- in the second file, and 1 more for NULL; the second file holds the bytes of all texts.
use Rattle.std.specs.Prelude.{◌≡◌, ℕ, ◌^◌, ◌<◌, ◌≤◌, ◌<ℤ◌, ◌≤ℤ◌, List, [], ◌++◌, length, All}
use Rattle.std.specs.List.{flat_map}
use Rattle.byteorder.specs.Endian.{little_bytes}
use Rattle.qd_base.specs.declared.cell.Cell.{Cell}
use Rattle.qd_base.specs.declared.cell.Cell.TheVariants as cell
use Rattle.qd_base.specs.declared.limits.TheConstants.{MAX_LONG, MAX_TEXT_BYTES, NULL_LONG, NULL_TIME}
use Rattle.qd_base.specs.declared.schema.ColType.{ColType}
use Rattle.qd_base.specs.declared.schema.ColType.TheVariants as kind
use Rattle.qd_column.specs.Cells.{CellsOf}
use Rattle.qd_column.specs.Symbols.{texts_in}
use Rattle.qd_column_format.specs.Fields.{field_size, fields_of, bytes_of_fields}

-- a text behind its length
abbrev pub stored_text : List ℕ → List ℕ
stored_text t = little_bytes 2 (length t) ++ t

-- the bytes of a cell's text
abbrev pub text_bytes : Cell → List ℕ
text_bytes (cell.Text t) = t
text_bytes _ = []

-- what the main file holds for cells
abbrev pub main_of : CellsOf → List ℕ
main_of column = bytes_of_fields column.kind (fields_of column.kind column.cells)

-- what the second file holds for cells
abbrev pub aux_of_kind : ColType → List Cell → List ℕ
aux_of_kind kind.Symbol cells = flat_map stored_text (texts_in cells)
aux_of_kind kind.Varchar cells = flat_map text_bytes cells
aux_of_kind _ cells = []

abbrev pub aux_of : CellsOf → List ℕ
aux_of column = aux_of_kind column.kind column.cells

-- Cells that can be stored in a column: of its kind, and none that is spelled as NULL. A stored moment may be any number
-- but the one that stands for NULL.
abbrev pub IsStorable : ColType → Cell → Type 0
IsStorable kind.Long cell.Null = Unit {0}
IsStorable kind.Long (cell.Long x) = (NULL_LONG <ℤ x) × (x ≤ℤ MAX_LONG)
IsStorable kind.Bool (cell.Bool b) = Unit {0}
IsStorable kind.Symbol cell.Null = Unit {0}
IsStorable kind.Symbol (cell.Text t) = length t ≤ MAX_TEXT_BYTES
IsStorable kind.Varchar cell.Null = Unit {0}
IsStorable kind.Varchar (cell.Text t) = length t ≤ MAX_TEXT_BYTES
IsStorable kind.Time cell.Null = Unit {0}
IsStorable kind.Time (cell.Time t) = t < NULL_TIME
IsStorable _ _ = ⊥

-- bytes begin with others
abbrev pub BeginsWith : List ℕ → List ℕ → Type 0
BeginsWith bytes front = (rest : List ℕ) × (bytes ≡ front ++ rest)

-- Bytes of the two files spell a column: they begin with what stands for its cells. What follows is of no account.
pub record SpellsColumn (main aux : List ℕ) (column : CellsOf) : Type 0 where
  pub cells : All (IsStorable column.kind) column.cells
  pub main_bytes : BeginsWith main (main_of column)
  pub aux_bytes : BeginsWith aux (aux_of column)
  -- each row's number has room in its bytes, and places in a file are numbers of 63 bits
  pub fit : All (λ n. n < 256 ^ field_size column.kind) (fields_of column.kind column.cells)
  pub few : length column.cells < 2 ^ 63
