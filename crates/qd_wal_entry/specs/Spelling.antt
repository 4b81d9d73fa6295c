-- Entries of the write-ahead log: which transactions have a spelling, and the bytes of each. This layout is the project's
-- own. Whole numbers have their lowest byte first.
--
-- Number of texts (4), the texts, number of changes (4), and the changes. The texts are those of all cells, each of them
-- once, in order of first use; each is its length (2) and its bytes. A change: 1 and the schema of a new table; or 2, name of
-- the table and the new column; or 3, name of the table, number of columns (2), number of rows (4), and the cells row by
-- row; or 4, name of the table, number of its new keys (2), and the keys (2 each). A cell: 0 for NULL; 1 and a number in two's complement (8); 2 for false; 3 for true; 4 and the position of its text
-- among the texts (4); 5 and microseconds (8). A row has a cell at least, and no rows have no columns.
use Rattle.std.specs.Prelude.{◌≡◌, ℕ, ◌^◌, ◌<◌, ◌≤◌, true, false, List, [], ◌∷◌, ◌++◌, length, fold, All, FitsSigned}
use Rattle.std.specs.List.{flat_map}
use Rattle.std.specs.Int.{w64, cast_unsigned}
use Rattle.qd_base.specs.declared.cell.Cell.{Cell}
use Rattle.qd_base.specs.declared.cell.Cell.TheVariants as cell
use Rattle.qd_base.specs.declared.limits.TheConstants.{MAX_TEXT_BYTES}
use Rattle.qd_base.specs.declared.op.Entry.{Entry}
use Rattle.qd_base.specs.declared.op.Op.{Op}
use Rattle.qd_base.specs.declared.op.Op.TheVariants as op
use Rattle.qd_base.specs.Dictionary.{id_for, with_text}
use Rattle.qd_base.specs.Rows.{Row}
use Rattle.qd_fields.specs.Spelling.{u16_bytes, u32_bytes, u64_bytes, name_bytes, text_bytes, column_bytes, keys_bytes, schema_bytes, FitsName, FitsColumn, FitsKeys, FitsSchema}

-- ---- the texts

-- the text of a cell, where it has one; those of a row, and of a change
abbrev pub text_of : Cell → List (List ℕ)
text_of cell.Null = []
text_of (cell.Long x) = []
text_of (cell.Bool b) = []
text_of (cell.Text t) = t ∷ []
text_of (cell.Time t) = []

abbrev pub texts_of_row : Row → List (List ℕ)
texts_of_row row = flat_map text_of row

abbrev pub texts_of_op : Op → List (List ℕ)
texts_of_op (op.Create schema) = []
texts_of_op (op.AddColumn table col) = []
texts_of_op (op.Insert table rows) = flat_map texts_of_row rows
texts_of_op (op.SetKeys table keys) = []

-- each text once, in order of first use, behind those that are there
abbrev pub with_texts : List (List ℕ) → List (List ℕ) → List (List ℕ)
with_texts known texts = fold with_text known texts

abbrev pub dictionary_of : List Op → List (List ℕ)
dictionary_of ops = with_texts [] (flat_map texts_of_op ops)

-- ---- which transactions have a spelling

-- how many columns rows have: as many as the first
abbrev pub width_of : List Row → ℕ
width_of [] = 0
width_of (row ∷ rows) = length row

-- a cell that its field can hold
abbrev pub FitsCell : Cell → Type 0
FitsCell cell.Null = Unit {0}
FitsCell (cell.Long x) = FitsSigned w64 x
FitsCell (cell.Bool b) = Unit {0}
FitsCell (cell.Text t) = length t ≤ MAX_TEXT_BYTES
FitsCell (cell.Time t) = t < 2 ^ 64

pub record FitsRow (columns : ℕ) (row : Row) : Type 0 where
  pub cells : All FitsCell row
  pub width : length row ≡ columns

-- rows of one width, which is 0 where there are none
pub record FitsRows (columns : ℕ) (rows : List Row) : Type 0 where
  pub each : All (FitsRow columns) rows
  pub few : length rows < 2 ^ 32
  pub narrow : columns < 2 ^ 16
  pub some : columns ≡ 0 → length rows ≡ 0
  pub none : length rows ≡ 0 → columns ≡ 0

abbrev pub FitsOp : Op → Type 0
FitsOp (op.Create schema) = FitsSchema schema
FitsOp (op.AddColumn table col) = FitsName table × FitsColumn col
FitsOp (op.Insert table rows) = FitsName table × FitsRows (width_of rows) rows
FitsOp (op.SetKeys table keys) = FitsName table × FitsKeys keys

pub record IsEntry (e : Entry) : Type 0 where
  pub each : All FitsOp e.ops
  pub few : length e.ops < 2 ^ 32
  pub few_texts : length (dictionary_of e.ops) < 2 ^ 32

-- ---- the bytes

-- a cell, by the texts of the entry
abbrev pub cell_bytes : List (List ℕ) → Cell → List ℕ
cell_bytes texts cell.Null = 0 ∷ []
cell_bytes texts (cell.Long x) = 1 ∷ u64_bytes (cast_unsigned w64 x)
cell_bytes texts (cell.Bool false) = 2 ∷ []
cell_bytes texts (cell.Bool true) = 3 ∷ []
cell_bytes texts (cell.Text t) = 4 ∷ u32_bytes (id_for texts t)
cell_bytes texts (cell.Time t) = 5 ∷ u64_bytes t

abbrev pub row_bytes : List (List ℕ) → Row → List ℕ
row_bytes texts row = flat_map (cell_bytes texts) row

abbrev pub rows_bytes : List (List ℕ) → List Row → List ℕ
rows_bytes texts rows = flat_map (row_bytes texts) rows

unfoldable pub op_bytes : List (List ℕ) → Op → List ℕ
op_bytes texts (op.Create schema) = 1 ∷ schema_bytes schema
op_bytes texts (op.AddColumn table col) = 2 ∷ (name_bytes table ++ column_bytes col)
op_bytes texts (op.Insert table rows) = 3 ∷ (name_bytes table ++ (u16_bytes (width_of rows) ++ (u32_bytes (length rows) ++ rows_bytes texts rows)))
op_bytes texts (op.SetKeys table keys) = 4 ∷ (name_bytes table ++ keys_bytes keys)

unfoldable pub entry_bytes : Entry → List ℕ
entry_bytes e =
    let texts = dictionary_of e.ops in
    u32_bytes (length texts) ++ (flat_map text_bytes texts ++ (u32_bytes (length e.ops) ++ flat_map (op_bytes texts) e.ops))

-- Bytes spell a transaction.
pub record SpellsEntry (bytes : List ℕ) (e : Entry) : Type 0 where
  pub sound : IsEntry e
  pub whole : bytes ≡ entry_bytes e
