-- An entry read from its first field to its last, as `Rattle.qd_fields.specs.Layout` says of single fields. A text is none of
-- those before it. A cell names a text that was used before, or the next one. Where the last change is read, each text has
-- been used, and no byte is left: the first text that wasn't used is damaged, or else the first byte that is left.
use Rattle.std.specs.Prelude.{ℕ, ◌+◌, max, Bool, true, false, ◌&&◌, ◌==◌, nat_le, nat_lt, nat_eq, is_none, if◌then◌else◌, List, [], ◌∷◌, length, Option, Result, Ok, Err, slice_index_or}
use Rattle.std.specs.List.{find}
use Rattle.std.specs.Int.{w16, w32, w64, cast_signed}
use Rattle.qd_base.specs.declared.cell.Cell.{Cell}
use Rattle.qd_base.specs.declared.cell.Cell.TheVariants as cell
use Rattle.qd_base.specs.declared.op.Entry.{Entry}
use Rattle.qd_base.specs.declared.op.Op.{Op}
use Rattle.qd_base.specs.declared.op.Op.TheVariants as op
use Rattle.qd_base.specs.Dictionary.{id_in}
use Rattle.qd_base.specs.Rows.{Row}
use Rattle.qd_fields.specs.Layout.{Read, ◌>>=◌, kept, coded, items, each, byte_at, number_at, name_at, text_at, column_at, keys_at, schema_at}
use Rattle.qd_wal_entry.specs.declared.pieces.CellTag.{CellTag}
use Rattle.qd_wal_entry.specs.declared.pieces.CellTag.TheVariants as tag
use Rattle.qd_wal_entry.specs.declared.pieces.OpTag.{OpTag}
use Rattle.qd_wal_entry.specs.declared.pieces.OpTag.TheVariants as kind
use Rattle.qd_wal_entry.specs.declared.pieces.EntryCell.{EntryCell}
use Rattle.qd_wal_entry.specs.declared.pieces.EntryCell.TheVariants as stored
use Rattle.qd_wal_entry.specs.declared.pieces.OpHead.{OpHead}
use Rattle.qd_wal_entry.specs.declared.pieces.OpHead.TheVariants as head
use Rattle.qd_wal_entry.specs.Cursor.{Cursor, moved}

-- what is read at a place, and the place behind it
abbrev pub ReadOn : Type 0 → Type 0
ReadOn A = Result (A × Cursor) ℕ

-- ---- texts

-- a text that is none of those before it
unfoldable pub new_text : List (List ℕ) → List ℕ → Read (List ℕ)
new_text before bytes = kept (λ t. is_none (id_in before t)) bytes (text_at bytes)

unfoldable pub texts_at : List ℕ → Read (List (List ℕ))
texts_at bytes = number_at w32 bytes >>= λ count. items new_text count.0 [] count.1

-- ---- cells

abbrev pub code_of_cell : CellTag → ℕ
code_of_cell tag.Null = 0
code_of_cell tag.Long = 1
code_of_cell tag.False = 2
code_of_cell tag.True = 3
code_of_cell tag.Text = 4
code_of_cell tag.Time = 5

abbrev pub cell_of_code : ℕ → Option CellTag
cell_of_code code = find (λ t. code_of_cell t == code) (tag.Null ∷ tag.Long ∷ tag.False ∷ tag.True ∷ tag.Text ∷ tag.Time ∷ [])

-- a text that was used before, or the next one
abbrev pub may_be_id : Cursor → ℕ → Bool
may_be_id at id = nat_le id at.used && nat_lt id (length at.texts)

-- behind a cell that uses a text
abbrev pub used_at : Cursor → ℕ → List ℕ → Cursor
used_at at id rest = record { texts = at.texts; used = max at.used (id + 1); rest = rest }

-- what stands behind the code of a cell
abbrev pub cell_behind : Cursor → CellTag → List ℕ → ReadOn EntryCell
cell_behind at tag.Null rest = Ok (stored.Null, moved at rest)
cell_behind at tag.Long rest = number_at w64 rest >>= λ n. Ok (stored.Long (cast_signed w64 n.0), moved at n.1)
cell_behind at tag.False rest = Ok (stored.Bool false, moved at rest)
cell_behind at tag.True rest = Ok (stored.Bool true, moved at rest)
cell_behind at tag.Text rest = kept (may_be_id at) rest (number_at w32 rest) >>= λ id. Ok (stored.Text id.0, used_at at id.0 id.1)
cell_behind at tag.Time rest = number_at w64 rest >>= λ n. Ok (stored.Time n.0, moved at n.1)

-- a cell as it is stored, and as a cell of a row
unfoldable pub stored_at : Cursor → ReadOn EntryCell
stored_at at = coded cell_of_code at.rest (byte_at at.rest) >>= λ t. cell_behind at t.0 t.1

abbrev pub cell_of : List (List ℕ) → EntryCell → Cell
cell_of texts stored.Null = cell.Null
cell_of texts (stored.Long x) = cell.Long x
cell_of texts (stored.Bool b) = cell.Bool b
cell_of texts (stored.Text id) = cell.Text (slice_index_or texts id [])
cell_of texts (stored.Time t) = cell.Time t

unfoldable pub cell_at : Cursor → ReadOn Cell
cell_at at = stored_at at >>= λ c. Ok (cell_of at.texts c.0, c.1)

-- rows of so many cells
unfoldable pub row_at : ℕ → Cursor → ReadOn Row
row_at columns at = items (each cell_at) columns [] at

unfoldable pub rows_at : ℕ → ℕ → Cursor → ReadOn (List Row)
rows_at columns count at = items (each (row_at columns)) count [] at

-- ---- changes

abbrev pub code_of_op : OpTag → ℕ
code_of_op kind.Create = 1
code_of_op kind.AddColumn = 2
code_of_op kind.Insert = 3
code_of_op kind.SetKeys = 4

abbrev pub op_of_code : ℕ → Option OpTag
op_of_code code = find (λ t. code_of_op t == code) (kind.Create ∷ kind.AddColumn ∷ kind.Insert ∷ kind.SetKeys ∷ [])

-- so many rows of so many columns: none of both, or some
abbrev pub may_be_rows : ℕ → ℕ → Bool
may_be_rows columns rows = if nat_eq columns 0 then nat_eq rows 0 else nat_lt 0 rows

-- what stands behind the code of a change, in front of its cells
unfoldable pub create_at : Cursor → List ℕ → ReadOn OpHead
create_at at bytes = schema_at bytes >>= λ s. Ok (head.Create s.0, moved at s.1)

unfoldable pub add_at : Cursor → List ℕ → ReadOn OpHead
add_at at bytes = do
  table ← name_at bytes
  col ← column_at table.1
  Ok (head.AddColumn table.0 col.0, moved at col.1)

unfoldable pub insert_at : Cursor → List ℕ → ReadOn OpHead
insert_at at bytes = do
  table ← name_at bytes
  columns ← number_at w16 table.1
  rows ← kept (may_be_rows columns.0) columns.1 (number_at w32 columns.1)
  Ok (head.Insert table.0 columns.0 rows.0, moved at rows.1)

unfoldable pub set_keys_at : Cursor → List ℕ → ReadOn OpHead
set_keys_at at bytes = do
  table ← name_at bytes
  keys ← keys_at table.1
  Ok (head.SetKeys table.0 keys.0, moved at keys.1)

abbrev pub head_behind : Cursor → OpTag → List ℕ → ReadOn OpHead
head_behind at kind.Create rest = create_at at rest
head_behind at kind.AddColumn rest = add_at at rest
head_behind at kind.Insert rest = insert_at at rest
head_behind at kind.SetKeys rest = set_keys_at at rest

unfoldable pub head_at : Cursor → ReadOn OpHead
head_at at = coded op_of_code at.rest (byte_at at.rest) >>= λ t. head_behind at t.0 t.1

-- the cells of a change
abbrev pub op_behind : OpHead → Cursor → ReadOn Op
op_behind (head.Create schema) at = Ok (op.Create schema, at)
op_behind (head.AddColumn table col) at = Ok (op.AddColumn table col, at)
op_behind (head.Insert table columns rows) at = rows_at columns rows at >>= λ r. Ok (op.Insert table r.0, r.1)
op_behind (head.SetKeys table keys) at = Ok (op.SetKeys table keys, at)

unfoldable pub op_at : Cursor → ReadOn Op
op_at at = head_at at >>= λ h. op_behind h.0 h.1

-- ---- entries

-- the number of changes, and the place of the first
unfoldable pub open_at : List ℕ → ReadOn ℕ
open_at bytes = do
  texts ← texts_at bytes
  count ← number_at w32 texts.1
  Ok (count.0, record { texts = texts.0; used = 0; rest = count.1 })

-- the texts that were used are read again: the next one is damaged
unfoldable pub unused : List ℕ → ℕ → Result (Unit {0}) ℕ
unused bytes used = number_at w32 bytes >>= λ count. items new_text used [] count.1 >>= λ texts. Err (length texts.1)

-- the end of an entry
unfoldable pub closed : List ℕ → Cursor → Result (Unit {0}) ℕ
closed bytes at = if nat_lt at.used (length at.texts) then unused bytes at.used else (if nat_eq (length at.rest) 0 then Ok tt else Err (length at.rest))

unfoldable pub entry_from : List ℕ → Result Entry ℕ
entry_from bytes = do
  start ← open_at bytes
  ops ← items (each op_at) start.0 [] start.1
  end ← closed bytes ops.1
  Ok (record { ops = ops.0 })
