-- An entry that is written change by change and cell by cell: which it is so far, and what the writer holds of it.
use Rattle.std.specs.Prelude.{◌≡◌, ◌⊎◌, ℕ, ◌+◌, ◌^◌, ◌<◌, Bool, true, false, List, [], ◌∷◌, ◌++◌, length, All}
use Rattle.std.specs.List.{flat_map}
use Rattle.qd_base.specs.declared.cell.Cell.{Cell}
use Rattle.qd_base.specs.declared.op.Entry.{Entry}
use Rattle.qd_base.specs.declared.op.Op.{Op}
use Rattle.qd_base.specs.declared.op.Op.TheVariants as op
use Rattle.qd_base.specs.Rows.{Row}
use Rattle.qd_fields.specs.Spelling.{FitsName}
use Rattle.qd_wal_entry.specs.Spelling.{texts_of_row, texts_of_op, with_texts, width_of, row_bytes, rows_bytes, op_bytes, FitsCell, FitsRow, FitsOp}
use Rattle.qd_wal_entry.specs.Writing.{Draft}

-- ---- which entry it is so far

-- The changes that are complete; whether an insertion was begun; and its table, its rows, and the cells of a further one.
pub record SoFar : Type 0 where
  pub ops : List Op
  pub is_open : Bool
  pub table : List ℕ
  pub rows : List Row
  pub row : Row

abbrev pub nothing : SoFar
nothing = record { ops = []; is_open = false; table = []; rows = []; row = [] }

-- the entry, where no insertion is begun
abbrev pub entry_of : SoFar → Entry
entry_of e = record { ops = e.ops }

-- one more change
abbrev pub with_op : Op → SoFar → SoFar
with_op o e = record e { ops = e.ops ++ o ∷ [] }

-- an insertion is begun, gets a cell, has a row ended, and is ended
abbrev pub begun : List ℕ → SoFar → SoFar
begun table e = record e { is_open = true; table = table }

abbrev pub with_cell : Cell → SoFar → SoFar
with_cell c e = record e { row = e.row ++ c ∷ [] }

abbrev pub with_row : SoFar → SoFar
with_row e = record e { rows = e.rows ++ e.row ∷ []; row = [] }

abbrev pub inserted : SoFar → SoFar
inserted e = record { ops = e.ops ++ op.Insert e.table e.rows ∷ []; is_open = false; table = []; rows = []; row = [] }

-- ---- what the writer holds

-- The texts so far with the bytes of the cells of the insertion that was begun; the bytes of the changes that are complete, and
-- their number; whether an insertion was begun, its table, the width and the number of its rows, and how many cells a further
-- row has.
pub record Written : Type 0 where
  pub draft : Draft
  pub done : List ℕ
  pub count : ℕ
  pub is_open : Bool
  pub table : List ℕ
  pub columns : ℕ
  pub rows : ℕ
  pub cells : ℕ

-- the texts fit their number, and the name of the table its length
pub record IsFew (texts : List (List ℕ)) (table : List ℕ) : Type 0 where
  pub few : length texts < 2 ^ 32
  pub name : FitsName table

-- there is room for one more text, change, row and cell of a row
pub record HasRoom (w : Written) : Type 0 where
  pub texts : length w.draft.texts + 1 < 2 ^ 32
  pub changes : w.count + 1 < 2 ^ 32
  pub rows : w.rows + 1 < 2 ^ 32
  pub cells : w.cells + 1 < 2 ^ 16

-- how far the writer is: whether an insertion was begun, the width and the number of its rows, and the cells of a further one
pub record IsAt (w : Written) (begun : Bool) (width count row : ℕ) : Type 0 where
  pub is_open : w.is_open ≡ begun
  pub columns : w.columns ≡ width
  pub rows : w.rows ≡ count
  pub cells : w.cells ≡ row

-- a row has some cells, and as many as those before it
pub record EndsRow (w : Written) : Type 0 where
  pub begun : w.is_open ≡ true
  pub some : 0 < w.cells
  pub width : (w.rows ≡ 0) ⊎ (w.cells ≡ w.columns)

-- the texts of all cells so far
abbrev pub texts_so_far : SoFar → List (List ℕ)
texts_so_far e = flat_map texts_of_op e.ops ++ (flat_map texts_of_row e.rows ++ texts_of_row e.row)

-- what is held of the changes that are complete
pub record HoldsOps (w : Written) (e : SoFar) : Type 0 where
  pub bytes : (more : List (List ℕ)) → w.done ≡ flat_map (op_bytes (w.draft.texts ++ more)) e.ops
  pub count : w.count ≡ length e.ops
  pub few : w.count < 2 ^ 32
  pub fit : All FitsOp e.ops

-- what is held of the insertion that was begun
pub record HoldsRows (w : Written) (e : SoFar) : Type 0 where
  pub bytes : (more : List (List ℕ)) → w.draft.body ≡ rows_bytes (w.draft.texts ++ more) e.rows ++ row_bytes (w.draft.texts ++ more) e.row
  pub begun : w.is_open ≡ e.is_open
  pub table : w.table ≡ e.table
  pub name : FitsName e.table
  pub width : w.columns ≡ width_of e.rows
  pub rows : w.rows ≡ length e.rows
  pub few : length e.rows < 2 ^ 32
  pub narrow : w.columns < 2 ^ 16
  pub cells : w.cells ≡ length e.row
  pub fit_rows : All (FitsRow w.columns) e.rows
  pub fit_row : All FitsCell e.row
  pub some : w.columns ≡ 0 → length e.rows ≡ 0
  pub none : w.is_open ≡ false → (e.rows ≡ []) × (e.row ≡ [])

-- The writer holds this entry so far. Its texts are those of all cells, each once, in order of first use.
pub record IsSoFar (w : Written) (e : SoFar) : Type 0 where
  pub texts : w.draft.texts ≡ with_texts [] (texts_so_far e)
  pub ops : HoldsOps w e
  pub rows : HoldsRows w e
