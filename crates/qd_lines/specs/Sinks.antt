-- Changes that are taken one by one, and the cells of a row that is begun.
use Rattle.std.specs.Prelude.{ℕ, List, [], ◌∷◌, ◌++◌}
use Rattle.qd_base.specs.declared.cell.Cell.{Cell}
use Rattle.qd_base.specs.declared.cell.Cell.TheVariants as cell
use Rattle.qd_base.specs.declared.op.Op.{Op}
use Rattle.qd_base.specs.declared.op.Op.TheVariants as op
use Rattle.qd_base.specs.Rows.{Row}
use Rattle.qd_ilp.specs.Transaction.{joined}
use Rattle.qd_lines.specs.declared.lent.CellView.{CellView}
use Rattle.qd_lines.specs.declared.lent.CellView.TheVariants as lent

-- the cell that is lent
abbrev pub cell_lent : CellView → Cell
cell_lent lent.Null = cell.Null
cell_lent (lent.Long number) = cell.Long number
cell_lent (lent.Bool truth) = cell.Bool truth
cell_lent (lent.Text text) = cell.Text text.now
cell_lent (lent.Time micros) = cell.Time micros

-- the last element is changed
abbrev pub at_last : {A : Type 0} → (A → A) → List A → List A
at_last f [] = []
at_last f (x ∷ []) = f x ∷ []
at_last f (x ∷ y ∷ xs) = x ∷ at_last f (y ∷ xs)

-- the rows of an insertion are changed
abbrev pub with_rows : (List Row → List Row) → Op → Op
with_rows f (op.Create schema) = op.Create schema
with_rows f (op.AddColumn table col) = op.AddColumn table col
with_rows f (op.Insert table rows) = op.Insert table (f rows)
with_rows f (op.SetKeys table keys) = op.SetKeys table keys

-- the last row of the last change, an insertion, gets these cells behind its own
abbrev pub with_cells : List Cell → List Op → List Op
with_cells cells ops = at_last (with_rows (at_last (λ row. row ++ cells))) ops

-- a row of a table behind these changes: of the last of them, where that inserts into the same table, or of a new one
abbrev pub with_row : List ℕ → Row → List Op → List Op
with_row table row ops = joined ops (op.Insert table (row ∷ []))
