-- The row of a line, by the columns that its tags and fields name.
use Rattle.std.specs.Prelude.{ℕ, List, Option, Some, None, map, find, codes}
use Rattle.qd_base.specs.declared.cell.Cell.{Cell}
use Rattle.qd_base.specs.declared.schema.Col.{Col}
use Rattle.qd_base.specs.declared.schema.Schema.{Schema}
use Rattle.qd_base.specs.Database.{missing}
use Rattle.qd_base.specs.Schemas.{same_name}
use Rattle.qd_ilp.specs.Line.{Item, Row}
use Rattle.qd_ilp.specs.Transaction.{cell_in, created, found_or, micros_of, moment_of, name_at, with_items}

-- the cell of a column that isn't the designated one
abbrev pub named_cell : List Item → Col → Cell
named_cell items c = found_or (missing c.kind) (find (λ (i : Item). same_name c.name i.name) items)

-- the row that a line gives, by its table before it
abbrev pub row_of : Option Schema → ℕ → Row → List Cell
row_of None now row = map (cell_in (codes "timestamp") row (micros_of (moment_of now row.moment))) (created row).cols
row_of (Some s) now row = map (cell_in (name_at s.cols s.time_col) row (micros_of (moment_of now row.moment))) (with_items s.cols row.items)
