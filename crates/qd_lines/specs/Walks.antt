-- How far the lines of a batch have been gone over.
use Rattle.std.specs.Prelude.{◌≡◌, ℕ, ◌+◌, ◌<◌, ◌≤◌, Bool, true, false, List, [], ◌∷◌, ◌++◌, is_none, Result, Err, length, fold, map}
use Rattle.qd_base.specs.declared.limits.TheConstants.{MAX_BATCH_CELLS, MAX_COLUMNS, MAX_TABLES}
use Rattle.qd_base.specs.declared.code.Code.{Code}
use Rattle.qd_base.specs.declared.schema.Col.{Col}
use Rattle.qd_base.specs.declared.schema.Schema.{Schema}
use Rattle.qd_base.specs.declared.op.Entry.{Entry}
use Rattle.qd_base.specs.declared.op.Op.{Op}
use Rattle.qd_base.specs.declared.op.Op.TheVariants as op
use Rattle.qd_base.specs.Lawful.{AreSchemas}
use Rattle.qd_base.specs.Schemas.{schema_of}
use Rattle.qd_ilp.specs.Line.{Line, Row}
use Rattle.qd_ilp.specs.Whole.{Reading}
use Rattle.qd_ilp.specs.Transaction.{Work, LeastCode, Says, columns_after, columns_before, joined, stamp_column, start, with_items}
use Rattle.qd_lines.specs.declared.draft.Draft.{Draft}
use Rattle.qd_lines.specs.declared.walk.Walk.{Walk}
use Rattle.qd_lines.specs.declared.fault.LineFault.{LineFault}
use Rattle.qd_lines.specs.declared.fault.LineFault.TheVariants as line_fault
use Rattle.qd_lines.specs.declared.fault.RowFault.{RowFault}
use Rattle.qd_lines.specs.declared.fault.RowFault.TheVariants as row_fault
use Rattle.qd_base.specs.declared.schema.PartUnit.TheVariants as unit
use Rattle.qd_lines.specs.Codes.{IsCodeless}
use Rattle.qd_lines.specs.Overlays.{Covers}

-- a walk has come to where the work is
pub record Walks (walk : Walk) (work : Work) : Type 0 where
  pub covers : Covers walk.overlay work.schemas
  pub cells : walk.cells ≡ work.cells
  pub few : work.cells ≤ MAX_BATCH_CELLS
  pub stamp : walk.stamp ≡ stamp_column ∷ []
  pub schemas : AreSchemas work.schemas

-- the schema of a table that a line makes, with the columns that it adds and the designated one
abbrev pub schema_made : List ℕ → List Col → Col → Schema
schema_made table added stamp = record { name = table; cols = added ++ stamp ∷ []; time_col = length added; unit = unit.Day; keys = [] }

-- the changes of a line before its row: the table where the line makes it, else the columns that it adds
abbrev pub opened : Bool → List ℕ → List Col → Col → List Op → List Op
opened true table added stamp ops = joined ops (op.Create (schema_made table added stamp))
opened false table added stamp ops = fold joined ops (map (op.AddColumn table) added)

-- a line is drawn up: whether it makes its table, the columns that it adds, and that it keeps to the limits
pub record IsDrawn (now : ℕ) (work : Work) (row : Row) (draft : Draft) (fresh : Bool) : Type 0 where
  pub fresh_is : fresh ≡ is_none (schema_of work.schemas row.table)
  pub added : columns_before (schema_of work.schemas row.table) ++ draft.added ≡ columns_after (schema_of work.schemas row.table) row
  pub count : length draft.marks.items ≡ length (columns_after (schema_of work.schemas row.table) row)
  pub few : length draft.marks.items ≤ MAX_COLUMNS
  pub room : fresh ≡ true → length work.schemas < MAX_TABLES
  pub fits : work.cells + length draft.marks.items ≤ MAX_BATCH_CELLS
  pub alone : fresh ≡ true → draft.added ≡ with_items [] row.items

-- the row is refused with its least code
abbrev pub IsRowFault : ℕ → Work → Row → RowFault → Type 0
IsRowFault now work row (row_fault.Code c) = LeastCode work.schemas work.cells now row c
IsRowFault now work row row_fault.Memory = Unit {0}

-- a line has no code
abbrev pub HasNone : ℕ → Work → Row → Type 0
HasNone now work row = IsCodeless work.schemas work.cells now row

-- what lines say over these schemas
abbrev pub SaysOf : List Schema → ℕ → Reading → Result Entry (Code × ℕ) → Type 0
SaysOf schemas now reading answer = Says now (start schemas) 1 reading.lines reading.whole answer

-- a batch is refused with the least code of the first line that has one
abbrev pub IsLineFault : List Schema → ℕ → Reading → LineFault → Type 0
IsLineFault schemas now reading (line_fault.Refused code line) = SaysOf schemas now reading (Err (code, line))
IsLineFault schemas now reading line_fault.Memory = Unit {0}

-- What the lines from a number on say over this work, all say over these schemas.
abbrev pub Leads : List Schema → ℕ → Reading → Work → ℕ → List Line → Type 0
Leads schemas now reading work number rest = (answer : Result Entry (Code × ℕ)) → Says now work number rest reading.whole answer → SaysOf schemas now reading answer
