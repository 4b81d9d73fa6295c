-- What lines say over the schemas of the tables that are there: the transaction of all of them, or the first line that
-- is refused and its code. QuestDB documentation: InfluxDB line protocol, tables and columns made by lines.
use Rattle.std.specs.Prelude.{◌≡◌, ℕ, ◌+◌, ◌<◌, ◌≤◌, Bool, true, false, not, ◌&&◌, ◌⊎◌, List, [], ◌∷◌, ◌++◌, length, Contains, map, fold, drop, find, codes, slice_get, is_some, nat_le, nat_lt, Option, Some, None, Result, Ok, Err, IsNone, IsTrue, if◌then◌else◌}
use Rattle.std.specs.List.{list_any, IsDistinct}
use Rattle.qd_base.specs.declared.limits.TheConstants.{MAX_BATCH_CELLS, MAX_COLUMNS, MAX_TABLES, MAX_TEXT_BYTES, MAX_TIME}
use Rattle.qd_base.specs.declared.code.Code.{Code}
use Rattle.qd_base.specs.declared.code.Code.TheVariants as code
use Rattle.qd_base.specs.declared.cell.Cell.{Cell}
use Rattle.qd_base.specs.declared.cell.Cell.TheVariants as cell
use Rattle.qd_base.specs.declared.schema.ColType.{ColType}
use Rattle.qd_base.specs.declared.schema.ColType.TheVariants as kind
use Rattle.qd_base.specs.declared.schema.PartUnit.TheVariants as unit
use Rattle.qd_base.specs.declared.schema.Col.{Col}
use Rattle.qd_base.specs.declared.schema.Schema.{Schema}
use Rattle.qd_base.specs.declared.op.Op.{Op}
use Rattle.qd_base.specs.declared.op.Op.TheVariants as op
use Rattle.qd_base.specs.declared.op.Entry.{Entry}
use Rattle.qd_base.specs.Codes.{number_of}
use Rattle.qd_base.specs.Names.{IsColumnName, IsTableName}
use Rattle.qd_base.specs.Schemas.{same_name, column_at, schema_of, schemas_step}
use Rattle.qd_base.specs.Database.{missing}
use Rattle.qd_ilp.specs.Value.{Value, Tag, Text, Long, Huge, Truth, Other, Moment, At, Outside}
use Rattle.qd_ilp.specs.Line.{Item, Row, Line, Blank, Gives}

-- ---- values and columns

-- the type of the column that a value makes
abbrev pub kind_of : Value → ColType
kind_of (Tag text) = kind.Symbol
kind_of (Text text) = kind.Varchar
kind_of (Long number) = kind.Long
kind_of Huge = kind.Long
kind_of (Truth truth) = kind.Bool
kind_of Other = kind.Varchar

-- A text fits a SYMBOL or VARCHAR column, a LONG a LONG one, a truth word a BOOLEAN one.
abbrev pub suits : ColType → Value → Bool
suits kind.Symbol (Tag text) = true
suits kind.Symbol (Text text) = true
suits kind.Varchar (Tag text) = true
suits kind.Varchar (Text text) = true
suits kind.Long (Long number) = true
suits kind.Long Huge = true
suits kind.Bool (Truth truth) = true
suits _ _ = false

-- the cell of a value without a fault
abbrev pub cell_of : Value → Cell
cell_of (Tag text) = cell.Text text
cell_of (Text text) = cell.Text text
cell_of (Long number) = cell.Long number
cell_of Huge = cell.Null
cell_of (Truth truth) = cell.Bool truth
cell_of Other = cell.Null

-- columns, with one more for each item that names none of them
abbrev pub with_items : List Col → List Item → List Col
with_items cols items = fold (λ cs (i : Item). if is_some (column_at cs i.name) then cs else cs ++ record { name = i.name; kind = kind_of i.value } ∷ []) cols items

-- the designated column of a table that a line makes
abbrev pub stamp_column : Col
stamp_column = record { name = codes "timestamp"; kind = kind.Time }

-- the table that a line makes: its columns in the line's order, and the designated one behind them; by day, without keys
abbrev pub created : Row → Schema
created row = record {
  name = row.table;
  cols = with_items [] row.items ++ stamp_column ∷ [];
  time_col = length (with_items [] row.items);
  unit = unit.Day;
  keys = [];
}

-- the columns of the line's table before the line, and the name of the designated one
abbrev pub columns_before : Option Schema → List Col
columns_before None = stamp_column ∷ []
columns_before (Some s) = s.cols

abbrev pub column_name : Option Col → List ℕ
column_name None = []
column_name (Some c) = c.name

abbrev pub name_at : List Col → ℕ → List ℕ
name_at cols k = column_name (slice_get cols k)

abbrev pub designated : Option Schema → List ℕ
designated None = codes "timestamp"
designated (Some s) = name_at s.cols s.time_col

-- the columns after the line
abbrev pub columns_after : Option Schema → Row → List Col
columns_after table row = with_items (columns_before table) row.items

-- ---- the codes of a line

abbrev pub misfits : Option Col → Value → Bool
misfits None value = false
misfits (Some c) value = not (suits c.kind value)

-- a value that doesn't fit the type that its column has before the line, the designated one aside
abbrev pub clashes : Option Schema → Item → Bool
clashes table item = not (same_name (designated table) item.name) && misfits (find (λ c. same_name c.name item.name) (columns_before table)) item.value

abbrev pub is_float : Value → Bool
is_float Other = true
is_float _ = false

abbrev pub is_huge : Value → Bool
is_huge Huge = true
is_huge _ = false

abbrev pub is_long_text : Value → Bool
is_long_text (Tag text) = nat_lt MAX_TEXT_BYTES (length text)
is_long_text (Text text) = nat_lt MAX_TEXT_BYTES (length text)
is_long_text _ = false

-- the moment of a row: its stamp, or the given time
abbrev pub moment_of : ℕ → Option Moment → Moment
moment_of now None = if nat_le now MAX_TIME then At now else Outside
moment_of now (Some moment) = moment

-- What a line has of each code, over the schemas left by the lines before, with the cells that those insert.
abbrev pub HasCode : List Schema → ℕ → ℕ → Row → Code → Type 0
HasCode schemas cells now row code.FloatField = IsTrue (list_any (λ i. is_float i.value) row.items)
HasCode schemas cells now row code.NumberRange = IsTrue (list_any (λ i. is_huge i.value) row.items)
HasCode schemas cells now row code.Name = (IsTableName row.table → ⊥) ⊎ ((item : Item) × Contains row.items item × (IsColumnName item.name → ⊥))
HasCode schemas cells now row code.TypeClash = IsTrue (list_any (clashes (schema_of schemas row.table)) row.items)
HasCode schemas cells now row code.TimeRange = moment_of now row.moment ≡ Outside
HasCode schemas cells now row code.Columns = MAX_COLUMNS < length (columns_after (schema_of schemas row.table) row)
HasCode schemas cells now row code.Tables = IsNone (schema_of schemas row.table) × (MAX_TABLES ≤ length schemas)
HasCode schemas cells now row code.DuplicateColumn =
    (IsDistinct (λ (i j : Item). same_name i.name j.name) row.items → ⊥) ⊎ IsTrue (list_any (λ i. same_name (designated (schema_of schemas row.table)) i.name) row.items)
HasCode schemas cells now row code.TextTooLong = IsTrue (list_any (λ i. is_long_text i.value) row.items)
HasCode schemas cells now row code.TooManyCells = MAX_BATCH_CELLS < cells + length (columns_after (schema_of schemas row.table) row)
HasCode schemas cells now row _ = ⊥

-- the least of a line's codes
abbrev pub LeastCode : List Schema → ℕ → ℕ → Row → Code → Type 0
LeastCode schemas cells now row c = HasCode schemas cells now row c × ((d : Code) → HasCode schemas cells now row d → number_of c ≤ number_of d)

-- ---- what a line without a code does

abbrev pub found_or : Cell → Option Item → Cell
found_or other None = other
found_or other (Some item) = cell_of item.value

-- the cell of a column in the line's row: its item's, the moment in the designated column, else NULL or false
abbrev pub cell_in : List ℕ → Row → ℕ → Col → Cell
cell_in time_name row micros c = if same_name time_name c.name then cell.Time micros else found_or (missing c.kind) (find (λ (i : Item). same_name c.name i.name) row.items)

abbrev pub micros_of : Moment → ℕ
micros_of (At micros) = micros
micros_of Outside = 0

-- the changes of a line, in order: the table where it is new, new columns, its row
abbrev pub line_ops : Option Schema → ℕ → Row → List Op
line_ops None now row =
    op.Create (created row) ∷ op.Insert row.table (map (cell_in (codes "timestamp") row (micros_of (moment_of now row.moment))) (created row).cols ∷ []) ∷ []
line_ops (Some s) now row =
    map (λ c. op.AddColumn s.name c) (drop (length s.cols) (with_items s.cols row.items))
    ++ op.Insert s.name (map (cell_in (name_at s.cols s.time_col) row (micros_of (moment_of now row.moment))) (with_items s.cols row.items) ∷ []) ∷ []

-- a change behind others: consecutive insertions into one table are one
abbrev pub joined : List Op → Op → List Op
joined [] o = o ∷ []
joined (op.Insert table rows ∷ []) (op.Insert table' rows') = if same_name table table' then op.Insert table (rows ++ rows') ∷ [] else op.Insert table rows ∷ op.Insert table' rows' ∷ []
joined (o' ∷ os) o = o' ∷ joined os o

-- the schemas, the changes so far and their cells
pub record Work : Type 0 where
  pub schemas : List Schema
  pub ops : List Op
  pub cells : ℕ

abbrev pub start : List Schema → Work
start schemas = record { schemas = schemas; ops = []; cells = 0 }

-- a line of the grammar is worked in
abbrev pub work_in : ℕ → Work → Line → Work
work_in now w Blank = w
work_in now w (Gives row) = record {
  schemas = fold schemas_step w.schemas (line_ops (schema_of w.schemas row.table) now row);
  ops = fold joined w.ops (line_ops (schema_of w.schemas row.table) now row);
  cells = w.cells + length (columns_after (schema_of w.schemas row.table) row);
}

-- a line's code over what the lines before have left; one that gives no row has none
abbrev pub Refuses : ℕ → Work → Line → Code → Type 0
Refuses now w Blank c = ⊥
Refuses now w (Gives row) c = LeastCode w.schemas w.cells now row c

-- What lines say, from this number and this work on: the code of the first that has one, with its number; else that of
-- the first line outside the grammar; else the transaction of all.
abbrev pub Says : ℕ → Work → ℕ → List Line → Bool → Result Entry (Code × ℕ) → Type 0
Says now w number [] true answer = answer ≡ Ok (record { ops = w.ops })
Says now w number [] false answer = answer ≡ Err (code.LineSyntax, number)
Says now w number (line ∷ lines) whole answer =
    ((c : Code) × Refuses now w line c × (answer ≡ Err (c, number)))
    ⊎ (((c : Code) → Refuses now w line c → ⊥) × Says now (work_in now w line) (number + 1) lines whole answer)

-- the transaction of lines without a code
abbrev pub transaction_of_lines : List Schema → ℕ → List Line → Entry
transaction_of_lines schemas now lines = record { ops = (fold (work_in now) (start schemas) lines).ops }
