-- The least code of a line, from what is found of each.
use Rattle.std.specs.Prelude.{◌≡◌, ℕ, ◌+◌, ◌<◌, ◌≤◌, true, false, length, List, Option, Some, None, is_none, if◌then◌else◌, IfSome, IfNone}
use Rattle.std.specs.Bool.{Decides}
use Rattle.qd_base.specs.declared.limits.TheConstants.{MAX_BATCH_CELLS, MAX_COLUMNS, MAX_TABLES}
use Rattle.qd_base.specs.declared.code.Code.{Code}
use Rattle.qd_base.specs.declared.code.Code.TheVariants as code
use Rattle.qd_base.specs.declared.schema.Schema.{Schema}
use Rattle.qd_base.specs.Names.{IsTableName}
use Rattle.qd_base.specs.Schemas.{schema_of}
use Rattle.qd_ilp.specs.Value.{Moment, At, Outside}
use Rattle.qd_ilp.specs.Line.{Row}
use Rattle.qd_ilp.specs.Transaction.{HasCode, LeastCode, columns_before, designated}
use Rattle.qd_lines.specs.declared.draft.Draft.{Draft}
use Rattle.qd_lines.specs.declared.codes.Found.{Found}
use Rattle.qd_lines.specs.declared.codes.Place.{Place}
use Rattle.qd_lines.specs.Drafts.{time_name}

-- a moment in microseconds, or none where it is no timestamp
abbrev pub moment_at : Option ℕ → Moment
moment_at None = Outside
moment_at (Some micros) = At micros

-- the first code that is found, in the order of their numbers
abbrev pub first_of : Found → Option Code
first_of f =
    if f.float then Some code.FloatField
    else if f.huge then Some code.NumberRange
    else if f.name then Some code.Name
    else if f.clash then Some code.TypeClash
    else if f.time then Some code.TimeRange
    else if f.columns then Some code.Columns
    else if f.tables then Some code.Tables
    else if f.twice then Some code.DuplicateColumn
    else if f.long then Some code.TextTooLong
    else if f.cells then Some code.TooManyCells
    else None

-- What is found is so. Where there are too many columns, it is not known whether two are one, nor how many cells there are.
pub record Finds (schemas : List Schema) (cells now : ℕ) (row : Row) (f : Found) : Type 0 where
  pub float : Decides f.float (HasCode schemas cells now row code.FloatField)
  pub huge : Decides f.huge (HasCode schemas cells now row code.NumberRange)
  pub name : Decides f.name (HasCode schemas cells now row code.Name)
  pub clash : Decides f.clash (HasCode schemas cells now row code.TypeClash)
  pub time : Decides f.time (HasCode schemas cells now row code.TimeRange)
  pub columns : Decides f.columns (HasCode schemas cells now row code.Columns)
  pub tables : Decides f.tables (HasCode schemas cells now row code.Tables)
  pub twice : f.columns ≡ false → Decides f.twice (HasCode schemas cells now row code.DuplicateColumn)
  pub long : Decides f.long (HasCode schemas cells now row code.TextTooLong)
  pub many : f.columns ≡ false → Decides f.cells (HasCode schemas cells now row code.TooManyCells)

-- the line has no code
abbrev pub IsCodeless : List Schema → ℕ → ℕ → Row → Type 0
IsCodeless schemas cells now row = (c : Code) → HasCode schemas cells now row c → ⊥

-- the code is the line's least, or the line has none
pub record IsCodeOf (schemas : List Schema) (cells now : ℕ) (row : Row) (found : Option Code) : Type 0 where
  pub least : IfSome found (LeastCode schemas cells now row)
  pub none : IfNone found (IsCodeless schemas cells now row)

-- the name of a table, as its schema spells it, where it is there
abbrev pub spelled_as : Option Schema → List ℕ → List ℕ
spelled_as None name = name
spelled_as (Some s) name = s.name

-- what a line finds of its table
pub record IsPlaceOf (schemas : List Schema) (row : Row) (p : Place) : Type 0 where
  pub cols : p.columns.cols.now ≡ columns_before (schema_of schemas row.table)
  pub name : time_name p.columns ≡ designated (schema_of schemas row.table)
  pub fresh : p.fresh ≡ is_none (schema_of schemas row.table)
  pub spelled : p.name.now ≡ spelled_as (schema_of schemas row.table) row.table
  pub lawful : p.fresh ≡ false → IsTableName p.name.now
  pub tables : p.tables ≡ length schemas

-- a line keeps to the limits, and names no column twice
pub record KeepsTo (p : Place) (d : Draft) (cells : ℕ) : Type 0 where
  pub few : length d.marks.items ≤ MAX_COLUMNS
  pub once : d.faults.twice ≡ false
  pub room : p.fresh ≡ true → p.tables < MAX_TABLES
  pub fits : cells + length d.marks.items ≤ MAX_BATCH_CELLS
