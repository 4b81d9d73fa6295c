-- Which histories are lawful.
use Rattle.std.specs.Prelude.{◌≡◌, ℕ, ◌<◌, ◌≤◌, ◌<ℤ◌, ◌≤ℤ◌, List, [], ◌∷◌, ◌⊎◌, length, All, fold, sum_by, IfSome, IsSomeAnd, slice_get}
use Rattle.std.specs.List.{AllZip, IsDistinct}
use Rattle.qd_base.specs.declared.cell.Cell.{Cell}
use Rattle.qd_base.specs.declared.cell.Cell.TheVariants as cell
use Rattle.qd_base.specs.declared.schema.ColType.{ColType}
use Rattle.qd_base.specs.declared.schema.ColType.TheVariants as kind
use Rattle.qd_base.specs.declared.schema.Col.{Col}
use Rattle.qd_base.specs.declared.schema.Schema.{Schema}
use Rattle.qd_base.specs.declared.op.Op.{Op}
use Rattle.qd_base.specs.declared.op.Op.TheVariants as op
use Rattle.qd_base.specs.declared.op.Entry.{Entry}
use Rattle.qd_base.specs.declared.limits.TheConstants.{MAX_BATCH_CELLS, MAX_COLUMNS, MAX_LONG, MAX_TABLES, MAX_TEXT_BYTES, MAX_TIME, NULL_LONG}
use Rattle.qd_base.specs.Names.{IsColumnName, IsTableName}
use Rattle.qd_base.specs.Rows.{Row, cell_at}
use Rattle.qd_base.specs.Schemas.{same_name, schema_of, schemas_step, AreKeys, Fits, SetsNoKeys}

-- a text that can be stored: bytes, and not too many
pub record IsText (text : List ℕ) : Type 0 where
  pub short : length text ≤ MAX_TEXT_BYTES
  pub bytes : All (λ b. b < 256) text

-- The kind of cell that a column takes. A BOOLEAN column takes no NULL; a LONG is a 64-bit number, and not the one that
-- stands for NULL; a time is at most the greatest timestamp.
abbrev pub Takes : ColType → Cell → Type 0
Takes kind.Long cell.Null = Unit {0}
Takes kind.Long (cell.Long x) = (NULL_LONG <ℤ x) × (x ≤ℤ MAX_LONG)
Takes kind.Bool (cell.Bool b) = Unit {0}
Takes kind.Symbol cell.Null = Unit {0}
Takes kind.Symbol (cell.Text t) = IsText t
Takes kind.Varchar cell.Null = Unit {0}
Takes kind.Varchar (cell.Text t) = IsText t
Takes kind.Time cell.Null = Unit {0}
Takes kind.Time (cell.Time t) = t ≤ MAX_TIME
Takes _ _ = ⊥

-- one cell for each column, of its kind
abbrev pub HasKinds : List Col → Row → Type 0
HasKinds cols row = AllZip (λ (c : Col) (x : Cell). Takes c.kind x) cols row

-- a row of a table: its cells are of the columns' kinds, and its designated timestamp isn't NULL
pub record IsRowOf (s : Schema) (row : Row) : Type 0 where
  pub kinds : HasKinds s.cols row
  pub timed : (cell_at row s.time_col ≡ cell.Null) → ⊥

-- what a table may look like
pub record IsSchema (s : Schema) : Type 0 where
  pub name : IsTableName s.name
  pub few : length s.cols ≤ MAX_COLUMNS
  pub names : All (λ (c : Col). IsColumnName c.name) s.cols
  pub distinct : IsDistinct (λ (a : Col) (b : Col). same_name a.name b.name) s.cols
  -- the designated column is there, and a TIMESTAMP
  pub designated : IsSomeAnd (slice_get s.cols s.time_col) (λ c. c.kind ≡ kind.Time)
  -- no keys, or distinct columns with the designated one among them
  pub keys : AreKeys s.cols s.time_col s.keys

-- a change is of good form over the schemas before it
abbrev pub IsSound : List Schema → Op → Type 0
IsSound schemas (op.Create schema) = (length schemas < MAX_TABLES) × IsSchema schema
IsSound schemas (op.AddColumn table col) = IsColumnName col.name × IfSome (schema_of schemas table) (λ s. length s.cols < MAX_COLUMNS)
IsSound schemas (op.Insert table rows) = IfSome (schema_of schemas table) (λ s. All (IsRowOf s) rows)
IsSound schemas (op.SetKeys table keys) = Unit {0}

-- each change fits where it stands, and is of good form there
abbrev pub AreLawful : List Schema → List Op → Type 0
AreLawful schemas [] = Unit {0}
AreLawful schemas (o ∷ os) = Fits schemas o × IsSound schemas o × AreLawful (schemas_step schemas o) os

-- how many cells a change inserts, and a transaction
abbrev pub cells_in : Op → ℕ
cells_in (op.Create schema) = 0
cells_in (op.AddColumn table col) = 0
cells_in (op.Insert table rows) = sum_by length rows
cells_in (op.SetKeys table keys) = 0

abbrev pub cells_of : Entry → ℕ
cells_of entry = sum_by cells_in entry.ops

-- changes of one transaction: one that sets keys has no other beside it
abbrev pub SetsKeysAlone : List Op → Type 0
SetsKeysAlone ops = (length ops ≤ 1) ⊎ SetsNoKeys ops

-- each transaction is lawful over the schemas that the ones before it leave
abbrev pub LawfulFrom : List Schema → List Entry → Type 0
LawfulFrom schemas [] = Unit {0}
LawfulFrom schemas (e ∷ es) = AreLawful schemas e.ops × (cells_of e ≤ MAX_BATCH_CELLS) × SetsKeysAlone e.ops × LawfulFrom (fold schemas_step schemas e.ops) es

-- a lawful history
abbrev pub Lawful : List Entry → Type 0
Lawful history = LawfulFrom [] history

-- what the schemas of a lawful history's database are
pub record AreSchemas (schemas : List Schema) : Type 0 where
  pub few : length schemas ≤ MAX_TABLES
  pub each : All IsSchema schemas
  pub distinct : IsDistinct (λ (a : Schema) (b : Schema). same_name a.name b.name) schemas
