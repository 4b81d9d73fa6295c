-- The database: tables in order of creation, each a schema and its rows.
use Rattle.std.specs.Prelude.{ℕ, false, List, [], ◌∷◌, ◌++◌, map, fold}
use Rattle.qd_base.specs.declared.cell.Cell.{Cell}
use Rattle.qd_base.specs.declared.cell.Cell.TheVariants as cell
use Rattle.qd_base.specs.declared.schema.ColType.{ColType}
use Rattle.qd_base.specs.declared.schema.ColType.TheVariants as kind
use Rattle.qd_base.specs.declared.schema.Col.{Col}
use Rattle.qd_base.specs.declared.schema.Schema.{Schema}
use Rattle.qd_base.specs.declared.op.Op.{Op}
use Rattle.qd_base.specs.declared.op.Op.TheVariants as op
use Rattle.qd_base.specs.Rows.{Row, put}
use Rattle.qd_base.specs.Schemas.{at_name, with_column, with_keys}

-- a table: what it looks like, and its rows in order of time
pub record StoredTable : Type 0 where
  pub schema : Schema
  pub rows : List Row

-- tables in order of creation; the empty database is the empty list
abbrev pub Database : Type 0
Database = List StoredTable

-- what a row holds in a column that it lacks: false in a BOOLEAN column, else NULL
abbrev pub missing : ColType → Cell
missing kind.Long = cell.Null
missing kind.Bool = cell.Bool false
missing kind.Symbol = cell.Null
missing kind.Varchar = cell.Null
missing kind.Time = cell.Null

-- a table with one column more
abbrev pub widened : Col → StoredTable → StoredTable
widened col t = record { schema = with_column col t.schema; rows = map (λ r. r ++ missing col.kind ∷ []) t.rows }

-- a table with rows put into it, in order
abbrev pub filled : List Row → StoredTable → StoredTable
filled rows t = record { schema = t.schema; rows = fold (put t.schema.time_col t.schema.keys) t.rows rows }

-- a table with these keys in place of its own; its rows stay as they are
abbrev pub rekeyed : List ℕ → StoredTable → StoredTable
rekeyed keys t = record { schema = with_keys keys t.schema; rows = t.rows }

-- the database after a change
abbrev pub step : Database → Op → Database
step db (op.Create schema) = db ++ record { schema = schema; rows = [] } ∷ []
step db (op.AddColumn table col) = at_name (λ t. t.schema.name) (widened col) table db
step db (op.Insert table rows) = at_name (λ t. t.schema.name) (filled rows) table db
step db (op.SetKeys table keys) = at_name (λ t. t.schema.name) (rekeyed keys) table db

-- the schemas of a database
abbrev pub schemas_of : Database → List Schema
schemas_of db = map (λ t. t.schema) db
