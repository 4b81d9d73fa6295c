-- The tables of the worked examples.
use Rattle.std.specs.Prelude.{ℕ, ◌*◌, List, [], ◌∷◌, codes, pos, false, true}
use Rattle.qd_base.specs.declared.cell.Cell.{Cell}
use Rattle.qd_base.specs.declared.cell.Cell.TheVariants as cell
use Rattle.qd_base.specs.declared.schema.ColType.{ColType}
use Rattle.qd_base.specs.declared.schema.ColType.TheVariants as kind
use Rattle.qd_base.specs.declared.schema.PartUnit.TheVariants as unit
use Rattle.qd_base.specs.declared.schema.Col.{Col}
use Rattle.qd_base.specs.declared.schema.Schema.{Schema}
use Rattle.qd_base.specs.Rows.{Row}
use Rattle.qd_base.specs.Database.{Database, StoredTable}

abbrev pub column : List ℕ → ColType → Col
column name kind = record { name = name; kind = kind }

-- a table that is partitioned by day and has no keys
abbrev pub schema : List ℕ → List Col → ℕ → Schema
schema name cols time_col = record { name = name; cols = cols; time_col = time_col; unit = unit.Day; keys = [] }

abbrev pub table : Schema → List Row → StoredTable
table s rows = record { schema = s; rows = rows }

abbrev pub long : ℕ → Cell
long n = cell.Long (pos n)

-- a moment in seconds
abbrev pub second : ℕ → Cell
second n = cell.Time (n * 1000000)

abbrev pub text : List ℕ → Cell
text t = cell.Text t

-- a row of each type, and one with nothing but its time and a truth value
abbrev pub kinds : StoredTable
kinds =
    table
    (schema (codes "t")
    (column (codes "v") kind.Long ∷ column (codes "timestamp") kind.Time ∷ column (codes "s") kind.Varchar ∷ column (codes "ok") kind.Bool ∷ []) 1)
    ((long 1 ∷ second 1 ∷ cell.Null ∷ cell.Bool false ∷ []) ∷ (long 2 ∷ second 2 ∷ text (codes "x") ∷ cell.Bool true ∷ []) ∷ [])

-- readings of two devices, two of them at one time
abbrev pub readings : StoredTable
readings =
    table (schema (codes "l") (column (codes "k") kind.Symbol ∷ column (codes "v") kind.Long ∷ column (codes "timestamp") kind.Time ∷ []) 2)
    ((text (codes "b") ∷ long 3 ∷ cell.Time 500000 ∷ []) ∷ (text (codes "a") ∷ long 1 ∷ second 1 ∷ []) ∷ (text (codes "a") ∷ long 2 ∷ second 1 ∷ []) ∷ [])

-- bids, and trades
abbrev pub bids : StoredTable
bids =
    table (schema (codes "q") (column (codes "sym") kind.Symbol ∷ column (codes "bid") kind.Long ∷ column (codes "timestamp") kind.Time ∷ []) 2)
    ((text (codes "a") ∷ long 50 ∷ second 5 ∷ []) ∷ (text (codes "a") ∷ long 100 ∷ second 10 ∷ []) ∷ [])

abbrev pub trades : StoredTable
trades =
    table (schema (codes "tr") (column (codes "sym") kind.Symbol ∷ column (codes "px") kind.Long ∷ column (codes "timestamp") kind.Time ∷ []) 2)
    ((text (codes "a") ∷ long 2 ∷ second 4 ∷ []) ∷ (text (codes "a") ∷ long 1 ∷ second 10 ∷ []) ∷ (text (codes "z") ∷ long 3 ∷ second 11 ∷ []) ∷ [])

abbrev pub database : Database
database = kinds ∷ readings ∷ bids ∷ trades ∷ []
