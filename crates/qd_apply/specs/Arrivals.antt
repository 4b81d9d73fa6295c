-- What transactions bring to tables: columns, and rows that wait in the order in which they come.
use Rattle.std.specs.Prelude.{List, [], ◌∷◌, ◌++◌, length, map, drop, fold}
use Rattle.qd_base.specs.declared.schema.Col.{Col}
use Rattle.qd_base.specs.declared.schema.Schema.{Schema}
use Rattle.qd_base.specs.declared.op.Entry.{Entry}
use Rattle.qd_base.specs.declared.op.Op.{Op}
use Rattle.qd_base.specs.declared.op.Op.TheVariants as op
use Rattle.qd_base.specs.Database.{Database, StoredTable, rekeyed, widened}
use Rattle.qd_base.specs.Rows.{Row, put}
use Rattle.qd_base.specs.Schemas.{at_name}
use Rattle.qd_rows.specs.Sets.{absent}

-- a table with more rows that wait, behind those that do
abbrev pub arrived : List Row → StoredTable → StoredTable
arrived rows t = record { schema = t.schema; rows = t.rows ++ rows }

-- The tables with the rows that wait, after a change. A new table has none; a column makes the rows that wait wider, by
-- what a row lacks; rows of a table wait in the order in which they come; keys that are set leave the rows that wait.
abbrev pub arrives : List StoredTable → Op → List StoredTable
arrives ts (op.Create schema) = ts ++ record { schema = schema; rows = [] } ∷ []
arrives ts (op.AddColumn table col) = at_name (λ t. t.schema.name) (widened col) table ts
arrives ts (op.Insert table rows) = at_name (λ t. t.schema.name) (arrived rows) table ts
arrives ts (op.SetKeys table keys) = at_name (λ t. t.schema.name) (rekeyed keys) table ts

-- the same after transactions, in order
abbrev pub arrivals_from : List StoredTable → List Entry → List StoredTable
arrivals_from ts entries = fold (λ before entry. fold arrives before entry.ops) ts entries

-- tables in which no row waits
abbrev pub without_rows : List Schema → List StoredTable
without_rows schemas = map (λ s. record { schema = s; rows = [] }) schemas

-- what transactions bring to tables of these schemas
abbrev pub arrivals : List Schema → List Entry → List StoredTable
arrivals schemas entries = arrivals_from (without_rows schemas) entries

-- a row of a table's first columns, as wide as all of them
abbrev pub wide : List Col → Row → Row
wide cols row = row ++ absent (drop (length row) cols)

-- a table's rows so far, as wide as its columns are now, with the rows that wait put one by one
abbrev pub settled : List Row → StoredTable → StoredTable
settled rows t = record { schema = t.schema; rows = fold (put t.schema.time_col t.schema.keys) (map (wide t.schema.cols) rows) t.rows }

-- the rows of the first table, and the tables behind it
abbrev pub first_rows : Database → List Row
first_rows [] = []
first_rows (t ∷ ts) = t.rows

abbrev pub rest : {T : Type 0} → List T → List T
rest [] = []
rest (x ∷ xs) = xs

-- the same for each table; a new one had no rows so far
abbrev pub all_settled : Database → List StoredTable → Database
all_settled db [] = []
all_settled db (t ∷ ts) = settled (first_rows db) t ∷ all_settled (rest db) ts
