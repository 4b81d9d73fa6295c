-- The plain meaning of a query: its table, or the refusal that is answered, as a composition of operators on whole lists of rows.
use Rattle.std.specs.Prelude.{ℕ, nat_le, List, [], ◌∷◌, ◌++◌, map, filter, find, length, Option, Some, None, Result}
use Rattle.std.specs.List.{zip}
use Rattle.std.specs.Option.{option_map}
use Rattle.qd_base.specs.declared.code.Code.TheVariants as code
use Rattle.qd_base.specs.declared.limits.TheConstants.{MAX_RESULT_BYTES, MAX_SAMPLED_ROWS}
use Rattle.qd_base.specs.declared.schema.Col.{Col}
use Rattle.qd_base.specs.declared.schema.Schema.{Schema}
use Rattle.qd_base.specs.declared.request.Table.{Table}
use Rattle.qd_base.specs.Rows.{Row, cell_at}
use Rattle.qd_base.specs.Schemas.{same_name}
use Rattle.qd_base.specs.Database.{Database, StoredTable, missing}
use Rattle.qd_sql_ast.specs.declared.tree.Join.{Join}
use Rattle.qd_sql_ast.specs.declared.tree.Query.{Query}
use Rattle.qd_sql_ast.specs.declared.tree.Stmt.{Stmt}
use Rattle.qd_sql_ast.specs.declared.tree.Stmt.TheVariants as is
use Rattle.qd_value.specs.declared.bound.Bound.{Bound}
use Rattle.qd_value.specs.Value.{passes}
use Rattle.qd_print.specs.Printed.{csv}
use Rattle.qd_meaning.specs.declared.parts.JoinSpec.{JoinSpec}
use Rattle.qd_meaning.specs.declared.parts.Work.{Work}
use Rattle.qd_meaning.specs.declared.parts.Work.TheVariants as work
use Rattle.qd_meaning.specs.declared.parts.AskPlan.{AskPlan}
use Rattle.qd_meaning.specs.declared.refusal.Refusal.{Refusal}
use Rattle.qd_meaning.specs.Refusals.{at, unless, least, judged}
use Rattle.qd_meaning.specs.Joined.{joined}
use Rattle.qd_meaning.specs.Latest.{latest}
use Rattle.qd_meaning.specs.Grouped.{grouped, key_of}
use Rattle.qd_meaning.specs.Sampled.{sampled}
use Rattle.qd_meaning.specs.Ordered.{ordered, limited}
use Rattle.qd_meaning.specs.Partitions.{partitions}
use Rattle.qd_meaning.specs.Outputs.{shown_as}
use Rattle.qd_meaning.specs.Planned.{Planned, planned_over, cols_in, time_col_in}

-- ---- the operators, in their order

abbrev pub schema_in : Option StoredTable → Option Schema
schema_in t = option_map (λ (x : StoredTable). x.schema) t

abbrev pub rows_in : Option StoredTable → List Row
rows_in None = []
rows_in (Some t) = t.rows

-- what a right row is where there is none: NULLs, and false for BOOLEAN
abbrev pub missing_row : Option StoredTable → Row
missing_row t = map (λ (c : Col). missing c.kind) (cols_in (schema_in t))

-- first the rows of the table, or of the join
abbrev pub source_rows : Option (ℕ × JoinSpec) → Option StoredTable → Option StoredTable → List Row
source_rows None left right = rows_in left
source_rows (Some j) left right = joined j.1 (time_col_in (schema_in left)) (time_col_in (schema_in right)) (missing_row right) (rows_in left) (rows_in right)

-- then WHERE
abbrev pub kept_rows : Option Bound → List Row → List Row
kept_rows None rows = rows
kept_rows (Some e) rows = filter (passes e) rows

-- then LATEST ON
abbrev pub latest_rows : Option (List ℕ) → List Row → List Row
latest_rows None rows = rows
latest_rows (Some keys) rows = latest keys rows

-- then the items: a row for each row, for each group, or for each bucket and key
abbrev pub worked : Work → ℕ → List Row → List Row
worked (work.Plain es) time_col rows = map (key_of es) rows
worked (work.Group spec) time_col rows = grouped spec rows
worked (work.Sample spec) time_col rows = sampled spec time_col rows

abbrev pub output_row : List ℕ → List Col → Row → Row
output_row picks out row = map (λ (x : ℕ × Col). shown_as x.1.kind (cell_at row x.0)) (zip picks out)

-- the rows before ORDER BY and LIMIT
abbrev pub work_rows : AskPlan → Option StoredTable → Option StoredTable → List Row
work_rows p left right = worked p.work (time_col_in (schema_in left)) (latest_rows p.latest (kept_rows p.keep (source_rows p.join left right)))

-- then ORDER BY, then LIMIT
abbrev pub finished : AskPlan → List Row → Table
finished p rows = record { cols = p.out; rows = limited p.limit (ordered p.order (map (output_row p.picks p.out) rows)) }

-- ---- what the rows alone show

abbrev pub count_faults : Work → ℕ → List Row → List Refusal
count_faults (work.Sample spec) place rows = unless (nat_le (length rows) MAX_SAMPLED_ROWS) code.TooManyBuckets place
count_faults _ place rows = []

abbrev pub size_faults : Table → List Refusal
size_faults t = unless (nat_le (length (csv t)) MAX_RESULT_BYTES) code.ResultTooLarge 0

abbrev pub rows_faults : AskPlan → List Row → List Refusal
rows_faults p rows = count_faults p.work p.at rows ++ size_faults (finished p rows)

-- these are looked for only where there are no others
abbrev pub or_else : List Refusal → List Refusal → List Refusal
or_else [] others = others
or_else (r ∷ rs) others = r ∷ rs

-- ---- the whole

abbrev pub stored : Database → List ℕ → Option StoredTable
stored db name = find (λ (t : StoredTable). same_name t.schema.name name) db

abbrev pub right_table : Database → Option Join → Option StoredTable
right_table db None = None
right_table db (Some j) = stored db j.right.table.text

-- the parts of a query over its two tables
abbrev pub planned_in : Option StoredTable → Option StoredTable → Query → Planned
planned_in left right q = planned_over 0 0 (schema_in left) (schema_in right) q

-- all refusals of a query
abbrev pub query_faults : Option StoredTable → Option StoredTable → Planned → List Refusal
query_faults left right p = or_else p.faults (rows_faults p.plan (work_rows p.plan left right))

-- SHOW PARTITIONS
abbrev pub shown : Option StoredTable → Table
shown None = record { cols = []; rows = [] }
shown (Some t) = partitions t

abbrev pub shown_faults : Option StoredTable → ℕ → List Refusal
shown_faults None place = at code.UnknownTable place
shown_faults (Some t) place = size_faults (partitions t)

-- All refusals that a statement meets over a database. A statement that writes asks nothing, and meets none here.
abbrev pub refusals : Database → Stmt → List Refusal
refusals db (is.Query q) =
    query_faults (stored db q.source.table.text) (right_table db q.join) (planned_in (stored db q.source.table.text) (right_table db q.join) q)
refusals db (is.Show name place) = shown_faults (stored db name) place
refusals db (is.Create c) = []
refusals db (is.Insert i) = []
refusals db (is.Alter a) = []

abbrev pub query_table : Option StoredTable → Option StoredTable → AskPlan → Table
query_table left right p = finished p (work_rows p left right)

-- the table of a statement that meets none
abbrev pub table_of : Database → Stmt → Table
table_of db (is.Query q) =
    query_table (stored db q.source.table.text) (right_table db q.join) (planned_in (stored db q.source.table.text) (right_table db q.join) q).plan
table_of db (is.Show name place) = shown (stored db name)
table_of db (is.Create c) = record { cols = []; rows = [] }
table_of db (is.Insert i) = record { cols = []; rows = [] }
table_of db (is.Alter a) = record { cols = []; rows = [] }

-- the answer of a statement: its table, or the least of its refusals
abbrev pub answer : Database → Stmt → Result Table Refusal
answer db s = judged (least (refusals db s)) (table_of db s)
