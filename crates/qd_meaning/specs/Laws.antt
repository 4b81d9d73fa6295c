-- What holds of every statement over every database.
use Rattle.std.specs.Prelude.{◌≡◌, ℕ, ◌-◌, ◌<◌, ◌^◌, ◌↔◌, min, List, [], ◌∷◌, ◌++◌, length, All, Contains, Option, Some, None, Ok, Err, IsTrue}
use Rattle.std.specs.List.{IsDistinct}
use Rattle.qd_base.specs.declared.schema.Col.{Col}
use Rattle.qd_base.specs.declared.schema.Schema.{Schema}
use Rattle.qd_base.specs.declared.op.Entry.{Entry}
use Rattle.qd_base.specs.declared.request.Table.{Table}
use Rattle.qd_base.specs.Rows.{Row}
use Rattle.qd_base.specs.Schemas.{same_name}
use Rattle.qd_base.specs.Names.{IsColumnName, IsTableName}
use Rattle.qd_base.specs.Database.{Database, schemas_of}
use Rattle.qd_sql_ast.specs.declared.tree.Join.{Join}
use Rattle.qd_sql_ast.specs.declared.tree.Query.{Query}
use Rattle.qd_sql_ast.specs.declared.tree.Stmt.{Stmt}
use Rattle.qd_sql_ast.specs.declared.tree.Stmt.TheVariants as is
use Rattle.qd_meaning.specs.declared.parts.Cut.TheVariants as cut
use Rattle.qd_meaning.specs.declared.refusal.Refusal.{Refusal}
use Rattle.qd_meaning.specs.Refusals.{goes_first, least, sooner}
use Rattle.qd_time.specs.declared.fault.TimeFault.TheVariants as fault
use Rattle.qd_time.specs.Spelled.{SpellsTime, SpellsEarly, IsNoTime, SpellsInterval, SpellsOutside, IsNoInterval}
use Rattle.qd_meaning.specs.TimeTexts.{time_of_text, interval_of_text}
use Rattle.qd_meaning.specs.Ordered.{limited}
use Rattle.qd_meaning.specs.Planned.{planned}
use Rattle.qd_meaning.specs.Answer.{answer, stored, right_table, refusals, planned_in, work_rows, finished, rows_faults}
use Rattle.qd_meaning.specs.Creating.{is_column_name, is_table_name}
use Rattle.qd_meaning.specs.Write.{write, write_faults}

-- Of some refusals one is answered, if there is one: it goes first before each of them, by code and then by place. What is answered
-- for two parts of a statement gives what is answered for both.
pub record LeastIsAnswered : Type 0 where
  pub none : (rs : List Refusal) → least rs ≡ None → rs ≡ []
  pub among : (rs : List Refusal) (r : Refusal) → least rs ≡ Some r → Contains rs r
  pub first : (rs : List Refusal) (r : Refusal) → least rs ≡ Some r → All (λ s. IsTrue (goes_first r s)) rs
  pub parts : (xs ys : List Refusal) → least (xs ++ ys) ≡ sooner (least xs) (least ys)

-- A statement has an answer exactly where nothing is refused in it, and is refused exactly with the least of its refusals.
pub record RefusedHasNoAnswer : Type 0 where
  pub answered : (db : Database) (s : Stmt) → (((t : Table) × (answer db s ≡ Ok t)) ↔ (refusals db s ≡ []))
  pub refused : (db : Database) (s : Stmt) (r : Refusal) → ((answer db s ≡ Err r) ↔ (least (refusals db s) ≡ Some r))
  pub accepted : (schemas : List Schema) (s : Stmt) → (((e : Entry) × (write schemas s ≡ Ok e)) ↔ (write_faults schemas s ≡ []))
  pub rejected : (schemas : List Schema) (s : Stmt) (r : Refusal) → ((write schemas s ≡ Err r) ↔ (least (write_faults schemas s) ≡ Some r))

-- the names of the tables that a statement asks
abbrev pub right_names : Option Join → List (List ℕ)
right_names None = []
right_names (Some j) = j.right.table.text ∷ []

abbrev pub tables_named : Stmt → List (List ℕ)
tables_named (is.Query q) = q.source.table.text ∷ right_names q.join
tables_named (is.Show name place) = name ∷ []
tables_named (is.Create c) = []
tables_named (is.Insert i) = []
tables_named (is.Alter a) = []

-- An answer looks only at the tables that its statement names: two databases that have the same tables of these names answer alike.
abbrev pub LooksAtNamedTables : Type 0
LooksAtNamedTables = (db db' : Database) (s : Stmt) → ((name : List ℕ) → Contains (tables_named s) name → stored db name ≡ stored db' name) → answer db s ≡ answer db' s

-- No two columns of an answer have one name, whatever the items are. No answer comes near the bound on their number.
abbrev pub OutputNamesAreDistinct : Type 0
OutputNamesAreDistinct = (db : Database) (s : Stmt) (t : Table) → answer db s ≡ Ok t → length t.cols < 2 ^ 63 → IsDistinct (λ (a b : Col). same_name a.name b.name) t.cols

-- How many rows a LIMIT gives, of so many.
pub record LimitsCount : Type 0 where
  pub all : (rows : List Row) → length (limited None rows) ≡ length rows
  pub first : (n : ℕ) (rows : List Row) → length (limited (Some (cut.First n)) rows) ≡ min n (length rows)
  pub last : (n : ℕ) (rows : List Row) → length (limited (Some (cut.Last n)) rows) ≡ min n (length rows)
  pub between : (a b : ℕ) (rows : List Row) → length (limited (Some (cut.Between a b)) rows) ≡ min b (length rows) - a
  pub front : (n : ℕ) (rows : List Row) → (rest : List Row) × (rows ≡ limited (Some (cut.First n)) rows ++ rest)
  pub end : (n : ℕ) (rows : List Row) → (rest : List Row) × (rows ≡ rest ++ limited (Some (cut.Last n)) rows)

-- A text of a statement is the moment, and the interval, that it spells; else it is out of range or spells none.
pub record TimesAreRead : Type 0 where
  pub time : (text : List ℕ) (ts : ℕ) → ((time_of_text text ≡ Ok ts) ↔ SpellsTime text ts)
  pub early : (text : List ℕ) → ((time_of_text text ≡ Err fault.Range) ↔ SpellsEarly text)
  pub no_time : (text : List ℕ) → ((time_of_text text ≡ Err fault.Form) ↔ IsNoTime text)
  pub interval : (text : List ℕ) (first last : ℕ) → ((interval_of_text text ≡ Ok (first, last)) ↔ SpellsInterval text first last)
  pub outside : (text : List ℕ) → ((interval_of_text text ≡ Err fault.Range) ↔ SpellsOutside text)
  pub no_interval : (text : List ℕ) → ((interval_of_text text ≡ Err fault.Form) ↔ IsNoInterval text)

-- The tests of names are the rules of names.
pub record NamesAreJudged : Type 0 where
  pub column : (name : List ℕ) → (IsTrue (is_column_name name) ↔ IsColumnName name)
  pub table : (name : List ℕ) → (IsTrue (is_table_name name) ↔ IsTableName name)

-- The parts of a query over the schemas of a database have its refusals, and give its rows and its table.
pub record PlansAnswer : Type 0 where
  pub faults : (db : Database) (q : Query) → (planned (schemas_of db) q).faults ≡ (planned_in (stored db q.source.table.text) (right_table db q.join) q).faults
  pub rows :
      (db : Database) (q : Query)
      → work_rows (planned (schemas_of db) q).plan (stored db q.source.table.text) (right_table db q.join)
      ≡ work_rows (planned_in (stored db q.source.table.text) (right_table db q.join) q).plan (stored db q.source.table.text) (right_table db q.join)
  pub table : (db : Database) (q : Query) (rows : List Row) → finished (planned (schemas_of db) q).plan rows ≡ finished (planned_in (stored db q.source.table.text) (right_table db q.join) q).plan rows
  pub rows_faults :
      (db : Database) (q : Query) (rows : List Row)
      → rows_faults (planned (schemas_of db) q).plan rows ≡ rows_faults (planned_in (stored db q.source.table.text) (right_table db q.join) q).plan rows
