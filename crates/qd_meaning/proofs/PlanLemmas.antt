-- The parts of a query over the schemas of a database give its answer: where the tables stand makes no difference.
use Rattle.std.proofs.Common.{◌≡◌, ℕ, Bool, true, false, cond, List, [], ◌∷◌, Option, Some, None, refl, ap, ◌∙◌}
use Rattle.std.specs.Option.{option_map}
use Rattle.qd_base.specs.declared.schema.Schema.{Schema}
use Rattle.qd_base.specs.Rows.{Row}
use Rattle.qd_base.specs.Schemas.{same_name, schema_of}
use Rattle.qd_base.specs.Database.{Database, StoredTable, schemas_of}
use Rattle.qd_sql_ast.specs.declared.tree.Join.{Join}
use Rattle.qd_sql_ast.specs.declared.tree.Query.{Query}
use Rattle.qd_meaning.specs.Planned.{planned, planned_over, joined_with, right_schema, position_of, right_name, time_col_in}
use Rattle.qd_meaning.specs.Answer.{stored, right_table, schema_in, planned_in, source_rows, kept_rows, latest_rows, worked, work_rows, finished, rows_faults}
use Rattle.qd_meaning.specs.Laws.{PlansAnswer}

schema-found : (t : StoredTable) (rest : Option StoredTable) (b : Bool) → cond b (Some t.schema) (option_map (λ (x : StoredTable). x.schema) rest) ≡ option_map (λ (x : StoredTable). x.schema) (cond b (Some t) rest)
schema-found t rest true = refl
schema-found t rest false = refl

schema-stored : (db : Database) (name : List ℕ) → schema_of (schemas_of db) name ≡ schema_in (stored db name)
schema-stored [] name = refl
schema-stored (t ∷ ts) name =
    ap (λ (rest : Option Schema). cond (same_name t.schema.name name) (Some t.schema) rest) (schema-stored ts name)
    ∙ schema-found t (stored ts name) (same_name t.schema.name name)

right-stored : (db : Database) (j : Option Join) → right_schema (schemas_of db) j ≡ schema_in (right_table db j)
right-stored db None = refl
right-stored db (Some j) = schema-stored db j.right.table.text

module _ (q : Query) (left right : Option StoredTable) where
  rows-anywhere : (b : ℕ) (l r : Option Schema) (j : Option Join) → source_rows (joined_with b l r j) left right ≡ source_rows (joined_with 0 l r j) left right
  rows-anywhere b l r None = refl
  rows-anywhere b l r (Some j) = refl

  abbrev after_source : Option Schema → Option Schema → List Row → List Row
  after_source l r rows =
      let p = (planned_over 0 0 l r q).plan in
      worked p.work (time_col_in (schema_in left)) (latest_rows p.latest (kept_rows p.keep rows))

  work-anywhere : (a b : ℕ) (l r : Option Schema) → work_rows (planned_over a b l r q).plan left right ≡ work_rows (planned_over 0 0 l r q).plan left right
  work-anywhere a b l r = ap (after_source l r) (rows-anywhere b l r q.join)

module _ (db : Database) (q : Query) where
  abbrev left : Option StoredTable
  left = stored db q.source.table.text

  abbrev right : Option StoredTable
  right = right_table db q.join

  abbrev left_at : ℕ
  left_at = position_of (schemas_of db) q.source.table.text

  abbrev right_at : ℕ
  right_at = position_of (schemas_of db) (right_name q.join)

  -- whatever looks at the schemas alone
  found : {A : Type 0} (f : Option Schema → Option Schema → A) → f (schema_of (schemas_of db) q.source.table.text) (right_schema (schemas_of db) q.join) ≡ f (schema_in left) (schema_in right)
  found f =
      ap (λ (l : Option Schema). f l (right_schema (schemas_of db) q.join)) (schema-stored db q.source.table.text)
      ∙ ap (λ (r : Option Schema). f (schema_in left) r) (right-stored db q.join)

  pub same-faults : (planned (schemas_of db) q).faults ≡ (planned_in left right q).faults
  same-faults = found (λ l r. (planned_over 0 0 l r q).faults)

  pub same-rows : work_rows (planned (schemas_of db) q).plan left right ≡ work_rows (planned_in left right q).plan left right
  same-rows =
      work-anywhere q left right left_at right_at (schema_of (schemas_of db) q.source.table.text) (right_schema (schemas_of db) q.join)
      ∙ found (λ l r. work_rows (planned_over 0 0 l r q).plan left right)

  pub same-table : (rows : List Row) → finished (planned (schemas_of db) q).plan rows ≡ finished (planned_in left right q).plan rows
  same-table rows = found (λ l r. finished (planned_over 0 0 l r q).plan rows)

  pub same-rows_faults : (rows : List Row) → rows_faults (planned (schemas_of db) q).plan rows ≡ rows_faults (planned_in left right q).plan rows
  same-rows_faults rows = found (λ l r. rows_faults (planned_over 0 0 l r q).plan rows)

pub plans-answer : PlansAnswer
plans-answer = record { faults = same-faults; rows = same-rows; table = same-table; rows_faults = same-rows_faults }
