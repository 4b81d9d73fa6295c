-- The answer of a plan is that of the statement that it is the plan of.
use Rattle.std.proofs.Common.{◌≡◌, ℕ, ◌<◌, Bool, true, false, cond, leb, List, [], ◌∷◌, ◌++◌, length, Option, Some, None, is_some, IfSome, Ok, Err, refl, sym, ap, ap₂, ◌∙◌, subst}
use Rattle.std.specs.List.{flat_map}
use Rattle.qd_base.specs.declared.code.Code.{Code}
use Rattle.qd_base.specs.declared.code.Code.TheVariants as code
use Rattle.qd_base.specs.declared.limits.TheConstants.{MAX_RESULT_BYTES}
use Rattle.qd_base.specs.declared.request.Table.{Table}
use Rattle.qd_base.specs.declared.schema.Schema.{Schema}
use Rattle.qd_base.specs.Codes.{number_of}
use Rattle.qd_base.specs.Database.{Database, StoredTable, schemas_of}
use Rattle.qd_base.specs.Rows.{Row}
use Rattle.qd_base.specs.Schemas.{schema_of, table_at}
use Rattle.qd_base.proofs.Tables.{table_within}
use Rattle.qd_sql_ast.specs.declared.tree.Join.{Join}
use Rattle.qd_sql_ast.specs.declared.tree.Query.{Query}
use Rattle.qd_sql_ast.specs.declared.tree.Source.{Source}
use Rattle.qd_sql_ast.specs.declared.tree.Stmt.{Stmt}
use Rattle.qd_sql_ast.specs.declared.tree.Stmt.TheVariants as is
use Rattle.qd_print.specs.Printed.{csv}
use Rattle.qd_meaning.specs.declared.parts.AskPlan.{AskPlan}
use Rattle.qd_meaning.specs.declared.refusal.Refusal.{Refusal}
use Rattle.qd_meaning.specs.Items.{Shows, bound_in, columns_of, items_of, some_made}
use Rattle.qd_meaning.specs.Laws.{PlansAnswer}
use Rattle.qd_meaning.specs.Planned as parts
use Rattle.qd_meaning.specs.Refusals.{at, judged, least}
use Rattle.qd_meaning.specs.Answer as meaning
use Rattle.qd_plan.specs.declared.asked.Plan.TheVariants as plan
use Rattle.qd_plan.specs.declared.fault.PlanFault.TheVariants as fault
use Rattle.qd_plan.specs.Plans.{Planned}
use Rattle.qd_sql_ast.specs.Kinds.{IsQuestion as Asks}
use Rattle.qd_query.specs.declared.answer.Answer.{Answer}
use Rattle.qd_query.specs.declared.answer.Answer.TheVariants as answer
use Rattle.qd_query.specs.Answers.{answer_of, answer_over, given, plan_answer, right_in, show_answer, sized, table_in, HasStride, IsWork, StrideIn}
use Rattle.qd_scan.specs.Sources.{rows_at, schema_at, SourceView, Tells}
use Rattle.qd_query.proofs.Strides.{as_many, back, front, is_work}
use Rattle.qd_query.proofs.Told.{named, placed, placed_low, schema_told, unnamed}

-- ---- refusals that go first

or_else_some : (rs others : List Refusal) (r : Refusal) → least rs ≡ Some r → least (meaning.or_else rs others) ≡ Some r
or_else_some [] others r e = cc
or_else_some (x ∷ rs) others r e = e

-- ---- a table that isn't too large

sized_is : (t : Table) → given (judged (least (meaning.size_faults t)) t) ≡ sized t
sized_is t = go (leb (length (csv t)) MAX_RESULT_BYTES)
  where
    go : (b : Bool) → given (judged (least (cond b [] (at code.ResultTooLarge 0))) t) ≡ cond b (answer.Rows t) (answer.Refused (number_of code.ResultTooLarge) 0)
    go true = refl
    go false = refl

-- ---- the tables of a query

left_found : (left right : Option Schema) (left_at right_at : ℕ) (q : Query) → (parts.planned_over left_at right_at left right q).faults ≡ [] → is_some left ≡ true
left_found None right left_at right_at q none = cc
left_found (Some s) right left_at right_at q none = refl

right_none : (left right : Option Schema) (left_at right_at : ℕ) (q : Query) → (parts.planned_over left_at right_at left right q).faults ≡ [] → parts.join_faults_in left right q.source q.join ≡ []
right_none left right left_at right_at q none =
    let scope = parts.scope_in left right q in
    let items = items_of scope q.selected in
    let a : List Refusal = parts.unknown_table left q.source.table in
    let b : List Refusal = parts.join_faults_in left right q.source q.join in
    let c : List Refusal = parts.filter_faults scope q.filter in
    let d : List Refusal = parts.latest_faults scope (parts.time_col_in left) q.latest in
    let e : List Refusal = flat_map (λ (i : Shows). i.faults) items in
    let f : List Refusal = parts.sampled_faults q.sampled (parts.made_kinds items) in
    let g : List Refusal = parts.order_faults (columns_of items) q.order in
    back a b (front (a ++ b) c (front (a ++ b ++ c) d (front (a ++ b ++ c ++ d) e (front (a ++ b ++ c ++ d ++ e) f (front (a ++ b ++ c ++ d ++ e ++ f) g none)))))

right_found : (left right : Option Schema) (source : Source) (j : Join) → parts.join_faults_in left right source (Some j) ≡ [] → is_some right ≡ true
right_found left None source j none = cc
right_found left (Some s) source j none = refl

-- the right table of a join is there
right_low : (schemas : List Schema) (left : Option Schema) (source : Source) (j : Option Join) → parts.join_faults_in left (parts.right_schema schemas j) source j ≡ []
    → IfSome (parts.joined_with (parts.position_of schemas (parts.right_name j)) left (parts.right_schema schemas j) j) (λ x. x.0 < length schemas)
right_low schemas left source None none = tt
right_low schemas left source (Some j) none = placed_low schemas j.right.table.text (right_found left (schema_of schemas j.right.table.text) source j none)

right_is : (db : Database) (left : Option Schema) (source : Source) (j : Option Join) → parts.join_faults_in left (parts.right_schema (schemas_of db) j) source j ≡ []
    → right_in db (parts.joined_with (parts.position_of (schemas_of db) (parts.right_name j)) left (parts.right_schema (schemas_of db) j) j) ≡ meaning.right_table db j
right_is db left source None none = refl
right_is db left source (Some j) none =
    sym (named db j.right.table.text (parts.position_of (schemas_of db) j.right.table.text) (placed (schemas_of db) j.right.table.text (right_found left (schema_of (schemas_of db) j.right.table.text) source j none)))

-- what a plan gives that is one of a query
pub record IsReady (schemas : List Schema) (made : AskPlan) : Type 0 where
  pub left : made.left < length schemas
  pub right : IfSome made.join (λ j. j.0 < length schemas)
  pub work : IsWork made.work

-- the samples are without refusals
sample_none : (left right : Option Schema) (left_at right_at : ℕ) (q : Query) → (parts.planned_over left_at right_at left right q).faults ≡ [] → parts.sampled_faults q.sampled (parts.made_kinds (items_of (parts.scope_in left right q) q.selected)) ≡ []
sample_none left right left_at right_at q none =
    let scope = parts.scope_in left right q in
    let items = items_of scope q.selected in
    let a : List Refusal = parts.unknown_table left q.source.table in
    let b : List Refusal = parts.join_faults_in left right q.source q.join in
    let c : List Refusal = parts.filter_faults scope q.filter in
    let d : List Refusal = parts.latest_faults scope (parts.time_col_in left) q.latest in
    let e : List Refusal = flat_map (λ (i : Shows). i.faults) items in
    let f : List Refusal = parts.sampled_faults q.sampled (parts.made_kinds items) in
    let g : List Refusal = parts.order_faults (columns_of items) q.order in
    back (a ++ b ++ c ++ d ++ e) f (front (a ++ b ++ c ++ d ++ e ++ f) g none)

query_ready : (schemas : List Schema) (q : Query) → (parts.planned schemas q).faults ≡ [] → HasStride q.sampled → IsReady schemas (parts.planned schemas q).plan
query_ready schemas q none stride =
    let left = schema_of schemas q.source.table.text in
    let right = parts.right_schema schemas q.join in
    let left_at = parts.position_of schemas q.source.table.text in
    let right_at = parts.position_of schemas (parts.right_name q.join) in
    let items = items_of (parts.scope_in left right q) q.selected in
    record {
      left = placed_low schemas q.source.table.text (left_found left right left_at right_at q none);
      right = right_low schemas left q.source q.join (right_none left right left_at right_at q none);
      work =
          is_work q.sampled (some_made items) (flat_map (λ (i : Shows). bound_in i.part) items) (parts.roles_in (parts.time_col_in left) q.sampled items) (parts.made_kinds items) stride
          (as_many (parts.buckets_in (parts.time_col_in left) q.sampled) items) (sample_none left right left_at right_at q none);
    }

-- ---- a query

module _ (law : PlansAnswer) (db : Database) (q : Query) where
  abbrev left : Option StoredTable
  left = meaning.stored db q.source.table.text

  abbrev right : Option StoredTable
  right = meaning.right_table db q.join

  abbrev p : parts.Planned
  p = parts.planned (schemas_of db) q

  abbrev p_in : parts.Planned
  p_in = meaning.planned_in left right q

  pub query_refused : (why : Code) (place : ℕ) → least (parts.planned (schemas_of db) q).faults ≡ Some (record { code = why; place = place }) → answer_of db (is.Query q) ≡ answer.Refused (number_of why) place
  query_refused why place e =
      ap (λ (o : Option Refusal). given (judged o (meaning.table_of db (is.Query q))))
      (or_else_some p_in.faults (meaning.rows_faults p_in.plan (meaning.work_rows p_in.plan left right)) (record { code = why; place = place }) (ap least (sym (law.faults db q)) ∙ e))

  same_tables : (rows : List Row) → given (judged (least (meaning.rows_faults p.plan rows)) (meaning.finished p.plan rows)) ≡ given (judged (least (meaning.rows_faults p_in.plan rows)) (meaning.finished p_in.plan rows))
  same_tables rows = ap₂ (λ (rs : List Refusal) (t : Table). given (judged (least rs) t)) (law.rows_faults db q rows) (law.table db q rows)

  pub query_answered : (parts.planned (schemas_of db) q).faults ≡ [] → plan_answer (parts.planned (schemas_of db) q).plan (meaning.stored db q.source.table.text) (meaning.right_table db q.join) ≡ answer_of db (is.Query q)
  query_answered none =
      ap (λ (rows : List Row). given (judged (least (meaning.rows_faults p.plan rows)) (meaning.finished p.plan rows))) (law.rows db q)
      ∙ same_tables (meaning.work_rows p_in.plan left right)
      ∙ ap (λ (rs : List Refusal). given (judged (least (meaning.or_else rs (meaning.rows_faults p_in.plan (meaning.work_rows p_in.plan left right)))) (meaning.finished p_in.plan (meaning.work_rows p_in.plan left right)))) (sym none ∙ law.faults db q)

query_told : (law : PlansAnswer) (db : Database) (schemas : List Schema) (q : Query) → schemas_of db ≡ schemas → (parts.planned schemas q).faults ≡ []
    → plan_answer (parts.planned schemas q).plan (Some (table_in db (parts.planned schemas q).plan.left)) (right_in db (parts.planned schemas q).plan.join) ≡ answer_of db (is.Query q)
query_told law db schemas q same none =
    subst (λ (ss : List Schema). (parts.planned ss q).faults ≡ [] → plan_answer (parts.planned ss q).plan (Some (table_in db (parts.planned ss q).plan.left)) (right_in db (parts.planned ss q).plan.join) ≡ answer_of db (is.Query q)) same
    (λ e.
    let p = parts.planned (schemas_of db) q in
    let l = schema_of (schemas_of db) q.source.table.text in
    let r = parts.right_schema (schemas_of db) q.join in
    let left_at = parts.position_of (schemas_of db) q.source.table.text in
    let right_at = parts.position_of (schemas_of db) (parts.right_name q.join) in
    let one : Some (table_in db left_at) ≡ meaning.stored db q.source.table.text = sym (named db q.source.table.text left_at (placed (schemas_of db) q.source.table.text (left_found l r left_at right_at q e))) in
    let two : right_in db p.plan.join ≡ meaning.right_table db q.join = right_is db l q.source q.join (right_none l r left_at right_at q e) in
    ap₂ (λ (x y : Option StoredTable). plan_answer p.plan x y) one two ∙ query_answered law db q e)
    none

-- ---- statements

pub ready : (schemas : List Schema) (s : Stmt) (made : AskPlan) → Asks s → StrideIn s → Planned schemas s (Ok (plan.Ask made)) → IsReady schemas made
ready schemas (is.Query q) made asks stride h = subst (IsReady schemas) (sym h.1) (query_ready schemas q h.0 stride)
ready schemas (is.Show name place) made asks stride h = absurd h
ready schemas (is.Create c) made asks stride h = absurd asks
ready schemas (is.Insert i) made asks stride h = absurd asks
ready schemas (is.Alter b) made asks stride h = absurd asks

asked : (law : PlansAnswer) (v : SourceView) (db : Database) (s : Stmt) (made : AskPlan) (a : Answer) → Asks s → Planned v.schemas s (Ok (plan.Ask made)) → Tells v db
    → a ≡ plan_answer made (Some (table_in db made.left)) (right_in db made.join) → a ≡ answer_of db s
asked law v db (is.Query q) made a asks h tells e =
    e ∙ ap (λ (p : AskPlan). plan_answer p (Some (table_in db p.left)) (right_in db p.join)) h.1 ∙ query_told law db v.schemas q tells.schemas h.0
asked law v db (is.Show name place) made a asks h tells e = absurd h
asked law v db (is.Create c) made a asks h tells e = absurd asks
asked law v db (is.Insert i) made a asks h tells e = absurd asks
asked law v db (is.Alter b) made a asks h tells e = absurd asks

pub told_asked : (law : PlansAnswer) (v : SourceView) (o : Option Database) (s : Stmt) (made : AskPlan) (a : Answer) → Asks s → Planned v.schemas s (Ok (plan.Ask made)) → IfSome o (Tells v)
    → IfSome o (λ db. a ≡ plan_answer made (Some (table_in db made.left)) (right_in db made.join)) → IfSome o (λ db. a ≡ answer_of db s)
told_asked law v None s made a asks h tells e = tt
told_asked law v (Some db) s made a asks h tells e = asked law v db s made a asks h tells e

-- SHOW PARTITIONS
shown_is : (db : Database) (name : List ℕ) (place : ℕ) (o : Option StoredTable) (t : StoredTable) → o ≡ Some t → given (judged (least (meaning.shown_faults o place)) (meaning.shown o)) ≡ show_answer t
shown_is db name place o t e = ap (λ (x : Option StoredTable). given (judged (least (meaning.shown_faults x place)) (meaning.shown x))) e ∙ sized_is (meaning.shown (Some t))

pub show_low : (schemas : List Schema) (s : Stmt) (table : ℕ) → Asks s → Planned schemas s (Ok (plan.Show table)) → table < length schemas
show_low schemas (is.Query q) table asks h = absurd h
show_low schemas (is.Show name place) table asks h = table_within schemas name table (sym h)
show_low schemas (is.Create c) table asks h = absurd asks
show_low schemas (is.Insert i) table asks h = absurd asks
show_low schemas (is.Alter b) table asks h = absurd asks

showed : (v : SourceView) (db : Database) (s : Stmt) (table : ℕ) (a : Answer) → Asks s → Planned v.schemas s (Ok (plan.Show table)) → Tells v db → a ≡ show_answer (table_in db table) → a ≡ answer_of db s
showed v db (is.Query q) table a asks h tells e = absurd h
showed v db (is.Show name place) table a asks h tells e =
    e ∙ sym (shown_is db name place (meaning.stored db name) (table_in db table) (named db name table (ap (λ (ss : List Schema). table_at ss name) tells.schemas ∙ h)))
showed v db (is.Create c) table a asks h tells e = absurd asks
showed v db (is.Insert i) table a asks h tells e = absurd asks
showed v db (is.Alter b) table a asks h tells e = absurd asks

pub told_shown : (v : SourceView) (o : Option Database) (s : Stmt) (table : ℕ) (a : Answer) → Asks s → Planned v.schemas s (Ok (plan.Show table)) → IfSome o (Tells v)
    → IfSome o (λ db. a ≡ show_answer (table_in db table)) → IfSome o (λ db. a ≡ answer_of db s)
told_shown v None s table a asks h tells e = tt
told_shown v (Some db) s table a asks h tells e = showed v db s table a asks h tells e

-- refusals
refused : (law : PlansAnswer) (v : SourceView) (db : Database) (s : Stmt) (why : Code) (place : ℕ) → Asks s → Planned v.schemas s (Err (fault.Refused why place)) → Tells v db → answer.Refused (number_of why) place ≡ answer_of db s
refused law v db (is.Query q) why place asks h tells =
    sym (query_refused law db q why place (ap (λ (ss : List Schema). least (parts.planned ss q).faults) tells.schemas ∙ h))
refused law v db (is.Show name at_name) why place asks h tells =
    ap₂ (λ (c : Code) (n : ℕ). answer.Refused (number_of c) n) h.1 h.2
    ∙ sym (ap (λ (x : Option StoredTable). given (judged (least (meaning.shown_faults x at_name)) (meaning.shown x))) (unnamed db name (ap (λ (ss : List Schema). table_at ss name) tells.schemas ∙ h.0)))
refused law v db (is.Create c) why place asks h tells = absurd asks
refused law v db (is.Insert i) why place asks h tells = absurd asks
refused law v db (is.Alter b) why place asks h tells = absurd asks

pub told_refused : (law : PlansAnswer) (v : SourceView) (o : Option Database) (s : Stmt) (why : Code) (place : ℕ) → Asks s → Planned v.schemas s (Err (fault.Refused why place)) → IfSome o (Tells v)
    → IfSome o (λ db. answer.Refused (number_of why) place ≡ answer_of db s)
told_refused law v None s why place asks h tells = tt
told_refused law v (Some db) s why place asks h tells = refused law v db s why place asks h tells

pub told_same : (o : Option Database) (a b : Answer) (f : Database → Answer) → a ≡ b → IfSome o (λ db. b ≡ f db) → IfSome o (λ db. a ≡ f db)
told_same None a b f same h = tt
told_same (Some db) a b f same h = same ∙ h

-- ---- plans

pub told_plan : (v : SourceView) (o : Option Database) (p : AskPlan) (time_col : ℕ) (rows : List Row) (a : Answer) → IfSome o (Tells v) → p.left < length v.schemas → time_col ≡ (schema_at v p.left).time_col
    → a ≡ answer_over p (meaning.worked p.work time_col (meaning.latest_rows p.latest (meaning.kept_rows p.keep rows)))
    → IfSome o (λ db. meaning.kept_rows p.keep rows ≡ meaning.kept_rows p.keep (meaning.source_rows p.join (Some (table_in db p.left)) (right_in db p.join)))
    → IfSome o (λ db. a ≡ plan_answer p (Some (table_in db p.left)) (right_in db p.join))
told_plan v None p time_col rows a tells low col made h = tt
told_plan v (Some db) p time_col rows a tells low col made h =
    made
    ∙ ap (λ (c : ℕ). answer_over p (meaning.worked p.work c (meaning.latest_rows p.latest (meaning.kept_rows p.keep rows)))) (col ∙ ap (λ (s : Schema). s.time_col) (sym (schema_told v db p.left tells low)))
    ∙ ap (λ (rs : List Row). answer_over p (meaning.worked p.work (table_in db p.left).schema.time_col (meaning.latest_rows p.latest rs))) h

-- ---- partitions

-- the partitions of the rows that a table's scan gives are those of the told table
pub told_partitions : (v : SourceView) (o : Option Database) (table : ℕ) (schema : Schema) (rows : List Row) (a : Answer) → IfSome o (Tells v) → table < length v.schemas → schema ≡ schema_at v table
    → a ≡ show_answer (record { schema = schema; rows = rows }) → IfSome o (λ db. rows ≡ rows_at db table) → IfSome o (λ db. a ≡ show_answer (table_in db table))
told_partitions v None table schema rows a tells low lent made h = tt
told_partitions v (Some db) table schema rows a tells low lent made h =
    made ∙ ap₂ (λ (s : Schema) (rs : List Row). show_answer (record { schema = s; rows = rs })) (lent ∙ sym (schema_told v db table tells low)) h
