-- Answers are typed.
use Rattle.std.proofs.Common.{◌≡◌, ℕ, zero, suc, ◌+◌, inr, Bool, true, false, cond, List, [], ◌∷◌, ◌++◌, All, IfSome, IsSomeAnd, find, map, length, filter, Option, Some, None, Ok, is_some, refl, sym, ap, ◌∙◌, subst, arith, append-nil, append_assoc, true≢false}
use Rattle.std.specs.Prelude.{if◌then◌else◌, nat_le, not, ◌==◌, slice_get}
use Rattle.std.specs.List.{AllByRecursion, AllZip, flat_map, range_with_len}
use Rattle.std.proofs.lemmas.Bool.Decides.{nat_tests}
use Rattle.std.proofs.lemmas.List.{length-map}
use Rattle.std.proofs.lemmas.List.Elements.{All-from_recursion, recursion_from_All}
use Rattle.qd_base.specs.declared.cell.Cell.TheVariants as cell
use Rattle.qd_base.specs.declared.code.Code.{Code}
use Rattle.qd_base.specs.declared.code.Code.TheVariants as code
use Rattle.qd_base.specs.declared.request.Table.{Table}
use Rattle.qd_base.specs.declared.schema.Col.{Col}
use Rattle.qd_base.specs.declared.schema.ColType.{ColType}
use Rattle.qd_base.specs.declared.schema.ColType.TheVariants as kind
use Rattle.qd_base.specs.declared.schema.PartUnit.{PartUnit}
use Rattle.qd_base.specs.declared.schema.Schema.{Schema}
use Rattle.qd_base.specs.Database.{Database, StoredTable, schemas_of}
use Rattle.qd_base.specs.Lawful.{IsRowOf, IsSchema}
use Rattle.qd_base.specs.Rows.{Row}
use Rattle.qd_base.specs.Schemas.{same_name}
use Rattle.qd_sql_ast.specs.declared.tree.Join.{Join}
use Rattle.qd_sql_ast.specs.declared.tree.Query.{Query}
use Rattle.qd_sql_ast.specs.declared.tree.Sampled.{Sampled}
use Rattle.qd_sql_ast.specs.declared.tree.Stmt.{Stmt}
use Rattle.qd_sql_ast.specs.declared.tree.Stmt.TheVariants as is
use Rattle.qd_value.specs.declared.bound.Bound.{Bound}
use Rattle.qd_value.specs.Value.{passes}
use Rattle.qd_meaning.specs.declared.refusal.Refusal.{Refusal}
use Rattle.qd_meaning.specs.Answer.{kept_rows, latest_rows, missing_row, or_else, output_row, planned_in, query_table, refusals, right_table, rows_faults, rows_in, schema_in, shown, source_rows, stored, table_of, work_rows, worked}
use Rattle.qd_meaning.specs.Bindings.{BindingsFollow}
use Rattle.qd_meaning.specs.Grouped.{aggregates, groups_of, key_of, rows_of}
use Rattle.qd_meaning.specs.Items.{Key, Made, Part, Role, Shows, Start, Value, aggs_among, bound_in, columns_of, items_of, keys_among, picks_from, role_by, role_of, some_made}
use Rattle.qd_meaning.specs.Joined.{last_or, may_take}
use Rattle.qd_meaning.specs.Laws.{RefusedHasNoAnswer}
use Rattle.qd_meaning.specs.Ordered.{ordered}
use Rattle.qd_meaning.specs.Outputs.{kind_by}
use Rattle.qd_meaning.specs.Partitions.{once, partition_columns, partition_row, partition_start, partitions}
use Rattle.qd_meaning.specs.Planned.{cols_in, filter_faults, join_faults_in, join_spec, joined_with, latest_faults, made_kinds, order_faults, picks_of, roles_in, sampled_faults, scope_behind, scope_in, time_col_in, unknown_table, work_of}
use Rattle.qd_meaning.specs.Refusals.{judged, least, unless}
use Rattle.qd_meaning.specs.Sampled.{sample_row}
use Rattle.qd_meaning.specs.Sampling.{align_faults, fills_faults, sample_spec}
use Rattle.qd_meaning.specs.Scopes.{Scope, called, scope_column, scope_of}
use Rattle.qd_meaning.specs.Typing.{Form, NumberAt, Other, Plain, TextAt}
use Rattle.qd_query.specs.Typed.{AnswersAreTyped, AreLawfulTables, IsTypedBy}
use Rattle.qd_query.proofs.TypedItems.{IsGood, IsGoodPart, all_good}
use Rattle.qd_query.proofs.TypedOperators.{each_filter, each_latest, each_limited, each_map, each_ordered, each_weaker, back_none, fills_fit, front_none, groups_fit, last_one, missing_fits, row_fits, sampled_rows}
use Rattle.qd_query.proofs.TypedRows.{AllStand, Placed, StandAt, StartsBy, aggs_stand, agg_values, all_placed, items_placed, key_kinds, key_values, keys_stand, kinds_of, plain_stand, roles_of, row_typed, stand_behind, zip_append, zip_length}
use Rattle.qd_query.proofs.TypedValues.{FitsColumns, MayStand, columns_in}

-- ---- the rows of a query's work

abbrev FitsItems : List ℕ → List Shows → Row → Type 0
FitsItems picks items row = AllZip (Placed row) picks (kinds_of items)

stand_last : (front cells : Row) (at : ℕ) (kinds : List ColType) → at ≡ length front → AllStand kinds cells → StandAt (front ++ cells) at kinds
stand_last front cells at kinds same h = subst (λ (r : Row). StandAt (front ++ r) at kinds) (append-nil cells) (stand_behind front cells [] at kinds same h)

no_starts : (row : Row) (items : List Shows) → AllByRecursion (λ (s : Shows). StartsBy (role_of None s.part) s.kind row) items
no_starts row [] = tt
no_starts row (s ∷ ss) = (by s.part, no_starts row ss)
  where
    by : (p : Part) → StartsBy (role_of None p) s.kind row
    by (Value x) = tt
    by (Made a) = tt

-- the designated column is there, and a TIMESTAMP
abbrev IsTimeAt : List Col → ℕ → Type 0
IsTimeAt cols n = (c : Col) × (slice_get cols n ≡ Some c) × (c.kind ≡ kind.Time)

module _ (cols : List Col) (items : List Shows) (good : AllByRecursion (IsGood cols) items) (rows : List Row) (fits : AllByRecursion (FitsColumns cols) rows) where
  plain_rows : (roles : List Role) → length roles ≡ length items → some_made items ≡ false
      → AllByRecursion (FitsItems (range_with_len 0 (length roles)) items) (map (key_of (flat_map (λ (s : Shows). bound_in s.part) items)) rows)
  plain_rows roles same none =
      let es = flat_map (λ (s : Shows). bound_in s.part) items in
      each_map (FitsColumns cols) (FitsItems (range_with_len 0 (length roles)) items) (key_of es)
      (λ row fit. all_placed (key_of es row) 0 items roles same (stand_last [] (key_of es row) 0 (kinds_of items) refl (key_values cols None (kinds_of items) es row fit (plain_stand cols None items good none)))) rows fits

  group_rows : AllByRecursion (FitsItems (picks_from 0 (length (keys_among (roles_of None items))) (roles_of None items)) items)
      (map (λ (key : Row). key ++ aggregates (aggs_among (roles_of None items)) (rows_of (keys_among (roles_of None items)) key rows)) (groups_of (keys_among (roles_of None items)) rows))
  group_rows =
      let keys = keys_among (roles_of None items) in
      let aggs = aggs_among (roles_of None items) in
      let kk = key_kinds None items in
      let hk = keys_stand cols None items good in
      let ha = aggs_stand cols None items good in
      each_map (AllStand kk) (FitsItems (picks_from 0 (length keys) (roles_of None items)) items) (λ (key : Row). key ++ aggregates aggs (rows_of keys key rows))
      (λ key stands.
      let made = aggregates aggs (rows_of keys key rows) in
      let as_many : length keys ≡ length key = sym (zip_length _ kk keys hk) ∙ zip_length _ kk key stands in
      items_placed None (key ++ made) items (no_starts (key ++ made) items) 0 (length keys) (stand_behind [] key made 0 kk refl stands)
      (stand_last key made (length keys) (made_kinds items) as_many (agg_values cols None (made_kinds items) aggs (rows_of keys key rows) (each_filter (FitsColumns cols) _ rows fits) ha)))
      (groups_of keys rows) (groups_fit cols None kk keys rows hk fits)

  module _ (time_col : ℕ) (timed : IsTimeAt cols time_col) where
    starts_one : (start : ℕ) (more : Row) (p : Part) (k : ColType) → IsGoodPart cols k p → StartsBy (role_of (Some time_col) p) k (cell.Time start ∷ more)
    starts_one start more (Made a) k h = tt
    starts_one start more (Value x) k h = go x.form refl
      where
        is_time : (n : ℕ) (col : Col) → x.form ≡ Plain n col → (n == time_col) ≡ true → MayStand k (cell.Time start)
        is_time n col form test =
            let same : n ≡ time_col = grind (arith, nat_tests) in
            let there : Some col ≡ Some timed.0 = sym (h.1.plain n col form).1 ∙ ap (slice_get cols) same ∙ timed.1 in
            let is : col ≡ timed.0 = cc in
            let kinds : k ≡ kind.Time = h.0 ∙ ap (λ (f : Form). kind_by f x.class) form ∙ ap (λ (c : Col). c.kind) is ∙ timed.2 in
            subst (λ (z : ColType). MayStand z (cell.Time start)) (sym kinds) (inr refl)

        by : (b : Bool) → (b ≡ true → MayStand k (cell.Time start)) → StartsBy (if b then Start else Key x.bound) k (cell.Time start ∷ more)
        by true f = f refl
        by false f = tt

        go : (f : Form) → x.form ≡ f → StartsBy (role_by (Some time_col) f x.bound) k (cell.Time start ∷ more)
        go (Plain n col) form = by (n == time_col) (is_time n col form)
        go (TextAt bytes place) form = tt
        go (NumberAt n signed place) form = tt
        go Other form = tt

    starts : (start : ℕ) (more : Row) (xs : List Shows) → AllByRecursion (IsGood cols) xs → AllByRecursion (λ (s : Shows). StartsBy (role_of (Some time_col) s.part) s.kind (cell.Time start ∷ more)) xs
    starts start more xs h = each_weaker (IsGood cols) (λ (s : Shows). StartsBy (role_of (Some time_col) s.part) s.kind (cell.Time start ∷ more)) (λ s. starts_one start more s.part s.kind) xs h

    sample_rows : (s : Sampled) → fills_faults s.fills (made_kinds items) ≡ []
        → AllByRecursion (FitsItems (picks_from 1 (length (keys_among (roles_of (Some time_col) items)) + 1) (roles_of (Some time_col) items)) items)
        (worked (Rattle.qd_meaning.specs.declared.parts.Work.TheVariants.Sample (sample_spec s (keys_among (roles_of (Some time_col) items)) (aggs_among (roles_of (Some time_col) items)))) time_col rows)
    sample_rows s none =
        let roles = roles_of (Some time_col) items in
        let keys = keys_among roles in
        let aggs = aggs_among roles in
        let kk = key_kinds (Some time_col) items in
        let hk = keys_stand cols (Some time_col) items good in
        let ha = aggs_stand cols (Some time_col) items good in
        sampled_rows cols (Some time_col) (sample_spec s keys aggs) kk (made_kinds items) (FitsItems (picks_from 1 (length keys + 1) roles) items) hk ha
        (fills_fit s.fills (made_kinds items) aggs (zip_length _ (made_kinds items) aggs ha) none)
        (λ start key made stands filled.
        let as_many : length keys ≡ length key = sym (zip_length _ kk keys hk) ∙ zip_length _ kk key stands in
        items_placed (Some time_col) (sample_row start key made) items (starts start (key ++ made) items good) 1 (length keys + 1) (stand_behind (cell.Time start ∷ []) key made 1 kk refl stands)
        (stand_last (cell.Time start ∷ key) made (length keys + 1) (made_kinds items) (let same : length keys + 1 ≡ suc (length key) = omega (arith, as_many) in same) filled))
        time_col rows fits

  -- by what the query makes of its rows
  work_fits : (time_col : ℕ) (o : Option Sampled) → (is_some o ≡ true → IsTimeAt cols time_col) → sampled_faults o (made_kinds items) ≡ []
      → AllByRecursion (FitsItems (picks_of o (some_made items) (roles_in time_col o items)) items)
      (worked (work_of o (some_made items) (flat_map (λ (s : Shows). bound_in s.part) items) (roles_in time_col o items)) time_col rows)
  work_fits time_col None timed none = by (some_made items) refl
    where
      by : (b : Bool) → some_made items ≡ b
          → AllByRecursion (FitsItems (picks_of None b (roles_of None items)) items) (worked (work_of None b (flat_map (λ (s : Shows). bound_in s.part) items) (roles_of None items)) time_col rows)
      by true some = group_rows
      by false some = plain_rows (roles_of None items) (length-map items _) some
  work_fits time_col (Some s) timed none =
      sample_rows time_col (timed refl) s
      (back_none (unless (nat_le 1 (length (made_kinds items))) code.Keys s.at) (fills_faults s.fills (made_kinds items))
      (front_none (unless (nat_le 1 (length (made_kinds items))) code.Keys s.at ++ fills_faults s.fills (made_kinds items)) (align_faults s.align) none))

-- ---- tables

abbrev IsLawfulTable : StoredTable → Type 0
IsLawfulTable t = IsSchema t.schema × AllByRecursion (IsRowOf t.schema) t.rows

found : {A : Type 0} (P : A → Type 0) (test : A → Bool) (xs : List A) → AllByRecursion P xs → IfSome (find test xs) P
found P test [] h = tt
found P test (x ∷ xs) h = by (test x) (found P test xs h.1)
  where
    by : (b : Bool) → IfSome (find test xs) P → IfSome (cond b (Some x) (find test xs)) P
    by true rest = h.0
    by false rest = rest

each_lawful : (db : Database) → AllByRecursion IsSchema (schemas_of db) → AllByRecursion (λ (t : StoredTable). All (IsRowOf t.schema) t.rows) db → AllByRecursion IsLawfulTable db
each_lawful [] schemas rows = tt
each_lawful (t ∷ ts) schemas rows = ((schemas.0, recursion_from_All (IsRowOf t.schema) t.rows rows.0), each_lawful ts schemas.1 rows.1)

all_lawful : (db : Database) → AreLawfulTables db → AllByRecursion IsLawfulTable db
all_lawful db lawful =
    each_lawful db (recursion_from_All IsSchema (schemas_of db) lawful.schemas.each) (recursion_from_All (λ (t : StoredTable). All (IsRowOf t.schema) t.rows) db lawful.rows)

stored_lawful : (db : Database) (name : List ℕ) → AreLawfulTables db → IfSome (stored db name) IsLawfulTable
stored_lawful db name lawful = found IsLawfulTable (λ (t : StoredTable). same_name t.schema.name name) db (all_lawful db lawful)

right_lawful : (db : Database) (j : Option Join) → AreLawfulTables db → IfSome (right_table db j) IsLawfulTable
right_lawful db None lawful = tt
right_lawful db (Some j) lawful = stored_lawful db j.right.table.text lawful

rows_fit : (t : Option StoredTable) → IfSome t IsLawfulTable → AllByRecursion (FitsColumns (cols_in (schema_in t))) (rows_in t)
rows_fit None h = tt
rows_fit (Some t) h = each_weaker (IsRowOf t.schema) (FitsColumns t.schema.cols) (row_fits t.schema) t.rows h.1

missing_row_fits : (t : Option StoredTable) → FitsColumns (cols_in (schema_in t)) (missing_row t)
missing_row_fits t = missing_fits (cols_in (schema_in t))

-- ---- the columns of a query

scope_columns : (name : List ℕ) (cols : List Col) → columns_in (map (scope_column name) cols) ≡ cols
scope_columns name [] = refl
scope_columns name (c ∷ cs) = ap (λ (l : List Col). c ∷ l) (scope_columns name cs)

columns_append : (a b : Scope) → columns_in (a ++ b) ≡ columns_in a ++ columns_in b
columns_append [] b = refl
columns_append (c ∷ cs) b = ap (λ (l : List Col). c.col ∷ l) (columns_append cs b)

abbrev behind_columns : Option Schema → Option Join → List Col
behind_columns right None = []
behind_columns right (Some j) = cols_in right

behind_are : (right : Option Schema) (j : Option Join) → columns_in (scope_behind right j) ≡ behind_columns right j
behind_are right None = refl
behind_are right (Some j) = scope_columns (called j.right).text (cols_in right)

all_columns : (left right : Option Schema) (q : Query) → columns_in (scope_in left right q) ≡ cols_in left ++ behind_columns right q.join
all_columns left right q =
    columns_append (scope_of q.source (cols_in left)) (scope_behind right q.join)
    ∙ ap (λ (l : List Col). l ++ columns_in (scope_behind right q.join)) (scope_columns (called q.source).text (cols_in left)) ∙ ap (λ (l : List Col). cols_in left ++ l) (behind_are right q.join)

front_column : (xs ys : List Col) (n : ℕ) (c : Col) → slice_get xs n ≡ Some c → slice_get (xs ++ ys) n ≡ Some c
front_column [] ys n c h = absurd (cc)
front_column (x ∷ xs) ys zero c h = h
front_column (x ∷ xs) ys (suc n) c h = front_column xs ys n c h

-- ---- the rows of a query's tables

sources_fit : (left right : Option StoredTable) (j : Option Join) → IfSome left IsLawfulTable → IfSome right IsLawfulTable
    → AllByRecursion (FitsColumns (cols_in (schema_in left) ++ behind_columns (schema_in right) j)) (source_rows (joined_with 0 (schema_in left) (schema_in right) j) left right)
sources_fit left right None l r = subst (λ (cs : List Col). AllByRecursion (FitsColumns cs) (rows_in left)) (sym (append-nil (cols_in (schema_in left)))) (rows_fit left l)
sources_fit left right (Some j) l r =
    let spec = join_spec (schema_in left) (schema_in right) j in
    let taken : Row → List Row = λ x. filter (may_take spec (time_col_in (schema_in left)) (time_col_in (schema_in right)) x) (rows_in right) in
    each_map (FitsColumns (cols_in (schema_in left))) (FitsColumns (cols_in (schema_in left) ++ cols_in (schema_in right))) (λ (x : Row). x ++ last_or (missing_row right) (taken x))
    (λ x fit.
    zip_append (λ (c : Col) (y : _). MayStand c.kind y) (cols_in (schema_in left)) (cols_in (schema_in right)) x (last_or (missing_row right) (taken x)) fit
    (last_one (FitsColumns (cols_in (schema_in right))) (missing_row right) (taken x) (missing_row_fits right)
    (each_filter (FitsColumns (cols_in (schema_in right))) (may_take spec (time_col_in (schema_in left)) (time_col_in (schema_in right)) x) (rows_in right) (rows_fit right r))))
    (rows_in left) (rows_fit left l)

kept_fit : (P : Row → Type 0) (keep : Option Bound) (rows : List Row) → AllByRecursion P rows → AllByRecursion P (kept_rows keep rows)
kept_fit P None rows h = h
kept_fit P (Some e) rows h = each_filter P (passes e) rows h

latest_fit : (P : Row → Type 0) (keys : Option (List ℕ)) (rows : List Row) → AllByRecursion P rows → AllByRecursion P (latest_rows keys rows)
latest_fit P None rows h = h
latest_fit P (Some ks) rows h = each_latest P ks rows h

time_there : (left : Option StoredTable) (more : List Col) → IfSome left IsLawfulTable → is_some (schema_in left) ≡ true → IsTimeAt (cols_in (schema_in left) ++ more) (time_col_in (schema_in left))
time_there None more h some = absurd (true≢false (sym some))
time_there (Some t) more h some = go (slice_get t.schema.cols t.schema.time_col) refl h.0.designated
  where
    go : (o : Option Col) → slice_get t.schema.cols t.schema.time_col ≡ o → IsSomeAnd o (λ (c : Col). c.kind ≡ kind.Time) → IsTimeAt (t.schema.cols ++ more) t.schema.time_col
    go None at h = absurd h
    go (Some c) at h = (c, front_column t.schema.cols more t.schema.time_col c at, h)

holds : (b : Bool) (why : Code) (place : ℕ) → unless b why place ≡ [] → b ≡ true
holds true why place h = refl
holds false why place h = absurd (cc)

or_else_none : (xs ys : List Refusal) → or_else xs ys ≡ [] → xs ≡ []
or_else_none [] ys h = refl
or_else_none (x ∷ xs) ys h = absurd (cc)

module _ (follow : BindingsFollow) (left right : Option StoredTable) (q : Query) (l : IfSome left IsLawfulTable) (r : IfSome right IsLawfulTable) (none : (planned_in left right q).faults ≡ []) where
  query_typed : AllByRecursion (IsTypedBy (query_table left right (planned_in left right q).plan).cols) (query_table left right (planned_in left right q).plan).rows
  query_typed =
      let ls = schema_in left in
      let rs = schema_in right in
      let scope = scope_in ls rs q in
      let cols = columns_in scope in
      let time_col = time_col_in ls in
      let items = items_of scope q.selected in
      let out = columns_of items in
      let p = (planned_in left right q).plan in
      let A = unknown_table ls q.source.table in
      let B = join_faults_in ls rs q.source q.join in
      let C = filter_faults scope q.filter in
      let D = latest_faults scope time_col q.latest in
      let E = flat_map (λ (i : Shows). i.faults) items in
      let F = sampled_faults q.sampled (made_kinds items) in
      let G = order_faults out q.order in
      let to_F = front_none (A ++ B ++ C ++ D ++ E ++ F) G none in
      let none_sampled : F ≡ [] = back_none (A ++ B ++ C ++ D ++ E) F to_F in
      let none_left : A ≡ [] = front_none A B (front_none (A ++ B) C (front_none (A ++ B ++ C) D (front_none (A ++ B ++ C ++ D) E (front_none (A ++ B ++ C ++ D ++ E) F to_F)))) in
      let are : cols ≡ cols_in ls ++ behind_columns rs q.join = all_columns ls rs q in
      let source = source_rows p.join left right in
      let source_fits : AllByRecursion (FitsColumns cols) source = subst (λ (cs : List Col). AllByRecursion (FitsColumns cs) source) (sym are) (sources_fit left right q.join l r) in
      let rows = latest_rows p.latest (kept_rows p.keep source) in
      let rows_fits : AllByRecursion (FitsColumns cols) rows = latest_fit (FitsColumns cols) p.latest (kept_rows p.keep source) (kept_fit (FitsColumns cols) p.keep source source_fits) in
      let timed : IsTimeAt cols time_col = subst (λ (cs : List Col). IsTimeAt cs time_col) (sym are) (time_there left (behind_columns rs q.join) l (holds (is_some ls) code.UnknownTable q.source.table.at none_left)) in
      let made = worked p.work time_col rows in
      let made_fits : AllByRecursion (FitsItems p.picks items) made = work_fits cols items (all_good follow scope q.selected) rows rows_fits time_col q.sampled (λ some. timed) none_sampled in
      let shown_rows = map (output_row p.picks out) made in
      let shown_typed : AllByRecursion (IsTypedBy out) shown_rows = each_map (FitsItems p.picks items) (IsTypedBy out) (output_row p.picks out) (λ row h. row_typed [] items p.picks row h) made made_fits in
      each_limited (IsTypedBy out) p.limit (ordered p.order shown_rows) (each_ordered (IsTypedBy out) p.order shown_rows shown_typed)

-- ---- SHOW PARTITIONS

abbrev IsSomeRow : List Row → Type 0
IsSomeRow [] = ⊥
IsSomeRow (r ∷ rs) = Unit {0}

partition_typed : (unit : PartUnit) (time_col : ℕ) (rows : List Row) → IsSomeRow rows → IsTypedBy partition_columns (partition_row unit time_col rows)
partition_typed unit time_col [] some = absurd some
partition_typed unit time_col (r ∷ rs) some = (tt, (tt, (tt, (tt, tt))))

some_passes : (test : Row → Bool) (front : List Row) (r : Row) (back : List Row) → test r ≡ true → IsSomeRow (filter test (front ++ r ∷ back))
some_passes test [] r back h = subst (λ (b : Bool). IsSomeRow (cond b (r ∷ filter test back) (filter test back))) (sym h) tt
some_passes test (x ∷ xs) r back h = by (test x) (some_passes test xs r back h)
  where
    by : (b : Bool) → IsSomeRow (filter test (xs ++ r ∷ back)) → IsSomeRow (cond b (x ∷ filter test (xs ++ r ∷ back)) (filter test (xs ++ r ∷ back)))
    by true rest = tt
    by false rest = rest

equal : (n : ℕ) → (n == n) ≡ true
equal n = grind (arith, nat_tests)

each_start : (f : Row → ℕ) (front back : List Row) → AllByRecursion (λ (n : ℕ). IsSomeRow (filter (λ r. f r == n) (front ++ back))) (map f back)
each_start f front [] = tt
each_start f front (r ∷ rs) = (
  some_passes (λ x. f x == f r) front r rs (equal (f r)),
  subst (λ (rows : List Row). AllByRecursion (λ (n : ℕ). IsSomeRow (filter (λ x. f x == n) rows)) (map f rs)) (append_assoc front (r ∷ []) rs) (each_start f (front ++ r ∷ []) rs),
)

each_once : (P : ℕ → Type 0) (ns : List ℕ) → AllByRecursion P ns → AllByRecursion P (once ns)
each_once P [] h = tt
each_once P (n ∷ ns) h = (h.0, each_filter P (λ x. not (x == n)) (once ns) (each_once P ns h.1))

partitions_typed : (t : StoredTable) → AllByRecursion (IsTypedBy partition_columns) (partitions t).rows
partitions_typed t =
    let start = partition_start t.schema.unit t.schema.time_col in
    let there : ℕ → Type 0 = λ n. IsSomeRow (filter (λ row. start row == n) t.rows) in
    each_map there (IsTypedBy partition_columns) (λ n. partition_row t.schema.unit t.schema.time_col (filter (λ row. start row == n) t.rows))
    (λ n some. partition_typed t.schema.unit t.schema.time_col (filter (λ row. start row == n) t.rows) some) (once (map start t.rows)) (each_once there (map start t.rows) (each_start start [] t.rows))

shown_typed : (o : Option StoredTable) → AllByRecursion (IsTypedBy (shown o).cols) (shown o).rows
shown_typed None = tt
shown_typed (Some t) = partitions_typed t

-- ---- the law

table_typed : BindingsFollow → (db : Database) (s : Stmt) → AreLawfulTables db → refusals db s ≡ [] → AllByRecursion (IsTypedBy (table_of db s).cols) (table_of db s).rows
table_typed follow db (is.Query q) lawful none =
    let left = stored db q.source.table.text in
    let right = right_table db q.join in
    let p = planned_in left right q in
    query_typed follow left right q (stored_lawful db q.source.table.text lawful) (right_lawful db q.join lawful) (or_else_none p.faults (rows_faults p.plan (work_rows p.plan left right)) none)
table_typed follow db (is.Show name place) lawful none = shown_typed (stored db name)
table_typed follow db (is.Create c) lawful none = tt
table_typed follow db (is.Insert i) lawful none = tt
table_typed follow db (is.Alter a) lawful none = tt

judged_table : (o : Option Refusal) (a t : Table) → judged o a ≡ Ok t → a ≡ t
judged_table None a t h = cc
judged_table (Some r) a t h = absurd (cc)

pub answers_typed : BindingsFollow → RefusedHasNoAnswer → AnswersAreTyped
answers_typed follow refused db s t lawful h =
    All-from_recursion (IsTypedBy t.cols) t.rows
    (subst (λ (x : Table). AllByRecursion (IsTypedBy x.cols) x.rows) (judged_table (least (refusals db s)) (table_of db s) t h) (table_typed follow db s lawful ((refused.answered db s).0 (t, h))))
