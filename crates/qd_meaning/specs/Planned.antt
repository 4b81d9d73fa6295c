-- A query over the schemas of its tables: the parts of it with names and types bound, and its refusals but for those that rows alone show.
use Rattle.std.specs.Prelude.{ℕ, ◌+◌, ◌==◌, Bool, true, false, not, if◌then◌else◌, List, [], ◌∷◌, ◌++◌, map, length, is_some, Option, Some, None, unwrap_or}
use Rattle.std.specs.List.{flat_map, range_with_len}
use Rattle.std.specs.Option.{option_map}
use Rattle.qd_base.specs.declared.code.Code.TheVariants as code
use Rattle.qd_base.specs.declared.schema.ColType.{ColType}
use Rattle.qd_base.specs.declared.schema.Col.{Col}
use Rattle.qd_base.specs.declared.schema.Schema.{Schema}
use Rattle.qd_base.specs.Schemas.{same_name, table_at, column_at, schema_of}
use Rattle.qd_sql_ast.specs.declared.tree.Name.{Name}
use Rattle.qd_sql_ast.specs.declared.tree.Column.{Column}
use Rattle.qd_sql_ast.specs.declared.tree.Source.{Source}
use Rattle.qd_sql_ast.specs.declared.tree.JoinOf.{JoinOf}
use Rattle.qd_sql_ast.specs.declared.tree.JoinOf.TheVariants as join
use Rattle.qd_sql_ast.specs.declared.tree.Join.{Join}
use Rattle.qd_sql_ast.specs.declared.tree.Filter.{Filter}
use Rattle.qd_sql_ast.specs.declared.tree.Latest.{Latest}
use Rattle.qd_sql_ast.specs.declared.tree.Sampled.{Sampled}
use Rattle.qd_sql_ast.specs.declared.tree.OrderKey.{OrderKey}
use Rattle.qd_sql_ast.specs.declared.tree.Limit.{Limit}
use Rattle.qd_sql_ast.specs.declared.tree.Limit.TheVariants as limit
use Rattle.qd_sql_ast.specs.declared.tree.Query.{Query}
use Rattle.qd_value.specs.declared.bound.Bound.{Bound}
use Rattle.qd_value.specs.Cells.{truth}
use Rattle.qd_meaning.specs.declared.parts.JoinSpec.{JoinSpec}
use Rattle.qd_meaning.specs.declared.parts.Work.{Work}
use Rattle.qd_meaning.specs.declared.parts.Work.TheVariants as work
use Rattle.qd_meaning.specs.declared.parts.Cut.{Cut}
use Rattle.qd_meaning.specs.declared.parts.Cut.TheVariants as cut
use Rattle.qd_meaning.specs.declared.parts.AskPlan.{AskPlan}
use Rattle.qd_meaning.specs.declared.refusal.Refusal.{Refusal}
use Rattle.qd_meaning.specs.Refusals.{at, unless}
use Rattle.qd_meaning.specs.Scopes.{Scope, called, scope_of, resolved}
use Rattle.qd_meaning.specs.Typing.{Typed, fits, agree, class_of_kind}
use Rattle.qd_meaning.specs.Binding.{typed}
use Rattle.qd_meaning.specs.Items.{Shows, Role, items_of, columns_of, some_made, role_of, keys_among, aggs_among, picks_from, bound_in, is_made}
use Rattle.qd_meaning.specs.Sampling.{sample_spec, sample_faults}

-- ---- tables

-- a table that isn't there has no columns
abbrev pub cols_in : Option Schema → List Col
cols_in None = []
cols_in (Some s) = s.cols

abbrev pub time_col_in : Option Schema → ℕ
time_col_in None = 0
time_col_in (Some s) = s.time_col

abbrev pub unknown_table : Option Schema → Name → List Refusal
unknown_table s n = unless (is_some s) code.UnknownTable n.at

abbrev pub scope_behind : Option Schema → Option Join → Scope
scope_behind right None = []
scope_behind right (Some j) = scope_of j.right (cols_in right)

-- the columns of the left table, then those of the right one
abbrev pub scope_in : Option Schema → Option Schema → Query → Scope
scope_in left right q = scope_of q.source (cols_in left) ++ scope_behind right q.join

-- ---- joins

abbrev pub keys_on : Option (List Name) → List Name
keys_on None = []
keys_on (Some names) = names

abbrev pub column_in : List Col → Name → ℕ
column_in cols n = unwrap_or (column_at cols n.text) 0

abbrev pub is_strict : JoinOf → Bool
is_strict join.Asof = false
is_strict join.Lt = true

abbrev pub join_spec : Option Schema → Option Schema → Join → JoinSpec
join_spec left right j = record {
  left = map (column_in (cols_in left)) (keys_on j.on);
  right = map (column_in (cols_in right)) (keys_on j.on);
  strict = is_strict j.of;
}

-- a key is a column of both sides, of one class
abbrev pub key_faults : Name → Option ColType → Option ColType → List Refusal
key_faults n (Some a) (Some b) = unless (agree (Some (class_of_kind a)) (Some (class_of_kind b))) code.Types n.at
key_faults n _ _ = at code.UnknownColumn n.at

abbrev pub kind_named : List Col → Name → Option ColType
kind_named [] n = None
kind_named (c ∷ cs) n = if same_name c.name n.text then Some c.kind else kind_named cs n

-- the sides have two names
abbrev pub join_faults : Option Schema → Option Schema → Source → Join → List Refusal
join_faults left right source j =
    unknown_table right j.right.table ++ unless (not (same_name (called source).text (called j.right).text)) code.Ambiguous (called j.right).at
    ++ flat_map (λ (n : Name). key_faults n (kind_named (cols_in left) n) (kind_named (cols_in right) n)) (keys_on j.on)

abbrev pub join_faults_in : Option Schema → Option Schema → Source → Option Join → List Refusal
join_faults_in left right source None = []
join_faults_in left right source (Some j) = join_faults left right source j

-- ---- WHERE and LATEST ON

abbrev pub keep_faults : Filter → Typed → List Refusal
keep_faults f x = unless (fits truth x.class) code.Types f.at ++ x.faults

abbrev pub filter_faults : Scope → Option Filter → List Refusal
filter_faults scope None = []
filter_faults scope (Some f) = keep_faults f (typed scope f.test)

abbrev pub keep_of : Scope → Option Filter → Option Bound
keep_of scope None = None
keep_of scope (Some f) = Some (typed scope f.test).bound

abbrev pub position_in : Option (ℕ × Col) → ℕ
position_in None = 0
position_in (Some c) = c.0

-- the column behind ON is the designated one
abbrev pub is_column : ℕ → Option (ℕ × Col) → Bool
is_column time_col None = true
is_column time_col (Some c) = c.0 == time_col

abbrev pub latest_faults : Scope → ℕ → Option Latest → List Refusal
latest_faults scope time_col None = []
latest_faults scope time_col (Some l) =
    (resolved scope l.on).faults ++ unless (is_column time_col (resolved scope l.on).column) code.Keys l.on.first.at ++ flat_map (λ (c : Column). (resolved scope c).faults) l.keys

abbrev pub latest_of : Scope → Option Latest → Option (List ℕ)
latest_of scope None = None
latest_of scope (Some l) = Some (map (λ (c : Column). position_in (resolved scope c).column) l.keys)

-- ---- items

-- the designated column, where a query has buckets
abbrev pub buckets_in : ℕ → Option Sampled → Option ℕ
buckets_in time_col None = None
buckets_in time_col (Some s) = Some time_col

abbrev pub roles_in : ℕ → Option Sampled → List Shows → List Role
roles_in time_col s items = map (λ (i : Shows). role_of (buckets_in time_col s) i.part) items

abbrev pub made_kinds : List Shows → List ColType
made_kinds items = flat_map (λ (i : Shows). if is_made i.part then i.kind ∷ [] else []) items

-- a query has buckets; or it makes groups, where an item is made of many rows; or it gives a row for each row
abbrev pub work_of : Option Sampled → Bool → List Bound → List Role → Work
work_of (Some s) made plain roles = work.Sample (sample_spec s (keys_among roles) (aggs_among roles))
work_of None true plain roles = work.Group (record { keys = keys_among roles; aggs = aggs_among roles })
work_of None false plain roles = work.Plain plain

abbrev pub picks_of : Option Sampled → Bool → List Role → List ℕ
picks_of (Some s) made roles = picks_from 1 (length (keys_among roles) + 1) roles
picks_of None true roles = picks_from 0 (length (keys_among roles)) roles
picks_of None false roles = range_with_len 0 (length roles)

abbrev pub sampled_faults : Option Sampled → List ColType → List Refusal
sampled_faults None kinds = []
sampled_faults (Some s) kinds = sample_faults s kinds

abbrev pub place_of_sample : Option Sampled → ℕ
place_of_sample None = 0
place_of_sample (Some s) = s.at

-- ---- ORDER BY and LIMIT

abbrev pub order_keys : Option (List OrderKey) → List OrderKey
order_keys None = []
order_keys (Some keys) = keys

abbrev pub order_of : List Col → Option (List OrderKey) → List (ℕ × Bool)
order_of out keys = map (λ (k : OrderKey). (column_in out k.name, k.is_descending)) (order_keys keys)

-- an order is by output columns
abbrev pub order_faults : List Col → Option (List OrderKey) → List Refusal
order_faults out keys = flat_map (λ (k : OrderKey). unless (is_some (column_at out k.name.text)) code.UnknownColumn k.name.at) (order_keys keys)

abbrev pub cut_of : Limit → Cut
cut_of (limit.First n) = cut.First n.value
cut_of (limit.Last minus n) = cut.Last n.value
cut_of (limit.Between a b) = cut.Between a.value b.value

-- ---- the whole

-- the parts of a query, and its refusals
pub record Planned : Type 0 where
  pub plan : AskPlan
  pub faults : List Refusal

abbrev pub joined_with : ℕ → Option Schema → Option Schema → Option Join → Option (ℕ × JoinSpec)
joined_with right_at left right None = None
joined_with right_at left right (Some j) = Some (right_at, join_spec left right j)

-- a query over the schemas of its two tables, which stand at these positions
abbrev pub planned_over : (left_at right_at : ℕ) → Option Schema → Option Schema → Query → Planned
planned_over left_at right_at left right q =
    let scope = scope_in left right q in
    let items = items_of scope q.selected in
    let roles = roles_in (time_col_in left) q.sampled items in
    let out = columns_of items in
    record {
      plan =
          record {
            left = left_at;
            join = joined_with right_at left right q.join;
            keep = keep_of scope q.filter;
            latest = latest_of scope q.latest;
            work = work_of q.sampled (some_made items) (flat_map (λ (i : Shows). bound_in i.part) items) roles;
            picks = picks_of q.sampled (some_made items) roles;
            out = out;
            order = order_of out q.order;
            limit = option_map cut_of q.limit;
            at = place_of_sample q.sampled;
          };
      faults =
          unknown_table left q.source.table ++ join_faults_in left right q.source q.join ++ filter_faults scope q.filter
          ++ latest_faults scope (time_col_in left) q.latest ++ flat_map (λ (i : Shows). i.faults) items ++ sampled_faults q.sampled (made_kinds items)
          ++ order_faults out q.order;
    }

-- the name of the right table
abbrev pub right_name : Option Join → List ℕ
right_name None = []
right_name (Some j) = j.right.table.text

abbrev pub position_of : List Schema → List ℕ → ℕ
position_of schemas name = unwrap_or (table_at schemas name) 0

abbrev pub right_schema : List Schema → Option Join → Option Schema
right_schema schemas None = None
right_schema schemas (Some j) = schema_of schemas j.right.table.text

-- a query over the schemas of the tables that are there
abbrev pub planned : List Schema → Query → Planned
planned schemas q =
    planned_over (position_of schemas q.source.table.text) (position_of schemas (right_name q.join)) (schema_of schemas q.source.table.text) (right_schema schemas q.join) q
