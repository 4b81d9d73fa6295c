-- The items of a query: what each shows, and how they are grouped or sampled.
use Rattle.std.specs.Prelude.{ℕ, ◌+◌, ◌==◌, Bool, true, false, if◌then◌else◌, List, [], ◌∷◌, ◌++◌, map, codes, Option, Some, None}
use Rattle.std.specs.List.{list_any, flat_map, zip}
use Rattle.qd_base.specs.declared.code.Code.TheVariants as code
use Rattle.qd_base.specs.declared.schema.ColType.{ColType}
use Rattle.qd_base.specs.declared.schema.ColType.TheVariants as kind
use Rattle.qd_base.specs.declared.schema.Col.{Col}
use Rattle.qd_sql_ast.specs.declared.tree.AggOf.{AggOf}
use Rattle.qd_sql_ast.specs.declared.tree.AggOf.TheVariants as function
use Rattle.qd_sql_ast.specs.declared.tree.Item.{Item}
use Rattle.qd_sql_ast.specs.declared.tree.Shown.{Shown}
use Rattle.qd_sql_ast.specs.declared.tree.Shown.TheVariants as shown
use Rattle.qd_sql_ast.specs.declared.tree.Selected.{Selected}
use Rattle.qd_sql_ast.specs.declared.tree.Selected.TheVariants as selected
use Rattle.qd_value.specs.declared.bound.Bound.{Bound}
use Rattle.qd_value.specs.Cells.{number}
use Rattle.qd_meaning.specs.declared.parts.Agg.{Agg}
use Rattle.qd_meaning.specs.declared.parts.Agg.TheVariants as agg
use Rattle.qd_meaning.specs.declared.refusal.Refusal.{Refusal}
use Rattle.qd_meaning.specs.Refusals.{unless}
use Rattle.qd_meaning.specs.Scopes.{Scope}
use Rattle.qd_meaning.specs.Typing.{Form, Plain, Typed, fits, has_order, plain_column}
use Rattle.qd_meaning.specs.Binding.{typed}
use Rattle.qd_meaning.specs.Outputs.{kind_of, kind_of_agg, name_by, name_of_agg, alias_or, output_names}

-- what an item shows: a value of each row, or what is made of many rows
pub data Part : Type 0 where
  Value : Typed → Part
  Made : Agg → Part

-- an item: its name before names are told apart, its type, its part and its refusals
pub record Shows : Type 0 where
  pub name : List ℕ
  pub kind : ColType
  pub part : Part
  pub faults : List Refusal

abbrev pub made_by : AggOf → Bound → Agg
made_by function.Sum e = agg.Sum e
made_by function.Min e = agg.Min e
made_by function.Max e = agg.Max e
made_by function.First e = agg.First e
made_by function.Last e = agg.Last e

-- `sum` is of numbers, `min` and `max` are of numbers or times
abbrev pub agg_faults : AggOf → ℕ → Typed → List Refusal
agg_faults function.Sum word x = unless (fits number x.class) code.Types word
agg_faults function.Min word x = unless (has_order x.class) code.Types word
agg_faults function.Max word x = unless (has_order x.class) code.Types word
agg_faults function.First word x = []
agg_faults function.Last word x = []

abbrev pub value_shown : Typed → Shows
value_shown x = record { name = name_by x.form; kind = kind_of x; part = Value x; faults = x.faults }

abbrev pub agg_shown : AggOf → ℕ → Typed → Shows
agg_shown of_what word x = record { name = name_of_agg of_what; kind = kind_of_agg of_what x; part = Made (made_by of_what x.bound); faults = agg_faults of_what word x ++ x.faults }

abbrev pub shown_of : Scope → Shown → Shows
shown_of scope (shown.Count word) = record { name = codes "count"; kind = kind.Long; part = Made agg.Count; faults = [] }
shown_of scope (shown.Agg of_what word e) = agg_shown of_what word (typed scope e)
shown_of scope (shown.Expr e) = value_shown (typed scope e)

abbrev pub item_of : Scope → Item → Shows
item_of scope i = let s = shown_of scope i.shown in record s { name = alias_or i.alias s.name }

-- all columns, those of the left table first
abbrev pub all_from : ℕ → Scope → List Shows
all_from n [] = []
all_from n (c ∷ cs) = value_shown (plain_column (n, c.col)) ∷ all_from (n + 1) cs

abbrev pub items_by : Scope → Selected → List Shows
items_by scope (selected.All place) = all_from 0 scope
items_by scope (selected.Items items) = map (item_of scope) items

-- a query without SELECT shows all columns
abbrev pub items_of : Scope → Option Selected → List Shows
items_of scope None = all_from 0 scope
items_of scope (Some s) = items_by scope s

abbrev pub output_column : List ℕ × ColType → Col
output_column x = record { name = x.0; kind = x.1 }

-- the output columns
abbrev pub columns_of : List Shows → List Col
columns_of items = map output_column (zip (output_names (map (λ (s : Shows). s.name) items)) (map (λ (s : Shows). s.kind) items))

-- ---- what an item is in a row that is made of many

-- the bucket's start, a key, or an aggregate
pub data Role : Type 0 where
  Start : Role
  Key : Bound → Role
  Makes : Agg → Role

-- a plain item of the designated column shows the bucket's start, where there are buckets
abbrev pub role_by : Option ℕ → Form → Bound → Role
role_by None form e = Key e
role_by (Some time_col) (Plain n col) e = if n == time_col then Start else Key e
role_by (Some time_col) _ e = Key e

abbrev pub role_of : Option ℕ → Part → Role
role_of buckets (Value x) = role_by buckets x.form x.bound
role_of buckets (Made a) = Makes a

abbrev pub key_in : Role → List Bound
key_in Start = []
key_in (Key e) = e ∷ []
key_in (Makes a) = []

abbrev pub agg_in : Role → List Agg
agg_in Start = []
agg_in (Key e) = []
agg_in (Makes a) = a ∷ []

abbrev pub keys_among : List Role → List Bound
keys_among roles = flat_map key_in roles

abbrev pub aggs_among : List Role → List Agg
aggs_among roles = flat_map agg_in roles

-- the position of each item in such a row: the next key, or the next aggregate behind all keys
abbrev pub picks_from : ℕ → ℕ → List Role → List ℕ
picks_from key made [] = []
picks_from key made (Start ∷ rs) = 0 ∷ picks_from key made rs
picks_from key made (Key e ∷ rs) = key ∷ picks_from (key + 1) made rs
picks_from key made (Makes a ∷ rs) = made ∷ picks_from key (made + 1) rs

abbrev pub is_made : Part → Bool
is_made (Value x) = false
is_made (Made a) = true

abbrev pub some_made : List Shows → Bool
some_made items = list_any (λ (s : Shows). is_made s.part) items

abbrev pub bound_in : Part → List Bound
bound_in (Value x) = x.bound ∷ []
bound_in (Made a) = []
