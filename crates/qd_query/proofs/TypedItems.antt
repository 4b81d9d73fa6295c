-- What an item shows may stand in its column.
use Rattle.std.proofs.Common.{◌≡◌, ℕ, suc, ◌+◌, inl, inr, Bool, true, false, List, [], ◌∷◌, map, Option, Some, None, ℤ, refl, subst, arith}
use Rattle.std.specs.Prelude.{if◌then◌else◌, slice_get}
use Rattle.std.specs.List.{AllByRecursion}
use Rattle.qd_base.specs.declared.cell.Cell.{Cell}
use Rattle.qd_base.specs.declared.cell.Cell.TheVariants as cell
use Rattle.qd_base.specs.declared.schema.Col.{Col}
use Rattle.qd_base.specs.declared.schema.ColType.{ColType}
use Rattle.qd_base.specs.declared.schema.ColType.TheVariants as kind
use Rattle.qd_base.specs.Rows.{Row}
use Rattle.qd_sql_ast.specs.declared.tree.AggOf.{AggOf}
use Rattle.qd_sql_ast.specs.declared.tree.AggOf.TheVariants as function
use Rattle.qd_sql_ast.specs.declared.tree.Item.{Item}
use Rattle.qd_sql_ast.specs.declared.tree.Shown.{Shown}
use Rattle.qd_sql_ast.specs.declared.tree.Shown.TheVariants as shown
use Rattle.qd_sql_ast.specs.declared.tree.Selected.{Selected}
use Rattle.qd_sql_ast.specs.declared.tree.Selected.TheVariants as selected
use Rattle.qd_value.specs.Cells.{Class, number, truth, text, time}
use Rattle.qd_value.specs.Value.{value}
use Rattle.qd_meaning.specs.Scopes.{Scope}
use Rattle.qd_meaning.specs.Typing.{Form, NumberAt, Other, Plain, TextAt, Typed, class_of_kind}
use Rattle.qd_meaning.specs.Binding.{typed}
use Rattle.qd_meaning.specs.Bindings.{BindingsFollow}
use Rattle.qd_meaning.specs.Grouped.{aggregate, best, better, first_cell, is_less, last_cell, sum_cell, total, values}
use Rattle.qd_meaning.specs.Items.{Made, Part, Shows, Value, all_from, item_of, items_of, made_by, shown_of}
use Rattle.qd_meaning.specs.Outputs.{kind_by, kind_of, kind_of_agg, kind_of_class}
use Rattle.qd_query.proofs.TypedValues.{FitsColumns, IsOfClass, IsTyped, MayStand, columns_in, long_of, of_column}
use Rattle.qd_query.proofs.TypedTrees.{all_typed}

-- ---- the type of an expression

of_class : (class : Option Class) (c : Cell) → IsOfClass class c → MayStand (kind_of_class class) c
of_class None c (inl h) = inl h
of_class None c (inr h) = inl h
of_class (Some number) c h = h
of_class (Some truth) c h = h
of_class (Some text) c h = h
of_class (Some time) c h = h

by_form : (f : Form) (class : Option Class) (c : Cell) → IsOfClass class c → ((n : ℕ) (col : Col) → f ≡ Plain n col → class ≡ Some (class_of_kind col.kind)) → MayStand (kind_by f class) c
by_form (Plain n col) class c h plain = subst (λ (o : Option Class). IsOfClass o c) (plain n col refl) h
by_form (TextAt bytes place) class c h plain = of_class class c h
by_form (NumberAt n signed place) class c h plain = of_class class c h
by_form Other class c h plain = of_class class c h

pub value_stands : (cols : List Col) (x : Typed) → IsTyped cols x → (row : Row) → FitsColumns cols row → MayStand (kind_of x) (value x.bound row)
value_stands cols x h row fits = by_form x.form x.class (value x.bound row) (h.of_class row fits) (λ n c same. (h.plain n c same).0)

-- ---- aggregates

pick : (k : ColType) (b : Bool) (x y : Cell) → MayStand k x → MayStand k y → MayStand k (if b then x else y)
pick k true x y hx hy = hx
pick k false x y hx hy = hy

module _ (k : ColType) (takes : Cell → Cell → Bool) where
  either : (a b : Cell) → MayStand k a → MayStand k b → MayStand k (better takes a b)
  either cell.Null b ha hb = hb
  either (cell.Long x) cell.Null ha hb = ha
  either (cell.Long x) (cell.Long y) ha hb = pick k (takes (cell.Long y) (cell.Long x)) (cell.Long y) (cell.Long x) hb ha
  either (cell.Long x) (cell.Bool y) ha hb = pick k (takes (cell.Bool y) (cell.Long x)) (cell.Bool y) (cell.Long x) hb ha
  either (cell.Long x) (cell.Text y) ha hb = pick k (takes (cell.Text y) (cell.Long x)) (cell.Text y) (cell.Long x) hb ha
  either (cell.Long x) (cell.Time y) ha hb = pick k (takes (cell.Time y) (cell.Long x)) (cell.Time y) (cell.Long x) hb ha
  either (cell.Bool x) cell.Null ha hb = ha
  either (cell.Bool x) (cell.Long y) ha hb = pick k (takes (cell.Long y) (cell.Bool x)) (cell.Long y) (cell.Bool x) hb ha
  either (cell.Bool x) (cell.Bool y) ha hb = pick k (takes (cell.Bool y) (cell.Bool x)) (cell.Bool y) (cell.Bool x) hb ha
  either (cell.Bool x) (cell.Text y) ha hb = pick k (takes (cell.Text y) (cell.Bool x)) (cell.Text y) (cell.Bool x) hb ha
  either (cell.Bool x) (cell.Time y) ha hb = pick k (takes (cell.Time y) (cell.Bool x)) (cell.Time y) (cell.Bool x) hb ha
  either (cell.Text x) cell.Null ha hb = ha
  either (cell.Text x) (cell.Long y) ha hb = pick k (takes (cell.Long y) (cell.Text x)) (cell.Long y) (cell.Text x) hb ha
  either (cell.Text x) (cell.Bool y) ha hb = pick k (takes (cell.Bool y) (cell.Text x)) (cell.Bool y) (cell.Text x) hb ha
  either (cell.Text x) (cell.Text y) ha hb = pick k (takes (cell.Text y) (cell.Text x)) (cell.Text y) (cell.Text x) hb ha
  either (cell.Text x) (cell.Time y) ha hb = pick k (takes (cell.Time y) (cell.Text x)) (cell.Time y) (cell.Text x) hb ha
  either (cell.Time x) cell.Null ha hb = ha
  either (cell.Time x) (cell.Long y) ha hb = pick k (takes (cell.Long y) (cell.Time x)) (cell.Long y) (cell.Time x) hb ha
  either (cell.Time x) (cell.Bool y) ha hb = pick k (takes (cell.Bool y) (cell.Time x)) (cell.Bool y) (cell.Time x) hb ha
  either (cell.Time x) (cell.Text y) ha hb = pick k (takes (cell.Text y) (cell.Time x)) (cell.Text y) (cell.Time x) hb ha
  either (cell.Time x) (cell.Time y) ha hb = pick k (takes (cell.Time y) (cell.Time x)) (cell.Time y) (cell.Time x) hb ha

  best_of : (cells : List Cell) → AllByRecursion (MayStand k) cells → MayStand k (best takes cells)
  best_of [] h = inl refl
  best_of (c ∷ cs) h = either c (best takes cs) h.0 (best_of cs h.1)

first_of : (k : ColType) (cells : List Cell) → AllByRecursion (MayStand k) cells → MayStand k (first_cell cells)
first_of k [] h = inl refl
first_of k (c ∷ cs) h = h.0

last_of : (k : ColType) (other : Cell) (cells : List Cell) → MayStand k other → AllByRecursion (MayStand k) cells → MayStand k (last_cell other cells)
last_of k other [] h hs = h
last_of k other (c ∷ cs) h hs = last_of k c cs hs.0 hs.1

sum_of : (o : Option ℤ) → MayStand kind.Long (sum_cell o)
sum_of None = inl refl
sum_of (Some x) = long_of x

values_of : (cols : List Col) (x : Typed) → IsTyped cols x → (rows : List Row) → AllByRecursion (FitsColumns cols) rows → AllByRecursion (MayStand (kind_of x)) (values x.bound rows)
values_of cols x h [] fits = tt
values_of cols x h (r ∷ rs) fits = (value_stands cols x h r fits.0, values_of cols x h rs fits.1)

-- ---- items

-- what an item shows of each row, or what it makes of rows, may stand in its column
abbrev pub IsGoodPart : List Col → ColType → Part → Type 0
IsGoodPart cols k (Value x) = (k ≡ kind_of x) × IsTyped cols x
IsGoodPart cols k (Made a) = (rows : List Row) → AllByRecursion (FitsColumns cols) rows → MayStand k (aggregate rows a)

abbrev pub IsGood : List Col → Shows → Type 0
IsGood cols s = IsGoodPart cols s.kind s.part

of_agg : (cols : List Col) (f : AggOf) (x : Typed) → IsTyped cols x → IsGoodPart cols (kind_of_agg f x) (Made (made_by f x.bound))
of_agg cols function.Sum x h rows fits = sum_of (total (values x.bound rows))
of_agg cols function.Min x h rows fits = best_of (kind_of x) is_less (values x.bound rows) (values_of cols x h rows fits)
of_agg cols function.Max x h rows fits = best_of (kind_of x) (λ b a. is_less a b) (values x.bound rows) (values_of cols x h rows fits)
of_agg cols function.First x h rows fits = first_of (kind_of x) (values x.bound rows) (values_of cols x h rows fits)
of_agg cols function.Last x h rows fits = last_of (kind_of x) cell.Null (values x.bound rows) (inl refl) (values_of cols x h rows fits)

of_shown : (follow : BindingsFollow) (scope : Scope) (s : Shown) → IsGood (columns_in scope) (shown_of scope s)
of_shown follow scope (shown.Count word) = λ rows fits. inr refl
of_shown follow scope (shown.Agg f word e) = of_agg (columns_in scope) f (typed scope e) (all_typed follow scope e)
of_shown follow scope (shown.Expr e) = (refl, all_typed follow scope e)

of_items : (follow : BindingsFollow) (scope : Scope) (items : List Item) → AllByRecursion (IsGood (columns_in scope)) (map (item_of scope) items)
of_items follow scope [] = tt
of_items follow scope (i ∷ is) = (of_shown follow scope i.shown, of_items follow scope is)

of_columns : (cols : List Col) (n : ℕ) (rest : Scope) → ((k m : ℕ) (c : Col) → m ≡ n + k → slice_get (columns_in rest) k ≡ Some c → slice_get cols m ≡ Some c) → AllByRecursion (IsGood cols) (all_from n rest)
of_columns cols n [] h = tt
of_columns cols n (c ∷ cs) h = ((refl, of_column cols n c.col (h 0 n c.col (omega arith) refl)), of_columns cols (n + 1) cs (λ k m d at e. h (suc k) m d (omega arith) e))

all_columns : (scope : Scope) → AllByRecursion (IsGood (columns_in scope)) (all_from 0 scope)
all_columns scope = of_columns (columns_in scope) 0 scope (λ k m c at e. subst (λ (i : ℕ). slice_get (columns_in scope) i ≡ Some c) (let same : k ≡ m = omega arith in same) e)

pub all_good : (follow : BindingsFollow) (scope : Scope) (s : Option Selected) → AllByRecursion (IsGood (columns_in scope)) (items_of scope s)
all_good follow scope None = all_columns scope
all_good follow scope (Some (selected.All place)) = all_columns scope
all_good follow scope (Some (selected.Items items)) = of_items follow scope items
