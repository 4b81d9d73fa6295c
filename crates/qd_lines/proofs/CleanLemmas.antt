-- What a line without a code is.
use Rattle.std.proofs.Common.{◌≡◌, ℕ, ◌+◌, ◌<◌, ◌≤◌, ◌⊎◌, inl, inr, Bool, true, false, List, [], ◌∷◌, Option, Some, None, length, refl, true≢false, Contains}
use Rattle.std.specs.Bool.{Decides}
use Rattle.std.specs.List.{AllByRecursion, IsDistinct, list_any}
use Rattle.std.specs.Option.{IsNone}
use Rattle.std.proofs.lemmas.Bool.{cases_lt}
use Rattle.std.proofs.lemmas.List.Elements.{All-contains, All-from_recursion}
use Rattle.qd_base.specs.declared.limits.TheConstants.{MAX_BATCH_CELLS, MAX_COLUMNS, MAX_TABLES}
use Rattle.qd_base.specs.declared.code.Code.{Code}
use Rattle.qd_base.specs.declared.code.Code.TheVariants as code
use Rattle.qd_base.specs.declared.schema.Schema.{Schema}
use Rattle.qd_base.specs.Names.{IsColumnName, IsTableName}
use Rattle.qd_base.specs.Schemas.{same_name, schema_of}
use Rattle.qd_ilp.specs.Value.{Moment, At, Outside}
use Rattle.qd_ilp.specs.Line.{Item, Row}
use Rattle.qd_ilp.specs.Transaction.{HasCode, LeastCode, clashes, columns_after, designated, is_float, is_huge, is_long_text, moment_of}
use Rattle.qd_lines.specs.declared.codes.Found.{Found}
use Rattle.qd_lines.specs.Codes.{IsCodeOf, first_of, IsCodeless}
use Rattle.qd_lines.proofs.CodeLemmas.{code_is}
use Rattle.qd_lines.proofs.DecisionLemmas.{Decided, told, both_decided, one_decided, not_decided, true_decided, le_decided, lt_decided, distinct_decided, table_name_decided, items_named}

-- ---- a line has a least code, or none

outside_decided : (m : Moment) → Decided (m ≡ Outside)
outside_decided (At micros) = inr (λ e. absurd cc)
outside_decided Outside = inl refl

none_decided : {X : Type 0} (o : Option X) → Decided (IsNone o)
none_decided None = inl refl
none_decided (Some x) = inr (λ e. true≢false e)

name_decided : (table : List ℕ) (items : List Item) → Decided ((IsTableName table → ⊥) ⊎ ((item : Item) × Contains items item × (IsColumnName item.name → ⊥)))
name_decided table items = go (table_name_decided table) (items_named items)
  where
    go : Decided (IsTableName table) → AllByRecursion (λ (i : Item). IsColumnName i.name) items ⊎ ((item : Item) × Contains items item × (IsColumnName item.name → ⊥)) → Decided ((IsTableName table → ⊥) ⊎ ((item : Item) × Contains items item × (IsColumnName item.name → ⊥)))
    go (inr f) d = inl (inl f)
    go (inl h) (inr w) = inl (inr w)
    go (inl h) (inl all) = inr (λ x. elim x [ inl f ↦ f h | inr w ↦ w.2 (All-contains (λ (i : Item). IsColumnName i.name) items w.0 (All-from_recursion (λ (i : Item). IsColumnName i.name) items all) w.1) ])

module _ (schemas : List Schema) (cells now : ℕ) (row : Row) where
  abbrev table : Option Schema
  table = schema_of schemas row.table

  float_told : (b : Bool) × Decides b (HasCode schemas cells now row code.FloatField)
  float_told = told (HasCode schemas cells now row code.FloatField) (true_decided (list_any (λ (i : Item). is_float i.value) row.items))

  huge_told : (b : Bool) × Decides b (HasCode schemas cells now row code.NumberRange)
  huge_told = told (HasCode schemas cells now row code.NumberRange) (true_decided (list_any (λ (i : Item). is_huge i.value) row.items))

  name_told : (b : Bool) × Decides b (HasCode schemas cells now row code.Name)
  name_told = told (HasCode schemas cells now row code.Name) (name_decided row.table row.items)

  clash_told : (b : Bool) × Decides b (HasCode schemas cells now row code.TypeClash)
  clash_told = told (HasCode schemas cells now row code.TypeClash) (true_decided (list_any (clashes table) row.items))

  time_told : (b : Bool) × Decides b (HasCode schemas cells now row code.TimeRange)
  time_told = told (HasCode schemas cells now row code.TimeRange) (outside_decided (moment_of now row.moment))

  columns_told : (b : Bool) × Decides b (HasCode schemas cells now row code.Columns)
  columns_told = told (HasCode schemas cells now row code.Columns) (lt_decided MAX_COLUMNS (length (columns_after table row)))

  tables_told : (b : Bool) × Decides b (HasCode schemas cells now row code.Tables)
  tables_told = told (HasCode schemas cells now row code.Tables) (both_decided (IsNone table) (MAX_TABLES ≤ length schemas) (none_decided table) (le_decided MAX_TABLES (length schemas)))

  twice_told : (b : Bool) × Decides b (HasCode schemas cells now row code.DuplicateColumn)
  twice_told = told (HasCode schemas cells now row code.DuplicateColumn)
      (one_decided (IsDistinct (λ (i j : Item). same_name i.name j.name) row.items → ⊥) (list_any (λ (i : Item). same_name (designated table) i.name) row.items ≡ true)
      (not_decided (IsDistinct (λ (i j : Item). same_name i.name j.name) row.items) (distinct_decided (λ (i j : Item). same_name i.name j.name) row.items))
      (true_decided (list_any (λ (i : Item). same_name (designated table) i.name) row.items)))

  long_told : (b : Bool) × Decides b (HasCode schemas cells now row code.TextTooLong)
  long_told = told (HasCode schemas cells now row code.TextTooLong) (true_decided (list_any (λ (i : Item). is_long_text i.value) row.items))

  cells_told : (b : Bool) × Decides b (HasCode schemas cells now row code.TooManyCells)
  cells_told = told (HasCode schemas cells now row code.TooManyCells) (lt_decided MAX_BATCH_CELLS (cells + length (columns_after table row)))

  found_is : (f : Found) → f ≡ record { float = float_told.0; huge = huge_told.0; name = name_told.0; clash = clash_told.0; time = time_told.0; columns = columns_told.0; tables = tables_told.0; twice = twice_told.0; long = long_told.0; cells = cells_told.0 } → IsCodeOf schemas cells now row (first_of f)
  found_is f e = code_is schemas cells now row f (rw e (record {
    float = float_told.1;
    huge = huge_told.1;
    name = name_told.1;
    clash = clash_told.1;
    time = time_told.1;
    columns = columns_told.1;
    tables = tables_told.1;
    twice = λ _. twice_told.1;
    long = long_told.1;
    many = λ _. cells_told.1;
  }))

  -- a line has a least code, or none
  pub coded : ((c : Code) × LeastCode schemas cells now row c) ⊎ IsCodeless schemas cells now row
  coded =
      let f : Found = record { float = float_told.0; huge = huge_told.0; name = name_told.0; clash = clash_told.0; time = time_told.0; columns = columns_told.0; tables = tables_told.0; twice = twice_told.0; long = long_told.0; cells = cells_told.0 } in
      go (first_of f) (found_is f refl)
    where
      go : (o : Option Code) → IsCodeOf schemas cells now row o → ((c : Code) × LeastCode schemas cells now row c) ⊎ IsCodeless schemas cells now row
      go (Some c) h = inl (c, h.least)
      go None h = inr h.none

-- ---- a line without a code, in words of its own

none_any : {X : Type 0} (p : X → Bool) (xs : List X) → (list_any p xs ≡ true → ⊥) → AllByRecursion (λ x. p x ≡ false) xs
none_any p [] f = tt
none_any p (x ∷ xs) f = go (p x) refl (none_any p xs)
  where
    go : (b : Bool) → p x ≡ b → ((list_any p xs ≡ true → ⊥) → AllByRecursion (λ y. p y ≡ false) xs) → AllByRecursion (λ y. p y ≡ false) (x ∷ xs)
    go true e rest = absurd (f (rw e refl))
    go false e rest = (e, rest (λ t. f (rw e t)))

unless : (P : Type 0) → Decided P → ((P → ⊥) → ⊥) → P
unless P (inl p) f = p
unless P (inr n) f = absurd (f n)

upto : (a b : ℕ) → (a < b → ⊥) → b ≤ a
upto a b f = elim (cases_lt a b) [ inl lt ↦ absurd (f lt) | inr le ↦ le ]

pub record Clean (schemas : List Schema) (cells now : ℕ) (row : Row) : Type 0 where
  pub float : AllByRecursion (λ (i : Item). is_float i.value ≡ false) row.items
  pub table : IsTableName row.table
  pub names : AllByRecursion (λ (i : Item). IsColumnName i.name) row.items
  pub fits : AllByRecursion (λ (i : Item). clashes (schema_of schemas row.table) i ≡ false) row.items
  pub time : moment_of now row.moment ≡ Outside → ⊥
  pub columns : length (columns_after (schema_of schemas row.table) row) ≤ MAX_COLUMNS
  pub tables : IsNone (schema_of schemas row.table) → length schemas < MAX_TABLES
  pub distinct : IsDistinct (λ (i j : Item). same_name i.name j.name) row.items
  pub others : AllByRecursion (λ (i : Item). same_name (designated (schema_of schemas row.table)) i.name ≡ false) row.items
  pub short : AllByRecursion (λ (i : Item). is_long_text i.value ≡ false) row.items
  pub few : cells + length (columns_after (schema_of schemas row.table) row) ≤ MAX_BATCH_CELLS

pub clean : (schemas : List Schema) (cells now : ℕ) (row : Row) → IsCodeless schemas cells now row → Clean schemas cells now row
clean schemas cells now row h = record {
  float = none_any (λ (i : Item). is_float i.value) row.items (h code.FloatField);
  table = unless (IsTableName row.table) (table_name_decided row.table) (λ f. h code.Name (inl f));
  names = named (items_named row.items);
  fits = none_any (clashes (schema_of schemas row.table)) row.items (h code.TypeClash);
  time = h code.TimeRange;
  columns = upto MAX_COLUMNS (length (columns_after (schema_of schemas row.table) row)) (h code.Columns);
  tables = λ none. elim (cases_lt (length schemas) MAX_TABLES) [ inl lt ↦ lt | inr le ↦ absurd (h code.Tables (none, le)) ];
  distinct = unless (IsDistinct (λ (i j : Item). same_name i.name j.name) row.items) (distinct_decided (λ (i j : Item). same_name i.name j.name) row.items) (λ f. h code.DuplicateColumn (inl f));
  others = none_any (λ (i : Item). same_name (designated (schema_of schemas row.table)) i.name) row.items (λ t. h code.DuplicateColumn (inr t));
  short = none_any (λ (i : Item). is_long_text i.value) row.items (h code.TextTooLong);
  few = upto MAX_BATCH_CELLS (cells + length (columns_after (schema_of schemas row.table) row)) (h code.TooManyCells);
}
  where
    named : AllByRecursion (λ (i : Item). IsColumnName i.name) row.items ⊎ ((item : Item) × Contains row.items item × (IsColumnName item.name → ⊥)) → AllByRecursion (λ (i : Item). IsColumnName i.name) row.items
    named (inl all) = all
    named (inr w) = absurd (h code.Name (inr w))
