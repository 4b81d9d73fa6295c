-- What is found of a line's codes is so.
use Rattle.std.proofs.Common.{◌≡◌, ℕ, ◌+◌, ◌-◌, ◌<◌, ◌≤◌, ◌⊎◌, inl, inr, ◌||◌, ◌&&◌, Bool, true, false, not, leb, ltb, List, Option, Some, None, length, refl, sym, ap, ap₂, ◌∙◌, arith, subst, true≢false, length-append, Contains}
use Rattle.std.specs.Bool.{Decides}
use Rattle.std.specs.List.{list_any, IsDistinct}
use Rattle.std.specs.Option.{is_none, IsNone}
use Rattle.std.proofs.lemmas.Bool.{ltb-true, ltb-false, lt-ltb, leb-true, le-leb}
use Rattle.qd_base.specs.declared.limits.TheConstants.{MAX_BATCH_CELLS, MAX_COLUMNS, MAX_TABLES}
use Rattle.qd_base.specs.declared.schema.Col.{Col}
use Rattle.qd_base.specs.declared.schema.Schema.{Schema}
use Rattle.qd_base.specs.Names.{IsColumnName, IsTableName}
use Rattle.qd_base.specs.Schemas.{same_name, schema_of}
use Rattle.qd_ilp.specs.Value.{Moment, At, Outside}
use Rattle.qd_ilp.specs.Line.{Item, Row}
use Rattle.qd_ilp.specs.Transaction.{moment_of, columns_after, designated, with_items}
use Rattle.qd_lines.specs.declared.codes.Place.{Place}
use Rattle.qd_lines.specs.declared.draft.Draft.{Draft}
use Rattle.qd_lines.specs.Drafts.{time_name, clashes_in, NamesSeen, AreTwice, TwiceSeen, Draws}
use Rattle.qd_lines.specs.Codes.{moment_at, Finds, IsPlaceOf}

pub decides_same : (b c : Bool) → b ≡ c → Decides b (c ≡ true)
decides_same b c e = (λ t. sym e ∙ t, λ t. e ∙ t)

pub flipped : (a b : Bool) → a ≡ not b → b ≡ not a
flipped a true e = sym (ap not e)
flipped a false e = sym (ap not e)

-- a name that no table or column has
named : (items : List Item) (table : List ℕ) (bad fair : Bool) → NamesSeen items bad → (fair ≡ true → IsTableName table) → (IsTableName table → fair ≡ true)
    → Decides (bad || not fair) ((IsTableName table → ⊥) ⊎ ((item : Item) × Contains items item × (IsColumnName item.name → ⊥)))
named items table true fair h if_fair if_named = (λ t. inr (h.one refl), λ x. refl)
named items table false false h if_fair if_named = (λ t. inl (λ is. true≢false (sym (if_named is))), λ x. refl)
named items table false true h if_fair if_named = (
  λ t. absurd (true≢false (sym t)),
  λ x. elim x [
    | inl f ↦ absurd (f (if_fair refl))
    | inr y ↦ absurd (y.2 (subst (λ (i : Item). IsColumnName i.name) y.1.2 (h.none refl y.1.0 y.0 y.1.1)))
  ],
)

timed : (o : Option ℕ) (late : Bool) (m : Moment) → late ≡ is_none o → moment_at o ≡ m → Decides late (m ≡ Outside)
timed None late m is e = (λ t. sym e, λ s. is)
timed (Some micros) late m is e = (λ t. absurd (true≢false (sym t ∙ is)), λ s. absurd (at_outside (e ∙ s)))
  where
    at_outside : At micros ≡ Outside → ⊥
    at_outside f = true≢false (ap is_at f)
      where
        is_at : Moment → Bool
        is_at (At n) = true
        is_at Outside = false

fresh_table : {X : Type 0} (o : Option X) (fresh : Bool) (tables all : ℕ) → fresh ≡ is_none o → tables ≡ all → Decides (fresh && leb MAX_TABLES tables) (IsNone o × (MAX_TABLES ≤ all))
fresh_table None true tables all e s = (λ t. (refl, let le : MAX_TABLES ≤ tables = leb-true MAX_TABLES tables t in omega arith), λ x. le-leb MAX_TABLES tables (omega (arith, x.1)))
fresh_table None false tables all e s = absurd (true≢false (sym e))
fresh_table (Some x) true tables all e s = absurd (true≢false e)
fresh_table (Some x) false tables all e s = (λ t. absurd (true≢false (sym t)), λ y. absurd (true≢false y.0))

twice_found : (time name : List ℕ) (items : List Item) (b : Bool) → time ≡ name → TwiceSeen time items b → Decides b ((IsDistinct (λ (i j : Item). same_name i.name j.name) items → ⊥) ⊎ (list_any (λ (i : Item). same_name name i.name) items ≡ true))
twice_found time name items b e h = (λ t. subst (λ (n : List ℕ). AreTwice n items) e (h.some t), λ x. go b refl x)
  where
    go : (v : Bool) → b ≡ v → (IsDistinct (λ (i j : Item). same_name i.name j.name) items → ⊥) ⊎ (list_any (λ (i : Item). same_name name i.name) items ≡ true) → v ≡ true
    go true is x = refl
    go false is x = elim x [
      | inl f ↦ absurd (f (h.none is).0)
      | inr t ↦ absurd (true≢false (sym t ∙ ap (λ (n : List ℕ). list_any (λ (i : Item). same_name n i.name) items) (sym e) ∙ (h.none is).1))
    ]

module _ (schemas : List Schema) (cells now : ℕ) (row : Row) (p : Place) (d : Draft) (n : ℕ) (few : cells ≤ MAX_BATCH_CELLS) (h : IsPlaceOf schemas row p) (draws : Draws p.columns row.items d) (size : n ≡ length d.marks.items) where
  -- the number of columns after the line, where it is known
  same_after : length (with_items p.columns.cols.now row.items) ≡ length (columns_after (schema_of schemas row.table) row)
  same_after = ap (λ (cs : List Col). length (with_items cs row.items)) h.cols

  count : n ≡ length p.columns.cols.now + length d.added
  count = size ∙ draws.sized

  known : n ≤ MAX_COLUMNS → n ≡ length (columns_after (schema_of schemas row.table) row)
  known le = count ∙ sym (length-append p.columns.cols.now d.added) ∙ ap length (draws.few (omega (arith, count))).cols_after ∙ same_after

  too_many : Decides (ltb MAX_COLUMNS n) (MAX_COLUMNS < length (columns_after (schema_of schemas row.table) row))
  too_many = (
    λ t. let lt : MAX_COLUMNS < n = ltb-true MAX_COLUMNS n t in let m = draws.many (omega (arith, count)) in omega (arith, same_after),
    λ lt. go (ltb MAX_COLUMNS n) refl lt,
  )
    where
      go : (b : Bool) → ltb MAX_COLUMNS n ≡ b → MAX_COLUMNS < length (columns_after (schema_of schemas row.table) row) → b ≡ true
      go true e lt = refl
      go false e lt = let le : n ≤ MAX_COLUMNS = ltb-false MAX_COLUMNS n e in let same = known le in absurd (omega arith)

  many_cells : ltb MAX_COLUMNS n ≡ false → Decides (ltb (MAX_BATCH_CELLS - cells) n) (MAX_BATCH_CELLS < cells + length (columns_after (schema_of schemas row.table) row))
  many_cells e =
      let le : n ≤ MAX_COLUMNS = ltb-false MAX_COLUMNS n e in
      let same = known le in
      (λ t. let lt : MAX_BATCH_CELLS - cells < n = ltb-true (MAX_BATCH_CELLS - cells) n t in omega (arith, few, same), λ lt. lt-ltb (MAX_BATCH_CELLS - cells) n (omega (arith, few, same)))

  pub finds : (fair late : Bool) (o : Option ℕ) → late ≡ is_none o → (fair ≡ true → IsTableName row.table) → (IsTableName row.table → fair ≡ true) → moment_at o ≡ moment_of now row.moment
      → Finds schemas cells now row (record {
        float = d.faults.float;
        huge = d.faults.huge;
        name = d.faults.name || not fair;
        clash = d.faults.clash;
        time = late;
        columns = ltb MAX_COLUMNS n;
        tables = p.fresh && leb MAX_TABLES p.tables;
        twice = d.faults.twice;
        long = d.faults.long;
        cells = ltb (MAX_BATCH_CELLS - cells) n;
      })
  finds fair late o none if_fair if_named is = record {
    float = decides_same d.faults.float _ draws.values.float;
    huge = decides_same d.faults.huge _ draws.values.huge;
    name = named row.items row.table d.faults.name fair draws.names if_fair if_named;
    clash = decides_same d.faults.clash _ (draws.clashes ∙ ap₂ (λ (cs : List Col) (t : List ℕ). list_any (clashes_in cs t) row.items) h.cols h.name);
    time = timed o late (moment_of now row.moment) none is;
    columns = too_many;
    tables = fresh_table (schema_of schemas row.table) p.fresh p.tables (length schemas) h.fresh h.tables;
    twice = λ e. twice_found (time_name p.columns) (designated (schema_of schemas row.table)) row.items d.faults.twice h.name (draws.few (let le : n ≤ MAX_COLUMNS = ltb-false MAX_COLUMNS n e in omega (arith, count))).names_twice;
    long = decides_same d.faults.long _ draws.values.long;
    many = many_cells;
  }
