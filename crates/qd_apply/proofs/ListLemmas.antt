-- Tables in a list, one of which changes by its name.
use Rattle.std.proofs.Common.{◌≡◌, ℕ, zero, suc, ◌+◌, ◌<◌, ◌≤◌, Bool, true, false, cond, ltb, List, [], ◌∷◌, ◌++◌, Option, Some, None, IsSome, IsSomeAnd, IsNone, IfSome, length, map, take, drop, get_or, set, refl, sym, ap, ap₂, ◌∙◌, arith, All, subst, is_some, true≢false}
use Rattle.std.specs.List.{AllByRecursion, fold, position}
use Rattle.std.proofs.lemmas.List.{get_or-map, length-map, map-append, take_more}
use Rattle.std.proofs.lemmas.List.Elements.{All-from_recursion, recursion_from_All}
use Rattle.std.proofs.lemmas.List.Sums.{fold-append}
use Rattle.std.proofs.Math.Seq.{drop-cons}
use Rattle.qd_base.specs.declared.limits.TheConstants.{MAX_COLUMNS}
use Rattle.qd_base.specs.declared.op.Op.{Op}
use Rattle.qd_base.specs.declared.op.Op.TheVariants as op
use Rattle.qd_base.specs.declared.schema.Col.{Col}
use Rattle.qd_base.specs.declared.schema.Schema.{Schema}
use Rattle.qd_base.specs.Database.{schemas_of, StoredTable}
use Rattle.qd_base.specs.Lawful.{AreLawful, AreSchemas, IsRowOf, IsSchema, IsSound}
use Rattle.qd_base.specs.Rows.{Row}
use Rattle.qd_base.specs.Schemas.{at_name, column_at, same_name, schema_of, schemas_step, table_at, with_column, with_keys, AreKeys, Fits}
use Rattle.qd_base.proofs.Lawful.{AreSchemas-step, IsSchema-rekeyed, IsSchema-wider}
use Rattle.qd_base.proofs.Tables.{at_name-position, find-position, not_found}
use Rattle.qd_base.proofs.Texts.{position-map}
use Rattle.qd_apply.specs.Arrivals.{arrives, without_rows}
use Rattle.qd_apply.specs.Waiting.{AreTables, Waits}
use Rattle.qd_apply.proofs.ArrivalLemmas.{schemas_arrive, schemas_without}
use Rattle.qd_apply.proofs.EachLemmas.{each_append}

position_of : (ts : List StoredTable) (name : List ℕ) → position (λ (t : StoredTable). same_name t.schema.name name) ts ≡ table_at (schemas_of ts) name
position_of ts name =
    let p : Schema → Bool = λ s. same_name s.name name in
    ap₂ (λ (n m : ℕ). cond (ltb n m) (Some n) None) (sym (position-map p (λ (t : StoredTable). t.schema) ts)) (sym (length-map ts (λ (t : StoredTable). t.schema)))

table_within : (ts : List StoredTable) (name : List ℕ) (i : ℕ) → Some i ≡ table_at (schemas_of ts) name → i < length ts
table_within ts name i at = let lt = Rattle.qd_base.proofs.Tables.table_within (schemas_of ts) name i at in omega (arith, lt, length-map ts (λ (t : StoredTable). t.schema))

-- its schema is the one of the name
schema_there : (schemas : List Schema) (ts : List StoredTable) (name : List ℕ) (i : ℕ) (t : StoredTable) → AreTables schemas ts → Some i ≡ table_at schemas name → t ≡ get_or ts i t → schema_of schemas name ≡ Some t.schema
schema_there schemas ts name i t are at there =
    let here : Some i ≡ table_at (schemas_of ts) name = at ∙ ap (λ (l : List Schema). table_at l name) are.same in
    find-position (λ (s : Schema). same_name s.name name) schemas i t.schema (sym at)
    ∙ ap Some (ap (λ (l : List Schema). get_or l i t.schema) are.same ∙ get_or-map (λ (x : StoredTable). x.schema) ts i t t.schema (table_within ts name i here) ∙ ap (λ (x : StoredTable). x.schema) (sym there))

pub is_there : (schemas : List Schema) (ts : List StoredTable) (name : List ℕ) (i : ℕ) → AreTables schemas ts → Some i ≡ table_at schemas name → i < length ts
is_there schemas ts name i are at = table_within ts name i (at ∙ ap (λ (l : List Schema). table_at l name) are.same)

waits_there : (schemas : List Schema) (ts : List StoredTable) (name : List ℕ) (i : ℕ) (t : StoredTable) → AreTables schemas ts → Some i ≡ table_at schemas name → t ≡ get_or ts i t → Waits t
waits_there schemas ts name i t are at there = subst Waits (sym there) (All-from_recursion Waits ts are.each i t (is_there schemas ts name i are at))

-- it can get a column that fits and is sound
pub may_widen : (schemas : List Schema) (ts : List StoredTable) (name : List ℕ) (col : Col) (i : ℕ) (t : StoredTable) → AreTables schemas ts → Fits schemas (op.AddColumn name col) → IsSound schemas (op.AddColumn name col) → Some i ≡ table_at schemas name → t ≡ get_or ts i t → IsSchema (with_column col t.schema)
may_widen schemas ts name col i t are fits sound at there =
    let is : schema_of schemas name ≡ Some t.schema = schema_there schemas ts name i t are at there in
    let lacks : IsNone (column_at t.schema.cols col.name) = subst (λ (o : Option Schema). IsSomeAnd o (λ (s : Schema). IsNone (column_at s.cols col.name))) is fits in
    let few : length t.schema.cols < MAX_COLUMNS = subst (λ (o : Option Schema). IfSome o (λ (s : Schema). length s.cols < MAX_COLUMNS)) is sound.1 in
    IsSchema-wider col sound.0 t.schema (waits_there schemas ts name i t are at there).schema (lacks, few)

-- rows that fit
pub may_fill : (schemas : List Schema) (ts : List StoredTable) (name : List ℕ) (rows : List Row) (i : ℕ) (t : StoredTable) → AreTables schemas ts → IsSound schemas (op.Insert name rows) → Some i ≡ table_at schemas name → t ≡ get_or ts i t → All (IsRowOf t.schema) rows
may_fill schemas ts name rows i t are sound at there =
    subst (λ (o : Option Schema). IfSome o (λ (s : Schema). All (IsRowOf s) rows)) (schema_there schemas ts name i t are at there) sound

-- keys that fit
pub may_rekey : (schemas : List Schema) (ts : List StoredTable) (name keys : List ℕ) (i : ℕ) (t : StoredTable) → AreTables schemas ts → Fits schemas (op.SetKeys name keys) → Some i ≡ table_at schemas name → t ≡ get_or ts i t → IsSchema (with_keys keys t.schema)
may_rekey schemas ts name keys i t are fits at there =
    IsSchema-rekeyed keys t.schema (waits_there schemas ts name i t are at there).schema
    (subst (λ (o : Option Schema). IsSomeAnd o (λ (s : Schema). AreKeys s.cols s.time_col keys)) (schema_there schemas ts name i t are at there) fits)

-- a change of it is the change of the table of the name
pub one_changed : (schemas : List Schema) (ts : List StoredTable) (name : List ℕ) (i : ℕ) (old new : StoredTable) (change : StoredTable → StoredTable) → AreTables schemas ts → Some i ≡ table_at schemas name → old ≡ get_or ts i old → new ≡ change old
    → set ts i new ≡ at_name (λ (t : StoredTable). t.schema.name) change name ts
one_changed schemas ts name i old new change are at there is =
    let here : Some i ≡ table_at (schemas_of ts) name = at ∙ ap (λ (l : List Schema). table_at l name) are.same in
    ap (set ts i) (is ∙ ap change there)
    ∙ sym (at_name-position (λ (t : StoredTable). t.schema.name) change name ts i old (position_of ts name ∙ sym here))

-- a column or rows for a table that isn't there fit nowhere
pub none_widens : (schemas : List Schema) (name : List ℕ) (col : Col) → None ≡ table_at schemas name → Fits schemas (op.AddColumn name col) → ⊥
none_widens schemas name col none fits = not_found (λ (s : Schema). same_name s.name name) (λ (s : Schema). IsNone (column_at s.cols col.name)) schemas (sym none) fits

pub none_fills : (schemas : List Schema) (name : List ℕ) (rows : List Row) → None ≡ table_at schemas name → Fits schemas (op.Insert name rows) → ⊥
none_fills schemas name rows none fits = true≢false (sym fits ∙ ap is_some (sym none))

pub none_rekeys : (schemas : List Schema) (name keys : List ℕ) → None ≡ table_at schemas name → Fits schemas (op.SetKeys name keys) → ⊥
none_rekeys schemas name keys none fits = not_found (λ (s : Schema). same_name s.name name) (λ (s : Schema). AreKeys s.cols s.time_col keys) schemas (sym none) fits

pub waits_set : (ts : List StoredTable) (i : ℕ) (t : StoredTable) → AllByRecursion Waits ts → Waits t → AllByRecursion Waits (set ts i t)
waits_set [] i t h is = tt
waits_set (x ∷ ts) zero t h is = (is, h.1)
waits_set (x ∷ ts) (suc i) t h is = (h.0, waits_set ts i t h.1 is)

pub waits_push : (ts : List StoredTable) (t : StoredTable) → AllByRecursion Waits ts → Waits t → AllByRecursion Waits (ts ++ t ∷ [])
waits_push ts t each is = each_append Waits ts (t ∷ []) each (is, tt)

pub are_changed : (schemas now : List Schema) (ts next : List StoredTable) (o : Op) → AreTables schemas ts → Fits schemas o → IsSound schemas o → now ≡ schemas_step schemas o → AllByRecursion Waits next → next ≡ arrives ts o → AreTables now next
are_changed schemas now ts next o are fits sound is each after = record {
  same = is ∙ ap (λ (l : List Schema). schemas_step l o) are.same ∙ sym (schemas_arrive ts o) ∙ ap schemas_of (sym after);
  lawful = subst AreSchemas (sym is) (AreSchemas-step schemas o are.lawful fits sound);
  each = each;
}

-- tables without rows
each_without : (schemas : List Schema) → AllByRecursion IsSchema schemas → AllByRecursion Waits (without_rows schemas)
each_without [] h = tt
each_without (s ∷ ss) h = (record { schema = h.0; fit = tt }, each_without ss h.1)

pub are_new : (schemas : List Schema) (ts : List StoredTable) → AreSchemas schemas → ts ≡ without_rows schemas → AreTables schemas ts
are_new schemas ts are is = subst (AreTables schemas) (sym is) (record { same = sym (schemas_without schemas); lawful = are; each = each_without schemas (recursion_from_All IsSchema schemas are.each) })

pub without_more : (schemas : List Schema) (i : ℕ) (s : Schema) → i < length schemas → s ≡ get_or schemas i s → without_rows (take i schemas) ++ record { schema = s; rows = [] } ∷ [] ≡ without_rows (take (i + 1) schemas)
without_more schemas i s lt is =
    sym (map-append (λ (x : Schema). let t : StoredTable = record { schema = x; rows = [] } in t) (take i schemas) (s ∷ []))
    ∙ ap without_rows (sym (take_more schemas i s lt ∙ ap (λ (x : Schema). take i schemas ++ x ∷ []) (sym is)))

-- ---- one change after another

-- the next of lawful changes
pub next_lawful : (schemas : List Schema) (ops : List Op) (i : ℕ) (o : Op) → i < length ops → o ≡ get_or ops i o → AreLawful schemas (drop i ops) → Fits schemas o × IsSound schemas o × AreLawful (schemas_step schemas o) (drop (i + 1) ops)
next_lawful schemas ops i o lt is lawful =
    let cut : drop i ops ≡ o ∷ drop (suc i) ops = drop-cons ops i o lt ∙ ap (λ (x : Op). x ∷ drop (suc i) ops) (sym is) in
    let all = subst (AreLawful schemas) cut lawful in
    (all.0, all.1, subst (λ (n : ℕ). AreLawful (schemas_step schemas o) (drop n ops)) (sym (one_more i)) all.2)
  where
    one_more : (i : ℕ) → i + 1 ≡ suc i
    one_more i = omega arith

pub arrive_more : (ts : List StoredTable) (ops : List Op) (i : ℕ) (o : Op) → i < length ops → o ≡ get_or ops i o → fold arrives ts (take (i + 1) ops) ≡ arrives (fold arrives ts (take i ops)) o
arrive_more ts ops i o lt is = ap (fold arrives ts) (take_more ops i o lt ∙ ap (λ (x : Op). take i ops ++ x ∷ []) (sym is)) ∙ fold-append arrives ts (take i ops) (o ∷ [])

-- an item that a list lends
pub lent_at : {X : Type 0} (xs : List X) (i : ℕ) (x : X) → i < length xs → Rattle.std.proofs.Common.slice_get xs i ≡ Some x → x ≡ get_or xs i x
lent_at xs i x lt is = let e = Rattle.std.proofs.lemmas.Option.slice_get-get_or xs i x lt in cc

pub all_lent : {X : Type 0} (P : X → Type 0) (xs : List X) (i : ℕ) (x : X) → i < length xs → Rattle.std.proofs.Common.slice_get xs i ≡ Some x → All P xs → P x
all_lent P xs i x lt is h = subst P (sym (lent_at xs i x lt is)) (h i x lt)
