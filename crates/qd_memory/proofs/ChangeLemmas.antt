-- Tables after changes and transactions.
use Rattle.std.proofs.Common.{◌≡◌, ℕ, zero, suc, ◌+◌, ◌-◌, ◌<◌, ◌≤◌, ◌^◌, Bool, true, false, List, [], ◌∷◌, ◌++◌, Option, Some, None, IsSome, IsSomeAnd, IsNone, IfSome, length, map, take, drop, get_or, set, refl, sym, ap, ap₂, ◌∙◌, arith, All, subst, is_some, true≢false}
use Rattle.std.specs.List.{AllByRecursion, fold}
use Rattle.std.proofs.lemmas.List.{get_or-map, length-map, map-append, take_more}
use Rattle.std.proofs.lemmas.List.Elements.{All-append, All-from_recursion, All-nil}
use Rattle.std.proofs.lemmas.List.Sums.{fold-append}
use Rattle.std.proofs.Math.Seq.{drop-cons, map-set_same}
use Rattle.qd_base.specs.declared.limits.TheConstants.{MAX_COLUMNS}
use Rattle.qd_base.specs.declared.op.Entry.{Entry}
use Rattle.qd_base.specs.declared.op.Op.{Op}
use Rattle.qd_base.specs.declared.op.Op.TheVariants as op
use Rattle.qd_base.specs.declared.part.Part.{Part}
use Rattle.qd_base.specs.declared.schema.Col.{Col}
use Rattle.qd_base.specs.declared.schema.Schema.{Schema}
use Rattle.qd_base.specs.Database.{Database, StoredTable, filled, schemas_of, step, widened}
use Rattle.qd_base.specs.Lawful.{AreLawful, AreSchemas, IsRowOf, IsSchema, IsSound, LawfulFrom}
use Rattle.qd_base.specs.Names.{IsColumnName}
use Rattle.qd_base.specs.Replay.{commit, replay}
use Rattle.qd_base.specs.Rows.{Row, put}
use Rattle.qd_base.specs.Schemas.{at_name, column_at, same_name, schema_of, schemas_step, table_at, with_column, with_keys, AreKeys, Fits}
use Rattle.qd_base.proofs.Lawful.{AreSchemas-step, IsSchema-rekeyed, IsSchema-wider}
use Rattle.qd_base.proofs.Lists.{IsDistinct-nil}
use Rattle.qd_base.proofs.Tables.{find-position, not_found, schemas_of-commit, schemas_of-step}
use Rattle.qd_merge.specs.Batch.{batch}
use Rattle.qd_memory.specs.declared.slots.Slot.{Slot}
use Rattle.qd_memory.specs.Kept.{database_of, joined, schemas_in, stored, AreSlots, AreTables, HasPut, IsKept, IsSettled, Kept}
use Rattle.qd_memory.proofs.PutLemmas.{each_append}
use Rattle.qd_memory.proofs.TableLemmas.{changed_one, kept_set, put_batch, schemas_stored, stored_filled, table_within}

-- ---- one table

pub kept_none : (s : Schema) → IsSchema s → IsKept (record { schema = s; slots = []; parts = []; waiting = [] })
kept_none s schema = record { schema = schema; slots = record { each = tt; apart = tt }; few = omega arith; parts = refl; waiting = All-nil (IsRowOf s) }

pub kept_filled : (t : Kept) (rows : List Row) → IsKept t → All (IsRowOf t.schema) rows → IsKept (record { schema = t.schema; slots = t.slots; parts = t.parts; waiting = t.waiting ++ rows })
kept_filled t rows kept fit = record { schema = kept.schema; slots = kept.slots; few = kept.few; parts = kept.parts; waiting = All-append (IsRowOf t.schema) t.waiting rows kept.waiting fit }

pub kept_settled : (t : Kept) (slots : List Slot) (parts : List Part) (rows waiting : List Row) → IsKept t → HasPut t.schema t.slots rows slots → length slots < 2 ^ 64 → parts ≡ map (λ (x : Slot). x.part) slots → waiting ≡ []
    → IsKept (record { schema = t.schema; slots = slots; parts = parts; waiting = waiting })
kept_settled t slots parts rows waiting kept done few same none = record {
  schema = kept.schema;
  slots = done.slots;
  few = few;
  parts = same;
  waiting = subst (All (IsRowOf t.schema)) (sym none) (All-nil (IsRowOf t.schema));
}

pub stored_settled : (t : Kept) (slots : List Slot) (parts : List Part) (rows waiting : List Row) → IsKept t → rows ≡ batch t.schema.time_col t.schema.keys t.waiting → HasPut t.schema t.slots rows slots → waiting ≡ []
    → stored (record { schema = t.schema; slots = slots; parts = parts; waiting = waiting }) ≡ stored t
stored_settled t slots parts rows waiting kept is done none =
    let s : Schema = t.schema in
    ap (λ (l : List Row). let x : StoredTable = record { schema = t.schema; rows = l } in x)
    (ap (λ (w : List Row). fold (put s.time_col s.keys) (joined s.cols slots) w) none ∙ put_batch s t.slots slots t.waiting rows kept.schema kept.slots is done)

-- a table of equal parts
pub same_table : (s s' : Schema) (xs xs' : List Slot) (ps ps' : List Part) (w w' : List Row) → s' ≡ s → xs' ≡ xs → ps' ≡ ps → w' ≡ w
    → (let x : Kept = record { schema = s'; slots = xs'; parts = ps'; waiting = w' } in x) ≡ (let x : Kept = record { schema = s; slots = xs; parts = ps; waiting = w } in x)
same_table s s' xs xs' ps ps' w w' a b c d =
    ap (λ (y : Schema). let x : Kept = record { schema = y; slots = xs'; parts = ps'; waiting = w' } in x) a
    ∙ ap (λ (y : List Slot). let x : Kept = record { schema = s; slots = y; parts = ps'; waiting = w' } in x) b
    ∙ ap (λ (y : List Part). let x : Kept = record { schema = s; slots = xs; parts = y; waiting = w' } in x) c
    ∙ ap (λ (y : List Row). let x : Kept = record { schema = s; slots = xs; parts = ps; waiting = y } in x) d

-- ---- the table of a name

-- its schema is the one of the name
pub schema_there : (schemas : List Schema) (ts : List Kept) (name : List ℕ) (i : ℕ) (t : Kept) → AreTables schemas ts → Some i ≡ table_at schemas name → t ≡ get_or ts i t → schema_of schemas name ≡ Some t.schema
schema_there schemas ts name i t are at there =
    let here : Some i ≡ table_at (schemas_in ts) name = at ∙ ap (λ (l : List Schema). table_at l name) are.same in
    find-position (λ (s : Schema). same_name s.name name) schemas i t.schema (sym at)
    ∙ ap Some (ap (λ (l : List Schema). get_or l i t.schema) are.same ∙ get_or-map (λ (x : Kept). x.schema) ts i t t.schema (table_within ts name i here) ∙ ap (λ (x : Kept). x.schema) (sym there))

pub is_there : (schemas : List Schema) (ts : List Kept) (name : List ℕ) (i : ℕ) → AreTables schemas ts → Some i ≡ table_at schemas name → i < length ts
is_there schemas ts name i are at = table_within ts name i (at ∙ ap (λ (l : List Schema). table_at l name) are.same)

pub kept_there : (schemas : List Schema) (ts : List Kept) (name : List ℕ) (i : ℕ) (t : Kept) → AreTables schemas ts → Some i ≡ table_at schemas name → t ≡ get_or ts i t → IsKept t
kept_there schemas ts name i t are at there = subst IsKept (sym there) (All-from_recursion IsKept ts are.each i t (is_there schemas ts name i are at))

-- it can get a column that fits and is sound
pub may_widen : (schemas : List Schema) (ts : List Kept) (name : List ℕ) (col : Col) (i : ℕ) (t : Kept) → AreTables schemas ts → Fits schemas (op.AddColumn name col) → IsSound schemas (op.AddColumn name col) → Some i ≡ table_at schemas name → t ≡ get_or ts i t → IsSchema (with_column col t.schema)
may_widen schemas ts name col i t are fits sound at there =
    let is : schema_of schemas name ≡ Some t.schema = schema_there schemas ts name i t are at there in
    let lacks : IsNone (column_at t.schema.cols col.name) = subst (λ (o : Option Schema). IsSomeAnd o (λ (s : Schema). IsNone (column_at s.cols col.name))) is fits in
    let few : length t.schema.cols < MAX_COLUMNS = subst (λ (o : Option Schema). IfSome o (λ (s : Schema). length s.cols < MAX_COLUMNS)) is sound.1 in
    IsSchema-wider col sound.0 t.schema (kept_there schemas ts name i t are at there).schema (lacks, few)

-- rows that fit
pub may_fill : (schemas : List Schema) (ts : List Kept) (name : List ℕ) (rows : List Row) (i : ℕ) (t : Kept) → AreTables schemas ts → IsSound schemas (op.Insert name rows) → Some i ≡ table_at schemas name → t ≡ get_or ts i t → All (IsRowOf t.schema) rows
may_fill schemas ts name rows i t are sound at there =
    subst (λ (o : Option Schema). IfSome o (λ (s : Schema). All (IsRowOf s) rows)) (schema_there schemas ts name i t are at there) sound

-- keys that fit
pub may_rekey : (schemas : List Schema) (ts : List Kept) (name keys : List ℕ) (i : ℕ) (t : Kept) → AreTables schemas ts → Fits schemas (op.SetKeys name keys) → Some i ≡ table_at schemas name → t ≡ get_or ts i t → IsSchema (with_keys keys t.schema)
may_rekey schemas ts name keys i t are fits at there =
    IsSchema-rekeyed keys t.schema (kept_there schemas ts name i t are at there).schema
    (subst (λ (o : Option Schema). IsSomeAnd o (λ (s : Schema). AreKeys s.cols s.time_col keys)) (schema_there schemas ts name i t are at there) fits)

-- a change of it is the change of the table of the name
pub one_changed : (schemas : List Schema) (ts : List Kept) (name : List ℕ) (i : ℕ) (old new : Kept) (change : StoredTable → StoredTable) → AreTables schemas ts → Some i ≡ table_at schemas name → old ≡ get_or ts i old → stored new ≡ change (stored old)
    → database_of (set ts i new) ≡ at_name (λ (t : StoredTable). t.schema.name) change name (database_of ts)
one_changed schemas ts name i old new change are at there is = changed_one ts name i old new change (at ∙ ap (λ (l : List Schema). table_at l name) are.same) there is

-- a column or rows for a table that isn't there fit nowhere
pub none_widens : (schemas : List Schema) (name : List ℕ) (col : Col) → None ≡ table_at schemas name → Fits schemas (op.AddColumn name col) → ⊥
none_widens schemas name col none fits = not_found (λ (s : Schema). same_name s.name name) (λ (s : Schema). IsNone (column_at s.cols col.name)) schemas (sym none) fits

pub none_fills : (schemas : List Schema) (name : List ℕ) (rows : List Row) → None ≡ table_at schemas name → Fits schemas (op.Insert name rows) → ⊥
none_fills schemas name rows none fits = true≢false (sym fits ∙ ap is_some (sym none))

pub none_rekeys : (schemas : List Schema) (name keys : List ℕ) → None ≡ table_at schemas name → Fits schemas (op.SetKeys name keys) → ⊥
none_rekeys schemas name keys none fits = not_found (λ (s : Schema). same_name s.name name) (λ (s : Schema). AreKeys s.cols s.time_col keys) schemas (sym none) fits

-- ---- all tables

pub none_are : (schemas : List Schema) (ts : List Kept) → schemas ≡ [] → ts ≡ [] → AreTables schemas ts
none_are schemas ts no_schemas no_tables = record {
  same = no_schemas ∙ ap schemas_in (sym no_tables);
  lawful = subst AreSchemas (sym no_schemas) (record { few = omega arith; each = All-nil IsSchema; distinct = IsDistinct-nil (λ (a : Schema) (b : Schema). same_name a.name b.name) });
  each = subst (AllByRecursion IsKept) (sym no_tables) tt;
}

pub kept_more : (ts : List Kept) (t : Kept) → AllByRecursion IsKept ts → IsKept t → AllByRecursion IsKept (ts ++ t ∷ [])
kept_more ts t each is = each_append IsKept ts (t ∷ []) each (is, tt)

pub database_more : (ts : List Kept) (s : Schema) (t : Kept) → t ≡ record { schema = s; slots = []; parts = []; waiting = [] } → database_of (ts ++ t ∷ []) ≡ step (database_of ts) (op.Create s)
database_more ts s t is = map-append stored ts (t ∷ []) ∙ ap (λ (x : Kept). database_of ts ++ stored x ∷ []) is

pub are_changed : (schemas now : List Schema) (ts next : List Kept) (o : Op) → AreTables schemas ts → Fits schemas o → IsSound schemas o → now ≡ schemas_step schemas o → AllByRecursion IsKept next → database_of next ≡ step (database_of ts) o → AreTables now next
are_changed schemas now ts next o are fits sound is each after = record {
  same = is ∙ ap (λ (l : List Schema). schemas_step l o) (are.same ∙ sym (schemas_stored ts)) ∙ sym (schemas_of-step (database_of ts) o) ∙ ap schemas_of (sym after) ∙ schemas_stored next;
  lawful = subst AreSchemas (sym is) (AreSchemas-step schemas o are.lawful fits sound);
  each = each;
}

-- the schemas follow
pub schemas_after : (ts next : List Kept) (o : Op) → database_of next ≡ step (database_of ts) o → schemas_in next ≡ schemas_step (schemas_in ts) o
schemas_after ts next o after = sym (schemas_stored next) ∙ ap schemas_of after ∙ schemas_of-step (database_of ts) o ∙ ap (λ (l : List Schema). schemas_step l o) (schemas_stored ts)

pub schemas_done : (ts next : List Kept) (ops : List Op) → database_of next ≡ fold step (database_of ts) ops → schemas_in next ≡ fold schemas_step (schemas_in ts) ops
schemas_done ts next ops after = sym (schemas_stored next) ∙ ap schemas_of after ∙ schemas_of-commit (database_of ts) ops ∙ ap (λ (l : List Schema). fold schemas_step l ops) (schemas_stored ts)

-- tables that come to one database have the same schemas
pub schemas_same : (ts next : List Kept) → database_of next ≡ database_of ts → schemas_in next ≡ schemas_in ts
schemas_same ts next same = sym (schemas_stored next) ∙ ap schemas_of same ∙ schemas_stored ts

pub are_still : (schemas : List Schema) (ts next : List Kept) → AreTables schemas ts → AllByRecursion IsKept next → database_of next ≡ database_of ts → AreTables schemas next
are_still schemas ts next are each same = record { same = are.same ∙ sym (schemas_same ts next same); lawful = are.lawful; each = each }

-- ---- one change after another

-- the next of lawful changes
pub next_lawful : (schemas : List Schema) (ops : List Op) (i : ℕ) (o : Op) → i < length ops → o ≡ get_or ops i o → AreLawful schemas (drop i ops) → Fits schemas o × IsSound schemas o × AreLawful (schemas_step schemas o) (drop (i + 1) ops)
next_lawful schemas ops i o lt is lawful =
    let cut : drop i ops ≡ o ∷ drop (suc i) ops = drop-cons ops i o lt ∙ ap (λ (x : Op). x ∷ drop (suc i) ops) (sym is) in
    let all = subst (AreLawful schemas) cut lawful in
    (all.0, all.1, subst (λ (n : ℕ). AreLawful (schemas_step schemas o) (drop n ops)) (sym (one_more i)) all.2)
  where
    one_more : (i : ℕ) → i + 1 ≡ suc i
    one_more i = omega arith

pub step_more : (db : Database) (ops : List Op) (i : ℕ) (o : Op) → i < length ops → o ≡ get_or ops i o → fold step db (take (i + 1) ops) ≡ step (fold step db (take i ops)) o
step_more db ops i o lt is = ap (fold step db) (take_more ops i o lt ∙ ap (λ (x : Op). take i ops ++ x ∷ []) (sym is)) ∙ fold-append step db (take i ops) (o ∷ [])

-- the next of lawful transactions
pub next_entry : (schemas : List Schema) (entries : List Entry) (i : ℕ) (e : Entry) → i < length entries → e ≡ get_or entries i e → LawfulFrom schemas (drop i entries) → AreLawful schemas e.ops × LawfulFrom (fold schemas_step schemas e.ops) (drop (i + 1) entries)
next_entry schemas entries i e lt is lawful =
    let cut : drop i entries ≡ e ∷ drop (suc i) entries = drop-cons entries i e lt ∙ ap (λ (x : Entry). x ∷ drop (suc i) entries) (sym is) in
    let all = subst (LawfulFrom schemas) cut lawful in
    (all.0, subst (λ (n : ℕ). LawfulFrom (fold schemas_step schemas e.ops) (drop n entries)) (sym (one_more i)) all.3)
  where
    one_more : (i : ℕ) → i + 1 ≡ suc i
    one_more i = omega arith

pub replay_more : (db : Database) (entries : List Entry) (i : ℕ) (e : Entry) → i < length entries → e ≡ get_or entries i e → replay db (take (i + 1) entries) ≡ commit (replay db (take i entries)) e
replay_more db entries i e lt is = ap (replay db) (take_more entries i e lt ∙ ap (λ (x : Entry). take i entries ++ x ∷ []) (sym is)) ∙ fold-append commit db (take i entries) (e ∷ [])

-- ---- tables settled in turn

pub settled_one : (ts : List Kept) (i : ℕ) (old new : Kept) → i < length ts → old ≡ get_or ts i old → stored new ≡ stored old → database_of (set ts i new) ≡ database_of ts
settled_one ts i old new lt is same = map-set_same stored ts i new old (same ∙ ap stored is)

pub settled_more : (ts : List Kept) (i : ℕ) (t : Kept) → i < length ts → ((k : ℕ) (d : Kept) → k < i → IsSettled (get_or ts k d)) → IsSettled t → (k : ℕ) (d : Kept) → k < i + 1 → IsSettled (get_or (set ts i t) k d)
settled_more [] i t lt h is k d low = absurd (omega arith)
settled_more (x ∷ ts) zero t lt h is zero d low = is
settled_more (x ∷ ts) zero t lt h is (suc k) d low = absurd (omega arith)
settled_more (x ∷ ts) (suc i) t lt h is zero d low = h zero d (omega arith)
settled_more (x ∷ ts) (suc i) t lt h is (suc k) d low = settled_more ts i t (omega arith) (λ j e less. h (suc j) e (omega arith)) is k d (omega arith)
