-- What lawful histories leave: sound schemas of distinct names, and rows that fit them.
use Rattle.std.proofs.Common.{◌≡◌, ℕ, zero, suc, ◌+◌, ◌<◌, ◌≤◌, Bool, true, false, ◌&&◌, if◌then◌else◌, leb, ltb, nat_eq, List, [], ◌∷◌, ◌++◌, Option, Some, None, IsSomeAnd, IfSome, IsNone, All, Contains, map, length, slice_get, refl, sym, ap, ap₂, ◌∙◌, inl, inr, ⊎_elim, ◌⊎◌, true≢false, arith}
use Rattle.std.specs.List.{AllByRecursion, IsDistinct, filter, find, fold}
use Rattle.std.proofs.lemmas.List.{length-map, length_push}
use Rattle.std.proofs.lemmas.List.Elements.{All-push, All-weaker, All-nil, All-from_recursion, recursion_from_All}
use Rattle.qd_base.specs.declared.cell.Cell.{Cell}
use Rattle.qd_base.specs.declared.schema.ColType.{ColType}
use Rattle.qd_base.specs.declared.schema.ColType.TheVariants as kind
use Rattle.qd_base.specs.declared.schema.Col.{Col}
use Rattle.qd_base.specs.declared.schema.Schema.{Schema}
use Rattle.qd_base.specs.declared.op.Op.{Op}
use Rattle.qd_base.specs.declared.op.Op.TheVariants as op
use Rattle.qd_base.specs.declared.op.Entry.{Entry}
use Rattle.qd_base.specs.declared.limits.TheConstants.{MAX_COLUMNS, MAX_TABLES}
use Rattle.qd_base.specs.Names.{IsColumnName}
use Rattle.qd_base.specs.Rows.{Row, cell_at, cell_eq, same_on, time_of, without_equals, put}
use Rattle.qd_base.specs.Schemas.{same_name, column_at, at_name, with_column, with_keys, schema_of, schemas_step, schemas_from, sets_keys_of, AreKeys, Fits, KeysStay}
use Rattle.qd_base.specs.Database.{Database, StoredTable, missing, widened, filled, rekeyed, step, schemas_of}
use Rattle.qd_base.specs.Replay.{commit, replay, after}
use Rattle.qd_base.specs.Lawful.{Takes, HasKinds, IsRowOf, IsSchema, IsSound, AreLawful, LawfulFrom, Lawful, AreSchemas}
use Rattle.qd_base.proofs.Lists.{each-filter, each-append, each-weaker, IsDistinct-push, IsDistinct-map, IsDistinct-from_map, IsDistinct-nil}
use Rattle.qd_base.proofs.Keys.{IsDistinct-fold}
use Rattle.qd_base.proofs.Tables.{each-at_name, each-at_found, find-part, map-kept, position-none, schemas_of-step, schemas_of-commit, schemas_of-replay}

-- what a list has at a place stays there when the list grows
pub get-grown : {X : Type 0} (Q : X → Type 0) (xs ys : List X) (i : ℕ) → IsSomeAnd (slice_get xs i) Q → IsSomeAnd (slice_get (xs ++ ys) i) Q
get-grown Q [] ys i h = absurd h
get-grown Q (x ∷ xs) ys zero h = h
get-grown Q (x ∷ xs) ys (suc i) h = get-grown Q xs ys i h

pub get-below : {X : Type 0} (Q : X → Type 0) (xs : List X) (i : ℕ) → IsSomeAnd (slice_get xs i) Q → i < length xs
get-below Q [] i h = absurd h
get-below Q (x ∷ xs) zero h = omega arith
get-below Q (x ∷ xs) (suc i) h = let lt = get-below Q xs i h in omega arith

if_some : {X : Type 0} (P : X → Type 0) (o : Option X) → IsSomeAnd o P → IfSome o P
if_some P None h = absurd h
if_some P (Some x) h = h

both : {X : Type 0} (P Q : X → Type 0) (o : Option X) → IsSomeAnd o P → IfSome o Q → IfSome o (λ x. P x × Q x)
both P Q None h k = absurd h
both P Q (Some x) h k = (h, k)

-- a column that is new, of an allowed name
module _ (col : Col) (named : IsColumnName col.name) where
  pub IsSchema-wider : (s : Schema) → IsSchema s → IsNone (column_at s.cols col.name) × (length s.cols < MAX_COLUMNS) → IsSchema (with_column col s)
  IsSchema-wider s h new =
      let grown : length (s.cols ++ col ∷ []) ≡ length s.cols + 1 = length_push s.cols col in
      record {
        name = h.name;
        few = let below : length s.cols < MAX_COLUMNS = new.1 in omega arith;
        names = All-push (λ (c : Col). IsColumnName c.name) s.cols col h.names named;
        distinct = IsDistinct-push (λ (a : Col) (b : Col). same_name a.name b.name) s.cols col h.distinct (position-none (λ (c : Col). same_name c.name col.name) s.cols new.0);
        designated = get-grown (λ (c : Col). c.kind ≡ kind.Time) s.cols (col ∷ []) s.time_col h.designated;
        keys = ⊎_elim inl (λ k. inr (All-weaker (λ i. i < length s.cols) (λ i. i < length (s.cols ++ col ∷ [])) (λ i lt. omega arith) s.keys k.0, k.1, k.2)) h.keys;
      }

pub IsSchema-rekeyed : (keys : List ℕ) (s : Schema) → IsSchema s → AreKeys s.cols s.time_col keys → IsSchema (with_keys keys s)
IsSchema-rekeyed keys s h are = record { name = h.name; few = h.few; names = h.names; distinct = h.distinct; designated = h.designated; keys = are }

-- a change of one schema that leaves its name leaves the names as they are, and their number
module _ (change : Schema → Schema) (same : (s : Schema) → (change s).name ≡ s.name) (table : List ℕ) (schemas : List Schema) where
  names-kept : map (λ (s : Schema). s.name) (at_name (λ (s : Schema). s.name) change table schemas) ≡ map (λ (s : Schema). s.name) schemas
  names-kept = map-kept (λ (s : Schema). s.name) change (λ (s : Schema). s.name) table same schemas

  pub length-changed : length (at_name (λ (s : Schema). s.name) change table schemas) ≡ length schemas
  length-changed =
      sym (length-map (at_name (λ (s : Schema). s.name) change table schemas) (λ (s : Schema). s.name))
      ∙ ap length names-kept ∙ length-map schemas (λ (s : Schema). s.name)

  distinct-kept : IsDistinct (λ (a : Schema) (b : Schema). same_name a.name b.name) schemas → IsDistinct (λ (a : Schema) (b : Schema). same_name a.name b.name) (at_name (λ (s : Schema). s.name) change table schemas)
  distinct-kept d =
      let e : IsDistinct same_name (map (λ (s : Schema). s.name) (at_name (λ (s : Schema). s.name) change table schemas)) =
      rw names-kept (IsDistinct-map (λ (s : Schema). s.name) same_name schemas d) in
      IsDistinct-from_map (λ (s : Schema). s.name) same_name (at_name (λ (s : Schema). s.name) change table schemas) e

pub length-at_name : (col : Col) (table : List ℕ) (schemas : List Schema) → length (at_name (λ (s : Schema). s.name) (with_column col) table schemas) ≡ length schemas
length-at_name col = length-changed (with_column col) (λ s. refl)

pub AreSchemas-step : (schemas : List Schema) (o : Op) → AreSchemas schemas → Fits schemas o → IsSound schemas o → AreSchemas (schemas_step schemas o)
AreSchemas-step schemas (op.Create schema) h fits sound =
    record {
      few = let grown = length_push schemas schema in let below : length schemas < MAX_TABLES = sound.0 in omega arith;
      each = All-push IsSchema schemas schema h.each sound.1;
      distinct = IsDistinct-push (λ (a : Schema) (b : Schema). same_name a.name b.name) schemas schema h.distinct (position-none (λ (s : Schema). same_name s.name schema.name) schemas fits);
    }
AreSchemas-step schemas (op.AddColumn table col) h fits sound =
    record {
      few = let same = length-at_name col table schemas in let few : length schemas ≤ MAX_TABLES = h.few in omega arith;
      each = All-from_recursion IsSchema (at_name (λ (s : Schema). s.name) (with_column col) table schemas)
          (each-at_found (λ (s : Schema). s.name) (with_column col) table IsSchema (λ s. IsNone (column_at s.cols col.name) × (length s.cols < MAX_COLUMNS)) (IsSchema-wider col sound.0) schemas
          (both (λ s. IsNone (column_at s.cols col.name)) (λ s. length s.cols < MAX_COLUMNS) (schema_of schemas table) fits sound.1)
          (recursion_from_All IsSchema schemas h.each));
      distinct = distinct-kept (with_column col) (λ s. refl) table schemas h.distinct;
    }
AreSchemas-step schemas (op.Insert table rows) h fits sound = h
AreSchemas-step schemas (op.SetKeys table keys) h fits sound =
    record {
      few = let same = length-changed (with_keys keys) (λ s. refl) table schemas in let few : length schemas ≤ MAX_TABLES = h.few in omega arith;
      each = All-from_recursion IsSchema (at_name (λ (s : Schema). s.name) (with_keys keys) table schemas)
          (each-at_found (λ (s : Schema). s.name) (with_keys keys) table IsSchema (λ s. AreKeys s.cols s.time_col keys) (IsSchema-rekeyed keys) schemas
          (if_some (λ s. AreKeys s.cols s.time_col keys) (schema_of schemas table) fits)
          (recursion_from_All IsSchema schemas h.each));
      distinct = distinct-kept (with_keys keys) (λ s. refl) table schemas h.distinct;
    }

pub AreSchemas-ops : (schemas : List Schema) (ops : List Op) → AreSchemas schemas → AreLawful schemas ops → AreSchemas (fold schemas_step schemas ops)
AreSchemas-ops schemas [] h lawful = h
AreSchemas-ops schemas (o ∷ os) h lawful = AreSchemas-ops (schemas_step schemas o) os (AreSchemas-step schemas o h lawful.0 lawful.1) lawful.2

AreSchemas-from : (schemas : List Schema) (history : List Entry) → AreSchemas schemas → LawfulFrom schemas history → AreSchemas (schemas_from schemas history)
AreSchemas-from schemas [] h lawful = h
AreSchemas-from schemas (e ∷ es) h lawful = AreSchemas-from (fold schemas_step schemas e.ops) es (AreSchemas-ops schemas e.ops h lawful.0) lawful.3

no_schemas : AreSchemas []
no_schemas = record { few = omega arith; each = All-nil IsSchema; distinct = IsDistinct-nil (λ (a : Schema) (b : Schema). same_name a.name b.name) }

pub sound_schemas : (history : List Entry) → Lawful history → AreSchemas (schemas_of (after history))
sound_schemas history lawful = rw (schemas_of-replay [] history) (AreSchemas-from [] history no_schemas lawful)

-- a table whose designated column and keys are there, with rows that fit it
record Fitting (t : StoredTable) : Type 0 where
  designated : IsSomeAnd (slice_get t.schema.cols t.schema.time_col) (λ c. c.kind ≡ kind.Time)
  keys : AllByRecursion (λ k. k < length t.schema.cols) t.schema.keys
  rows : AllByRecursion (IsRowOf t.schema) t.rows

-- a table without keys, or with no two rows of equal keys
abbrev IsUnique : StoredTable → Type 0
IsUnique t = (t.schema.keys ≡ []) ⊎ IsDistinct (same_on t.schema.keys) t.rows

pub missing-taken : (k : ColType) → Takes k (missing k)
missing-taken kind.Long = tt
missing-taken kind.Bool = tt
missing-taken kind.Symbol = tt
missing-taken kind.Varchar = tt
missing-taken kind.Time = tt

-- a row has as many cells as there are columns, and one more of each fits again
pub HasKinds-length : (cols : List Col) (row : Row) → HasKinds cols row → length cols ≡ length row
HasKinds-length [] [] h = refl
HasKinds-length [] (x ∷ xs) h = absurd h
HasKinds-length (c ∷ cs) [] h = absurd h
HasKinds-length (c ∷ cs) (x ∷ xs) h = ap suc (HasKinds-length cs xs h.1)

HasKinds-push : (cols : List Col) (row : Row) (c : Col) (x : Cell) → HasKinds cols row → Takes c.kind x → HasKinds (cols ++ c ∷ []) (row ++ x ∷ [])
HasKinds-push [] [] c x h k = (k, tt)
HasKinds-push [] (y ∷ ys) c x h k = absurd h
HasKinds-push (d ∷ ds) [] c x h k = absurd h
HasKinds-push (d ∷ ds) (y ∷ ys) c x h k = (h.0, HasKinds-push ds ys c x h.1 k)

-- a cell behind a row leaves those before it
pub cell_at-longer : (row : Row) (x : Cell) (n : ℕ) → n < length row → cell_at (row ++ x ∷ []) n ≡ cell_at row n
cell_at-longer [] x n lt = absurd (omega arith)
cell_at-longer (y ∷ ys) x zero lt = refl
cell_at-longer (y ∷ ys) x (suc n) lt = cell_at-longer ys x n (omega arith)

IsRowOf-longer : (col : Col) (s : Schema) (row : Row) → s.time_col < length s.cols → IsRowOf s row → IsRowOf (with_column col s) (row ++ missing col.kind ∷ [])
IsRowOf-longer col s row below h =
    let cells : length s.cols ≡ length row = HasKinds-length s.cols row h.kinds in
    let same : cell_at (row ++ missing col.kind ∷ []) s.time_col ≡ cell_at row s.time_col = cell_at-longer row (missing col.kind) s.time_col (omega arith) in
    record {
      kinds = HasKinds-push s.cols row col (missing col.kind) h.kinds (missing-taken col.kind);
      timed = λ e. h.timed (sym same ∙ e);
    }

rows-longer : (col : Col) (s : Schema) → s.time_col < length s.cols → (rows : List Row) → AllByRecursion (IsRowOf s) rows → AllByRecursion (IsRowOf (with_column col s)) (map (λ r. r ++ missing col.kind ∷ []) rows)
rows-longer col s below [] h = tt
rows-longer col s below (r ∷ rs) h = (IsRowOf-longer col s r below h.0, rows-longer col s below rs h.1)

-- a cell behind each row changes nothing on keys that all rows have
same_on-longer : (keys : List ℕ) (n : ℕ) (x : Cell) (a b : Row) → AllByRecursion (λ k. k < n) keys → n ≡ length a → n ≡ length b → same_on keys (a ++ x ∷ []) (b ++ x ∷ []) ≡ same_on keys a b
same_on-longer [] n x a b h p q = refl
same_on-longer (k ∷ ks) n x a b h p q =
    ap₂ (λ c d. c && d)
    (ap₂ cell_eq (cell_at-longer a x k (let lt : k < n = h.0 in omega arith)) (cell_at-longer b x k (let lt : k < n = h.0 in omega arith)))
    (same_on-longer ks n x a b h.1 p q)

differ-longer : (keys : List ℕ) (n : ℕ) (x : Cell) (a : Row) (rows : List Row) → AllByRecursion (λ k. k < n) keys → n ≡ length a → AllByRecursion (λ r. n ≡ length r) rows → AllByRecursion (λ b. same_on keys a b ≡ false) rows → AllByRecursion (λ b. same_on keys (a ++ x ∷ []) b ≡ false) (map (λ r. r ++ x ∷ []) rows)
differ-longer keys n x a [] h p q d = tt
differ-longer keys n x a (b ∷ bs) h p q d = (same_on-longer keys n x a b h p q.0 ∙ d.0, differ-longer keys n x a bs h p q.1 d.1)

distinct-longer : (keys : List ℕ) (n : ℕ) (x : Cell) (rows : List Row) → AllByRecursion (λ k. k < n) keys → AllByRecursion (λ r. n ≡ length r) rows → IsDistinct (same_on keys) rows → IsDistinct (same_on keys) (map (λ r. r ++ x ∷ []) rows)
unfolding IsDistinct
distinct-longer keys n x [] h q d = tt
distinct-longer keys n x (a ∷ rest) h q d = (differ-longer keys n x a rest h q.0 q.1 d.0, distinct-longer keys n x rest h q.1 d.1)

Fitting-wider : (col : Col) (t : StoredTable) → Fitting t → Fitting (widened col t)
Fitting-wider col t h =
    record {
      designated = get-grown (λ (c : Col). c.kind ≡ kind.Time) t.schema.cols (col ∷ []) t.schema.time_col h.designated;
      keys = let grown = length_push t.schema.cols col in each-weaker (λ k. k < length t.schema.cols) (λ k. k < length (t.schema.cols ++ col ∷ [])) (λ k lt. omega arith) t.schema.keys h.keys;
      rows = rows-longer col t.schema (get-below (λ (c : Col). c.kind ≡ kind.Time) t.schema.cols t.schema.time_col h.designated) t.rows h.rows;
    }

unique-wider : (col : Col) (t : StoredTable) → Fitting t → IsUnique t → IsUnique (widened col t)
unique-wider col t h u =
    ⊎_elim inl (λ d. inr (distinct-longer t.schema.keys (length t.schema.cols) (missing col.kind) t.rows h.keys (each-weaker (IsRowOf t.schema) (λ r. length t.schema.cols ≡ length r) (λ r f. HasKinds-length t.schema.cols r f.kinds) t.rows h.rows) d)) u

-- `put` takes from the rows that are there and the new one
module _ (P : Row → Type 0) (col : ℕ) where
  each-without : (keys : List ℕ) (rows : List Row) (row : Row) → AllByRecursion P rows → AllByRecursion P (without_equals keys rows row)
  each-without [] rows row h = h
  each-without (k ∷ ks) rows row h = each-filter P _ rows h

  each-put : (keys : List ℕ) (rows : List Row) (row : Row) → AllByRecursion P rows → P row → AllByRecursion P (put col keys rows row)
  each-put keys rows row h p =
      let rest : List Row = without_equals keys rows row in
      let g : AllByRecursion P rest = each-without keys rows row h in
      each-append P (filter (λ x. leb (time_of col x) (time_of col row)) rest) (row ∷ filter (λ x. ltb (time_of col row) (time_of col x)) rest)
      (each-filter P (λ x. leb (time_of col x) (time_of col row)) rest g) (p, each-filter P (λ x. ltb (time_of col row) (time_of col x)) rest g)

  each-fold : (keys : List ℕ) (rows new : List Row) → AllByRecursion P rows → AllByRecursion P new → AllByRecursion P (fold (put col keys) rows new)
  each-fold keys rows [] h k = h
  each-fold keys rows (row ∷ new) h k = each-fold keys (put col keys rows row) new (each-put keys rows row h k.0) k.1

unique-fold : (col : ℕ) (keys : List ℕ) (rows new : List Row) → (keys ≡ []) ⊎ IsDistinct (same_on keys) rows → (keys ≡ []) ⊎ IsDistinct (same_on keys) (fold (put col keys) rows new)
unique-fold col [] rows new h = inl refl
unique-fold col (k ∷ ks) rows new h = inr (IsDistinct-fold col k ks rows new (⊎_elim (λ e. cc) (λ d. d) h))

Fitting-filled : (new : List Row) (t : StoredTable) → Fitting t → All (IsRowOf t.schema) new → Fitting (filled new t)
Fitting-filled new t h k =
    record {
      designated = h.designated;
      keys = h.keys;
      rows = each-fold (IsRowOf t.schema) t.schema.time_col t.schema.keys t.rows new h.rows (recursion_from_All (IsRowOf t.schema) new k);
    }

keys_there : (cols : ℕ) (keys : List ℕ) (col : ℕ) → (keys ≡ []) ⊎ (All (λ k. k < cols) keys × IsDistinct nat_eq keys × Contains keys col) → AllByRecursion (λ k. k < cols) keys
keys_there cols keys col h = ⊎_elim (λ e. rw e tt) (λ k. recursion_from_All (λ k. k < cols) keys k.0) h

Fitting-rekeyed : (keys : List ℕ) (t : StoredTable) → Fitting t → AreKeys t.schema.cols t.schema.time_col keys → Fitting (rekeyed keys t)
Fitting-rekeyed keys t h are =
    record {
      designated = h.designated;
      keys = keys_there (length t.schema.cols) keys t.schema.time_col are;
      rows = each-weaker (IsRowOf t.schema) (IsRowOf (with_keys keys t.schema)) (λ r f. record { kinds = f.kinds; timed = f.timed }) t.rows h.rows;
    }

-- what a search finds passes the test
module _ {X : Type 0} (p : X → Bool) where
  passes : (b : Bool) (x : X) (o : Option X) → p x ≡ b → IfSome o (λ y. p y ≡ true) → IfSome (if b then Some x else o) (λ y. p y ≡ true)
  passes true x o e ih = e
  passes false x o e ih = ih

  find-passes : (xs : List X) → IfSome (find p xs) (λ x. p x ≡ true)
  find-passes [] = tt
  find-passes (x ∷ xs) = passes (p x) x (find p xs) refl (find-passes xs)

-- Where the keys of the table of a name stay, that table keeps no two rows of equal keys.
module _ (Stay : Type 0) (name : List ℕ) where
  abbrev Keeps : StoredTable → Type 0
  Keeps t = Fitting t × (Stay → t.schema.name ≡ name → IsUnique t)

  -- the changed table is of another name than the one whose keys stay
  not_named : (n table : List ℕ) → same_name n table ≡ true → same_name name table ≡ false → n ≡ name → ⊥
  not_named n table is stays e = true≢false (sym is ∙ ap (λ m. same_name m table) e ∙ stays)

  Keeps-step : (db : Database) (o : Op) → AllByRecursion Keeps db → Fits (schemas_of db) o → IsSound (schemas_of db) o → (Stay → sets_keys_of name o ≡ false) → AllByRecursion Keeps (step db o)
  Keeps-step db (op.Create schema) h fits sound stays =
      let made : Fitting (record { schema = schema; rows = [] }) =
      record {
        designated = sound.1.designated;
        keys = keys_there (length schema.cols) schema.keys schema.time_col sound.1.keys;
        rows = tt;
      } in
      each-append Keeps db (record { schema = schema; rows = [] } ∷ []) h ((made, λ s e. inr (IsDistinct-nil (same_on schema.keys))), tt)
  Keeps-step db (op.AddColumn table col) h fits sound stays =
      each-at_name (λ (t : StoredTable). t.schema.name) (widened col) table Keeps (λ t k. (Fitting-wider col t k.0, λ s e. unique-wider col t k.0 (k.1 s e))) db h
  Keeps-step db (op.Insert table rows) h fits sound stays =
      each-at_found (λ (t : StoredTable). t.schema.name) (filled rows) table Keeps (λ t. All (IsRowOf t.schema) rows)
      (λ t k new. (Fitting-filled rows t k.0 new, λ s e. unique-fold t.schema.time_col t.schema.keys t.rows rows (k.1 s e))) db
      (find-part (λ (s : Schema). same_name s.name table) (λ (t : StoredTable). t.schema) (λ s. All (IsRowOf s) rows) db sound) h
  Keeps-step db (op.SetKeys table keys) h fits sound stays =
      each-at_found (λ (t : StoredTable). t.schema.name) (rekeyed keys) table Keeps (λ t. AreKeys t.schema.cols t.schema.time_col keys × (same_name t.schema.name table ≡ true))
      (λ t k new. (Fitting-rekeyed keys t k.0 new.0, λ s e. absurd (not_named t.schema.name table new.1 (stays s) e))) db
      (find-part (λ (s : Schema). same_name s.name table) (λ (t : StoredTable). t.schema) (λ s. AreKeys s.cols s.time_col keys × (same_name s.name table ≡ true)) db
      (both (λ s. AreKeys s.cols s.time_col keys) (λ s. same_name s.name table ≡ true) (schema_of (schemas_of db) table) fits (find-passes (λ (s : Schema). same_name s.name table) (schemas_of db)))) h

  Keeps-ops : (db : Database) (ops : List Op) → AllByRecursion Keeps db → AreLawful (schemas_of db) ops → (Stay → AllByRecursion (λ o. sets_keys_of name o ≡ false) ops) → AllByRecursion Keeps (fold step db ops)
  Keeps-ops db [] h lawful stays = h
  Keeps-ops db (o ∷ os) h lawful stays =
      let rest : AreLawful (schemas_of (step db o)) os = rw (schemas_of-step db o) lawful.2 in
      Keeps-ops (step db o) os (Keeps-step db o h lawful.0 lawful.1 (λ s. (stays s).0)) rest (λ s. (stays s).1)

  Keeps-replay : (db : Database) (history : List Entry) → AllByRecursion Keeps db → LawfulFrom (schemas_of db) history → (Stay → KeysStay history name) → AllByRecursion Keeps (replay db history)
  Keeps-replay db [] h lawful stays = h
  Keeps-replay db (e ∷ es) h lawful stays =
      let rest : LawfulFrom (schemas_of (commit db e)) es = rw (schemas_of-commit db e.ops) lawful.3 in
      Keeps-replay (commit db e) es (Keeps-ops db e.ops h lawful.0 (λ s. (stays s).0)) rest (λ s. (stays s).1)

pub fitting_rows : (history : List Entry) → Lawful history → AllByRecursion (λ (t : StoredTable). All (IsRowOf t.schema) t.rows) (after history)
fitting_rows history lawful =
    each-weaker (Keeps ⊥ []) (λ t. All (IsRowOf t.schema) t.rows) (λ t h. All-from_recursion (IsRowOf t.schema) t.rows h.0.rows) (after history)
    (Keeps-replay ⊥ [] [] history tt lawful (λ no. absurd no))

-- what holds of each element for every name holds of it for its own
for_own_name : (P : List ℕ → StoredTable → Type 0) (ts : List StoredTable) → ((name : List ℕ) → AllByRecursion (P name) ts) → AllByRecursion (λ t. P t.schema.name t) ts
for_own_name P [] h = tt
for_own_name P (t ∷ ts) h = ((h t.schema.name).0, for_own_name P ts (λ name. (h name).1))

pub unique_tables : (history : List Entry) → Lawful history → AllByRecursion (λ (t : StoredTable). KeysStay history t.schema.name → (t.schema.keys ≡ []) ⊎ IsDistinct (same_on t.schema.keys) t.rows) (after history)
unique_tables history lawful =
    each-weaker (λ t. KeysStay history t.schema.name → t.schema.name ≡ t.schema.name → IsUnique t) (λ t. KeysStay history t.schema.name → IsUnique t) (λ t h s. h s refl) (after history)
    (for_own_name (λ name t. KeysStay history name → t.schema.name ≡ name → IsUnique t) (after history)
    (λ name. each-weaker (Keeps (KeysStay history name) name) (λ t. KeysStay history name → t.schema.name ≡ name → IsUnique t) (λ t h. h.1) (after history)
    (Keeps-replay (KeysStay history name) name [] history tt lawful (λ s. s))))
