-- Tables by name: what a change of the table of a name does, to schemas and to whole tables.
use Rattle.std.proofs.Common.{◌≡◌, ℕ, zero, suc, ◌+◌, ◌<◌, ◌≤◌, Bool, true, false, cond, not, ltb, List, [], ◌∷◌, ◌++◌, Option, Some, None, is_some, IsSome, IsNone, IsSomeAnd, IfSome, IsTrue, ◌↔◌, if◌then◌else◌, map, length, get_or, set, refl, sym, ap, ◌∙◌, true≢false, suc-le-suc, le_of_suc-le-suc, zero-lt-suc, arith}
use Rattle.std.specs.List.{AllByRecursion, fold, find, position, position_or_len}
use Rattle.std.proofs.lemmas.Bool.{cond-true, cond-false, lt-ltb, ltb-false, not-false}
use Rattle.std.proofs.lemmas.List.{map-append}
use Rattle.std.proofs.lemmas.List.Quantifiers.{position-Some}
use Rattle.qd_base.specs.declared.schema.ColType.{ColType}
use Rattle.qd_base.specs.declared.schema.ColType.TheVariants as kind
use Rattle.qd_base.specs.declared.schema.Col.{Col}
use Rattle.qd_base.specs.declared.schema.Schema.{Schema}
use Rattle.qd_base.specs.declared.op.Op.{Op}
use Rattle.qd_base.specs.declared.op.Op.TheVariants as op
use Rattle.qd_base.specs.declared.op.Entry.{Entry}
use Rattle.qd_base.specs.Rows.{time_in}
use Rattle.qd_base.specs.Schemas.{same_name, at_name, with_column, with_keys, schemas_step, schemas_from, schema_of, table_at, column_at, AreKeys, Fits}
use Rattle.qd_base.specs.Database.{Database, StoredTable, missing, widened, filled, rekeyed, step, schemas_of}
use Rattle.qd_base.specs.Replay.{commit, replay, after}
use Rattle.qd_base.specs.Laws.{IsInOrder}
use Rattle.qd_base.proofs.Lists.{each-append}
use Rattle.qd_base.proofs.Order.{in_order-fold, in_order-longer}

module _ {T : Type 0} (name_of : T → List ℕ) (change : T → T) (name : List ℕ) where
  -- the first of the name is the one that changes
  at_first : (xs : List T) (i : ℕ) (d : T) → i < length xs → same_name (name_of (get_or xs i d)) name ≡ true → ((k : ℕ) → k < i → same_name (name_of (get_or xs k d)) name ≡ false) → at_name name_of change name xs ≡ set xs i (change (get_or xs i d))
  at_first [] i d lt e f = absurd (omega arith)
  at_first (x ∷ xs) zero d lt e f = cond-true (same_name (name_of x) name) (change x ∷ xs) (x ∷ at_name name_of change name xs) e
  at_first (x ∷ xs) (suc i) d lt e f =
      cond-false (same_name (name_of x) name) (change x ∷ xs) (x ∷ at_name name_of change name xs) (f 0 (zero-lt-suc i))
      ∙ ap (λ l. x ∷ l) (at_first xs i d (le_of_suc-le-suc lt) e (λ k h. f (suc k) (suc-le-suc h)))

  pub at_name-position : (xs : List T) (i : ℕ) (d : T) → position (λ x. same_name (name_of x) name) xs ≡ Some i → at_name name_of change name xs ≡ set xs i (change (get_or xs i d))
  at_name-position xs i d e =
      let h = position-Some (λ x. same_name (name_of x) name) xs i d e in
      at_first xs i d h.0 h.1 h.2

  one : (P : T → Type 0) (b : Bool) (x : T) (xs ys : List T) → P x → P (change x) → AllByRecursion P xs → AllByRecursion P ys → AllByRecursion P (if b then change x ∷ xs else x ∷ ys)
  one P true x xs ys p q h k = (q, h)
  one P false x xs ys p q h k = (p, k)

  -- a fact of each element that the change keeps
  pub each-at_name : (P : T → Type 0) → ((x : T) → P x → P (change x)) → (xs : List T) → AllByRecursion P xs → AllByRecursion P (at_name name_of change name xs)
  each-at_name P f [] h = tt
  each-at_name P f (x ∷ xs) h = one P (same_name (name_of x) name) x xs (at_name name_of change name xs) h.0 (f x h.0) h.1 (each-at_name P f xs h.1)

-- The element that changes is the one that `find` gives.
module _ {T : Type 0} (name_of : T → List ℕ) (change : T → T) (name : List ℕ) (P Q : T → Type 0) where
  one_found : (b : Bool) (x : T) (xs ys : List T) (o : Option T) → ((y : T) → P y → Q y → P (change y)) → P x → AllByRecursion P xs → IfSome (if b then Some x else o) Q → (IfSome o Q → AllByRecursion P ys) → AllByRecursion P (if b then change x ∷ xs else x ∷ ys)
  one_found true x xs ys o f p h q ih = (f x p q, h)
  one_found false x xs ys o f p h q ih = (p, ih q)

  pub each-at_found : ((x : T) → P x → Q x → P (change x)) → (xs : List T) → IfSome (find (λ x. same_name (name_of x) name) xs) Q → AllByRecursion P xs → AllByRecursion P (at_name name_of change name xs)
  each-at_found f [] q h = tt
  each-at_found f (x ∷ xs) q h = one_found (same_name (name_of x) name) x xs (at_name name_of change name xs) (find (λ x. same_name (name_of x) name) xs) f h.0 h.1 q (λ r. each-at_found f xs r h.1)

found : {S T : Type 0} (part : T → S) (Q : S → Type 0) (b : Bool) (x : T) (o : Option S) (r : Option T) → IfSome (if b then Some (part x) else o) Q → (IfSome o Q → IfSome r (λ y. Q (part y))) → IfSome (if b then Some x else r) (λ y. Q (part y))
found part Q true x o r q ih = q
found part Q false x o r q ih = ih q

pub find-part : {S T : Type 0} (p : S → Bool) (part : T → S) (Q : S → Type 0) (xs : List T) → IfSome (find p (map part xs)) Q → IfSome (find (λ x. p (part x)) xs) (λ x. Q (part x))
find-part p part Q [] q = tt
find-part p part Q (x ∷ xs) q = found part Q (p (part x)) x (find p (map part xs)) (find (λ y. p (part y)) xs) q (find-part p part Q xs)

-- the part that a map keeps changes as the whole does
module _ {S T : Type 0} (name_of : T → List ℕ) (part_name : S → List ℕ) (change : T → T) (change_part : S → S) (part : T → S) (name : List ℕ) where
  parted : (b c : Bool) (x : T) (xs ys : List T) (zs : List S) → b ≡ c → part (change x) ≡ change_part (part x) → map part ys ≡ zs → map part (if b then change x ∷ xs else x ∷ ys) ≡ (if c then change_part (part x) ∷ map part xs else part x ∷ zs)
  parted true true x xs ys zs e f g = ap (λ s. s ∷ map part xs) f
  parted true false x xs ys zs e f g = absurd (true≢false e)
  parted false true x xs ys zs e f g = absurd (true≢false (sym e))
  parted false false x xs ys zs e f g = ap (λ l. part x ∷ l) g

  pub map-at_name : ((x : T) → part_name (part x) ≡ name_of x) → ((x : T) → part (change x) ≡ change_part (part x)) → (xs : List T) → map part (at_name name_of change name xs) ≡ at_name part_name change_part name (map part xs)
  map-at_name e f [] = refl
  map-at_name e f (x ∷ xs) = parted (same_name (name_of x) name) (same_name (part_name (part x)) name) x xs (at_name name_of change name xs) (at_name part_name change_part name (map part xs)) (ap (λ n. same_name n name) (sym (e x))) (f x) (map-at_name e f xs)

-- a change that keeps the part keeps the mapped list
module _ {S T : Type 0} (name_of : T → List ℕ) (change : T → T) (part : T → S) (name : List ℕ) where
  same_part : (b : Bool) (x : T) (xs ys : List T) → part (change x) ≡ part x → map part ys ≡ map part xs → map part (if b then change x ∷ xs else x ∷ ys) ≡ part x ∷ map part xs
  same_part true x xs ys f g = ap (λ s. s ∷ map part xs) f
  same_part false x xs ys f g = ap (λ l. part x ∷ l) g

  pub map-kept : ((x : T) → part (change x) ≡ part x) → (xs : List T) → map part (at_name name_of change name xs) ≡ map part xs
  map-kept f [] = refl
  map-kept f (x ∷ xs) = same_part (same_name (name_of x) name) x xs (at_name name_of change name xs) (f x) (map-kept f xs)

pub schemas_of-step : (db : Database) (o : Op) → schemas_of (step db o) ≡ schemas_step (schemas_of db) o
schemas_of-step db (op.Create schema) = map-append (λ (t : StoredTable). t.schema) db (record { schema = schema; rows = [] } ∷ [])
schemas_of-step db (op.AddColumn table col) = map-at_name (λ (t : StoredTable). t.schema.name) (λ (s : Schema). s.name) (widened col) (with_column col) (λ (t : StoredTable). t.schema) table (λ t. refl) (λ t. refl) db
schemas_of-step db (op.Insert table rows) = map-kept (λ (t : StoredTable). t.schema.name) (filled rows) (λ (t : StoredTable). t.schema) table (λ t. refl) db
schemas_of-step db (op.SetKeys table keys) = map-at_name (λ (t : StoredTable). t.schema.name) (λ (s : Schema). s.name) (rekeyed keys) (with_keys keys) (λ (t : StoredTable). t.schema) table (λ t. refl) (λ t. refl) db

pub schemas_of-commit : (db : Database) (ops : List Op) → schemas_of (fold step db ops) ≡ fold schemas_step (schemas_of db) ops
schemas_of-commit db [] = refl
schemas_of-commit db (o ∷ os) = schemas_of-commit (step db o) os ∙ ap (λ s. fold schemas_step s os) (schemas_of-step db o)

pub schemas_of-replay : (db : Database) (history : List Entry) → schemas_of (replay db history) ≡ schemas_from (schemas_of db) history
schemas_of-replay db [] = refl
schemas_of-replay db (e ∷ es) = schemas_of-replay (commit db e) es ∙ ap (λ s. schemas_from s es) (schemas_of-commit db e.ops)

-- a cell that an added column gets holds no time
pub missing-time : (k : ColType) → time_in (missing k) ≡ 0
missing-time kind.Long = refl
missing-time kind.Bool = refl
missing-time kind.Symbol = refl
missing-time kind.Varchar = refl
missing-time kind.Time = refl

-- a table whose rows stand in order
abbrev InOrder : StoredTable → Type 0
InOrder t = IsInOrder t.schema.time_col t.rows

in_order-step : (db : Database) (o : Op) → AllByRecursion InOrder db → AllByRecursion InOrder (step db o)
in_order-step db (op.Create schema) h = each-append InOrder db (record { schema = schema; rows = [] } ∷ []) h (tt, tt)
in_order-step db (op.AddColumn table col) h = each-at_name (λ (t : StoredTable). t.schema.name) (widened col) table InOrder (λ t g. in_order-longer t.schema.time_col (missing col.kind) (missing-time col.kind) t.rows g) db h
in_order-step db (op.Insert table rows) h = each-at_name (λ (t : StoredTable). t.schema.name) (filled rows) table InOrder (λ t g. in_order-fold t.schema.time_col t.schema.keys t.rows rows g) db h
in_order-step db (op.SetKeys table keys) h = each-at_name (λ (t : StoredTable). t.schema.name) (rekeyed keys) table InOrder (λ t g. g) db h

in_order-commit : (db : Database) (ops : List Op) → AllByRecursion InOrder db → AllByRecursion InOrder (fold step db ops)
in_order-commit db [] h = h
in_order-commit db (o ∷ os) h = in_order-commit (step db o) os (in_order-step db o h)

in_order-replay : (db : Database) (history : List Entry) → AllByRecursion InOrder db → AllByRecursion InOrder (replay db history)
in_order-replay db [] h = h
in_order-replay db (e ∷ es) h = in_order-replay (commit db e) es (in_order-commit db e.ops h)

pub rows_in_order : (history : List Entry) → AllByRecursion (λ (t : StoredTable). IsInOrder t.schema.time_col t.rows) (after history)
rows_in_order history = in_order-replay [] history tt

-- `find` and `position` speak of the same element, and where there is no position, nothing passes.
module _ {X : Type 0} (p : X → Bool) where
  below : (Q : X → Type 0) (b : Bool) (x : X) (o : Option X) (n m : ℕ) → IsSomeAnd (cond b (Some x) o) Q → (IsSomeAnd o Q → n < m) → cond (not b) (1 + n) 0 < suc m
  below Q true x o n m h ih = omega arith
  below Q false x o n m h ih = let lt = ih h in omega arith

  found_below : (Q : X → Type 0) (xs : List X) → IsSomeAnd (find p xs) Q → position_or_len p xs < length xs
  found_below Q [] h = absurd h
  found_below Q (x ∷ xs) h = below Q (p x) x (find p xs) (position_or_len p xs) (length xs) h (found_below Q xs)

  pub position-found : (Q : X → Type 0) (xs : List X) → IsSomeAnd (find p xs) Q → IsSome (position p xs)
  position-found Q xs h = rw (lt-ltb (position_or_len p xs) (length xs) (found_below Q xs h)) refl

  fails : (b : Bool) (n m : ℕ) → suc m ≤ cond (not b) (1 + n) 0 → (b ≡ false) × (m ≤ n)
  fails true n m h = absurd (omega arith)
  fails false n m h = (refl, omega arith)

  past_all : (xs : List X) → length xs ≤ position_or_len p xs → AllByRecursion (λ x. p x ≡ false) xs
  past_all [] h = tt
  past_all (x ∷ xs) h =
      let k = fails (p x) (position_or_len p xs) (length xs) h in
      (k.0, past_all xs k.1)

  at_end : (n m : ℕ) (b : Bool) → ltb n m ≡ b → is_some (if b then Some n else None) ≡ false → m ≤ n
  at_end n m true e h = absurd (true≢false h)
  at_end n m false e h = ltb-false n m e

  pub position-none : (xs : List X) → IsNone (position p xs) → AllByRecursion (λ x. p x ≡ false) xs
  position-none xs h = past_all xs (at_end (position_or_len p xs) (length xs) (ltb (position_or_len p xs) (length xs)) refl h)

  found_at : (xs : List X) (i : ℕ) (d : X) → i < length xs → p (get_or xs i d) ≡ true → ((k : ℕ) → k < i → p (get_or xs k d) ≡ false) → find p xs ≡ Some (get_or xs i d)
  found_at [] i d lt e f = absurd (omega arith)
  found_at (x ∷ xs) zero d lt e f = cond-true (p x) (Some x) (find p xs) e
  found_at (x ∷ xs) (suc i) d lt e f = cond-false (p x) (Some x) (find p xs) (f 0 (zero-lt-suc i)) ∙ found_at xs i d (le_of_suc-le-suc lt) e (λ k h. f (suc k) (suc-le-suc h))

  pub find-position : (xs : List X) (i : ℕ) (d : X) → position p xs ≡ Some i → find p xs ≡ Some (get_or xs i d)
  find-position xs i d e =
      let h = position-Some p xs i d e in
      found_at xs i d h.0 h.1 h.2

  pub not_found : (Q : X → Type 0) (xs : List X) → position p xs ≡ None → IsSomeAnd (find p xs) Q → ⊥
  not_found Q xs e h = let some : IsSome (position p xs) = position-found Q xs h in true≢false (sym some ∙ ap is_some e)

-- the schema at a name's position is the one of the name
schema_there : (schemas items : List Schema) (table : List ℕ) (i : ℕ) (s : Schema) → items ≡ schemas → Some i ≡ table_at schemas table → s ≡ get_or items i s → schema_of schemas table ≡ Some s
schema_there schemas items table i s view at is = find-position (λ t. same_name t.name table) schemas i s (sym at) ∙ ap Some (ap (λ l. get_or l i s) (sym view) ∙ sym is)

-- a test of the table at a name's position, and of a name that has none
pub tested_at : (Q : Schema → Type 0) (schemas items : List Schema) (table : List ℕ) (i : ℕ) (s : Schema) (b : Bool) → items ≡ schemas → Some i ≡ table_at schemas table → s ≡ get_or items i s → IsTrue b ↔ Q s → IsTrue b ↔ IsSomeAnd (schema_of schemas table) Q
tested_at Q schemas items table i s b view at is test = rw (schema_there schemas items table i s view at is) test

pub tested_none : (Q : Schema → Type 0) (schemas : List Schema) (table : List ℕ) → None ≡ table_at schemas table → IsTrue false ↔ IsSomeAnd (schema_of schemas table) Q
tested_none Q schemas table e = (λ h. absurd (true≢false (sym h)), λ h. absurd (not_found (λ t. same_name t.name table) Q schemas (sym e) h))

-- whether the table at a name's position lacks a column
pub lacks_at : (schemas items : List Schema) (table column : List ℕ) (i : ℕ) (s : Schema) (o : Option ℕ) (b : Bool) → items ≡ schemas → Some i ≡ table_at schemas table → s ≡ get_or items i s → o ≡ column_at s.cols column → is_some o ≡ not b → IsTrue b ↔ IsSomeAnd (schema_of schemas table) (λ t. IsNone (column_at t.cols column))
lacks_at schemas items table column i s o b view at is col none =
    let e : is_some (column_at s.cols column) ≡ not b = ap is_some (sym col) ∙ none in
    tested_at (λ t. IsNone (column_at t.cols column)) schemas items table i s b view at is (λ t. e ∙ ap not t, λ h. not-false b (sym e ∙ h))

-- the table of an AddColumn that fits is there
pub added_to : (schemas : List Schema) (o : Op) (table text : List ℕ) (col : Col) → o ≡ op.AddColumn table col → text ≡ table → Fits schemas o → IsSome (table_at schemas text)
added_to schemas o table text col is same fits =
    let h : Fits schemas (op.AddColumn table col) = rw is at fits in
    let named : IsSome (table_at schemas table) = position-found (λ s. same_name s.name table) (λ s. IsNone (column_at s.cols col.name)) schemas h in
    rw same named

-- the table of a SetKeys that fits is there
pub keyed_in : (schemas : List Schema) (o : Op) (table text keys : List ℕ) → o ≡ op.SetKeys table keys → text ≡ table → Fits schemas o → IsSome (table_at schemas text)
keyed_in schemas o table text keys is same fits =
    let h : Fits schemas (op.SetKeys table keys) = rw is at fits in
    let named : IsSome (table_at schemas table) = position-found (λ s. same_name s.name table) (λ s. AreKeys s.cols s.time_col keys) schemas h in
    rw same named

-- the table of a name's position is there
pub table_within : (schemas : List Schema) (table : List ℕ) (i : ℕ) → Some i ≡ table_at schemas table → i < length schemas
table_within [] table i at = absurd (true≢false (ap is_some at))
table_within (s ∷ ss) table i at = (position-Some (λ t. same_name t.name table) (s ∷ ss) i s (sym at)).0

-- a change of the table at a name's position
changed_at : (change : Schema → Schema) (schemas new : List Schema) (table : List ℕ) (i : ℕ) → Some i ≡ table_at schemas table → ((d : Schema) → new ≡ set schemas i (change (get_or schemas i d))) → new ≡ at_name (λ (t : Schema). t.name) change table schemas
changed_at change [] new table i at h = absurd (true≢false (ap is_some at))
changed_at change (s ∷ ss) new table i at h = h s ∙ sym (at_name-position (λ (t : Schema). t.name) change table (s ∷ ss) i s (sym at))

-- a column added to the table at a name's position
pub column_added : (schemas new : List Schema) (table : List ℕ) (col added : Col) (i : ℕ) → Some i ≡ table_at schemas table → added ≡ col → ((d : Schema) → new ≡ set schemas i (with_column added (get_or schemas i d))) → new ≡ at_name (λ (t : Schema). t.name) (with_column col) table schemas
column_added schemas new table col added i at same h = changed_at (with_column col) schemas new table i at (λ d. h d ∙ ap (λ c. set schemas i (with_column c (get_or schemas i d))) same)

-- keys set at the table at a name's position
pub keys_set : (schemas new : List Schema) (table keys given : List ℕ) (i : ℕ) → Some i ≡ table_at schemas table → given ≡ keys → ((d : Schema) → new ≡ set schemas i (with_keys given (get_or schemas i d))) → new ≡ at_name (λ (t : Schema). t.name) (with_keys keys) table schemas
keys_set schemas new table keys given i at same h = changed_at (with_keys keys) schemas new table i at (λ d. h d ∙ ap (λ k. set schemas i (with_keys k (get_or schemas i d))) same)
