-- Tables by name, and how a change alters what they look like.
use Rattle.std.specs.Prelude.{◌≡◌, ℕ, ◌<◌, ◌⊎◌, Bool, true, false, nat_eq, List, [], ◌∷◌, ◌++◌, Option, if◌then◌else◌, length, fold, position, find, All, Contains, IsSome, IsSomeAnd, IsNone}
use Rattle.std.specs.List.{AllByRecursion, IsDistinct}
use Rattle.std.specs.Str.{str_eq_ignore_ascii_case}
use Rattle.qd_base.specs.declared.schema.Col.{Col}
use Rattle.qd_base.specs.declared.schema.Schema.{Schema}
use Rattle.qd_base.specs.declared.op.Op.{Op}
use Rattle.qd_base.specs.declared.op.Op.TheVariants as op
use Rattle.qd_base.specs.declared.op.Entry.{Entry}

-- two names are one where they differ in ASCII case at most
abbrev pub same_name : List ℕ → List ℕ → Bool
same_name a b = str_eq_ignore_ascii_case a b

-- the position of the table of a name
abbrev pub table_at : List Schema → List ℕ → Option ℕ
table_at schemas name = position (λ s. same_name s.name name) schemas

-- the position of the column of a name
abbrev pub column_at : List Col → List ℕ → Option ℕ
column_at cols name = position (λ c. same_name c.name name) cols

-- a change of the one element of a name: the first, where several have it
abbrev pub at_name : {T : Type 0} → (T → List ℕ) → (T → T) → List ℕ → List T → List T
at_name name_of change name [] = []
at_name name_of change name (x ∷ xs) = if same_name (name_of x) name then change x ∷ xs else x ∷ at_name name_of change name xs

-- a schema with one column more, the last
abbrev pub with_column : Col → Schema → Schema
with_column col s = record s { cols = s.cols ++ col ∷ [] }

-- a schema with these keys in place of its own
abbrev pub with_keys : List ℕ → Schema → Schema
with_keys keys s = record s { keys = keys }

-- the schemas after a change
abbrev pub schemas_step : List Schema → Op → List Schema
schemas_step schemas (op.Create schema) = schemas ++ schema ∷ []
schemas_step schemas (op.AddColumn table col) = at_name (λ s. s.name) (with_column col) table schemas
schemas_step schemas (op.Insert table rows) = schemas
schemas_step schemas (op.SetKeys table keys) = at_name (λ s. s.name) (with_keys keys) table schemas

-- the schemas after transactions, from these schemas on: all of their changes, in turn
abbrev pub schemas_from : List Schema → List Entry → List Schema
schemas_from schemas history = fold (λ before entry. fold schemas_step before entry.ops) schemas history

-- the schema of a name
abbrev pub schema_of : List Schema → List ℕ → Option Schema
schema_of schemas name = find (λ s. same_name s.name name) schemas

-- The keys that a table may have, of these columns and with its designated one at `time_col`: none, or distinct columns
-- with the designated one among them.
abbrev pub AreKeys : List Col → ℕ → List ℕ → Type 0
AreKeys cols time_col keys = (keys ≡ []) ⊎ (All (λ k. k < length cols) keys × IsDistinct nat_eq keys × Contains keys time_col)

-- A change fits: Create names no table that is there, AddColumn a table that is there and a column that it lacks,
-- Insert a table that is there, SetKeys a table that is there and keys that it may have.
abbrev pub Fits : List Schema → Op → Type 0
Fits schemas (op.Create schema) = IsNone (table_at schemas schema.name)
Fits schemas (op.AddColumn table col) = IsSomeAnd (schema_of schemas table) (λ s. IsNone (column_at s.cols col.name))
Fits schemas (op.Insert table rows) = IsSome (table_at schemas table)
Fits schemas (op.SetKeys table keys) = IsSomeAnd (schema_of schemas table) (λ s. AreKeys s.cols s.time_col keys)

-- whether a change sets keys
abbrev pub sets_keys : Op → Bool
sets_keys (op.Create schema) = false
sets_keys (op.AddColumn table col) = false
sets_keys (op.Insert table rows) = false
sets_keys (op.SetKeys table keys) = true

-- whether a change sets the keys of the table of a name
abbrev pub sets_keys_of : List ℕ → Op → Bool
sets_keys_of name (op.Create schema) = false
sets_keys_of name (op.AddColumn table col) = false
sets_keys_of name (op.Insert table rows) = false
sets_keys_of name (op.SetKeys table keys) = same_name name table

-- changes of which none sets keys, and transactions
abbrev pub SetsNoKeys : List Op → Type 0
SetsNoKeys ops = AllByRecursion (λ o. sets_keys o ≡ false) ops

abbrev pub HasNoSetKeys : List Entry → Type 0
HasNoSetKeys history = AllByRecursion (λ (e : Entry). SetsNoKeys e.ops) history

-- transactions that leave the keys of the table of a name as they were when it was made
abbrev pub KeysStay : List Entry → List ℕ → Type 0
KeysStay history name = AllByRecursion (λ (e : Entry). AllByRecursion (λ o. sets_keys_of name o ≡ false) e.ops) history
