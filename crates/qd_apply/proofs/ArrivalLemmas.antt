-- What arrives is what replay puts.
use Rattle.std.proofs.Common.{◌≡◌, ℕ, zero, suc, ◌<◌, ◌≤◌, Bool, true, false, if◌then◌else◌, List, [], ◌∷◌, ◌++◌, Option, Some, None, IfSome, IsSomeAnd, length, drop, map, refl, sym, ap, ap₂, ◌∙◌, arith, All, subst, inl, inr, ⊎_elim, ◌⊎◌, true≢false}
use Rattle.std.specs.List.{AllByRecursion, fold}
use Rattle.std.proofs.lemmas.List.{map-append, length_push}
use Rattle.std.proofs.lemmas.List.Elements.{recursion_from_All}
use Rattle.std.proofs.lemmas.List.Sums.{fold-append}
use Rattle.qd_base.specs.declared.cell.Cell.TheVariants as cell
use Rattle.qd_base.specs.declared.schema.Col.{Col}
use Rattle.qd_base.specs.declared.schema.Schema.{Schema}
use Rattle.qd_base.specs.declared.op.Entry.{Entry}
use Rattle.qd_base.specs.declared.op.Op.{Op}
use Rattle.qd_base.specs.declared.op.Op.TheVariants as op
use Rattle.qd_base.specs.Database.{Database, StoredTable, filled, missing, rekeyed, schemas_of, step, widened}
use Rattle.qd_base.specs.Lawful.{AreLawful, HasKinds, IsRowOf, IsSchema, IsSound, LawfulFrom, SetsKeysAlone}
use Rattle.qd_base.specs.Replay.{replay}
use Rattle.qd_base.specs.Rows.{Row, cell_at, put}
use Rattle.qd_base.specs.Schemas.{at_name, same_name, schema_of, schemas_from, schemas_step, sets_keys, with_column, with_keys, AreKeys, Fits, HasNoSetKeys, SetsNoKeys}
use Rattle.qd_base.proofs.Lawful.{HasKinds-length, missing-taken}
use Rattle.qd_base.proofs.Tables.{map-at_name, map-kept}
use Rattle.qd_apply.specs.Arrivals.{all_settled, arrivals, arrivals_from, arrived, arrives, first_rows, rest, settled, wide, without_rows}
use Rattle.qd_apply.specs.Laws.{IsDatabase}
use Rattle.qd_apply.proofs.EachLemmas.{each_append, each_map, each_then}
use Rattle.qd_apply.proofs.WideLemmas.{settled_wider, wide_same}

-- rows so far and rows that wait, with the table that they are of
pub record IsOver (rows : List Row) (t : StoredTable) : Type 0 where
  pub keys : AllByRecursion (λ k. k < length t.schema.cols) t.schema.keys
  pub old : AllByRecursion (λ r. length r ≤ length t.schema.cols) rows
  pub fit : AllByRecursion (IsRowOf t.schema) t.rows

abbrev pub AreOver : Database → List StoredTable → Type 0
AreOver db [] = db ≡ []
AreOver db (t ∷ ts) = IsOver (first_rows db) t × AreOver (rest db) ts

pub lengths : (s : Schema) (rows : List Row) → AllByRecursion (IsRowOf s) rows → AllByRecursion (λ r. length s.cols ≡ length r) rows
lengths s rows fit = each_then (IsRowOf s) (λ r. length s.cols ≡ length r) (λ r h. HasKinds-length s.cols r h.kinds) rows fit

pub keys_below : (s : Schema) → IsSchema s → AllByRecursion (λ k. k < length s.cols) s.keys
keys_below s schema = ⊎_elim (λ none. subst (AllByRecursion (λ k. k < length s.cols)) (sym none) tt) (λ some. recursion_from_All (λ k. k < length s.cols) s.keys some.0) schema.keys

pub schemas_arrive : (ts : List StoredTable) (o : Op) → schemas_of (arrives ts o) ≡ schemas_step (schemas_of ts) o
schemas_arrive ts (op.Create schema) = map-append (λ (t : StoredTable). t.schema) ts (record { schema = schema; rows = [] } ∷ [])
schemas_arrive ts (op.AddColumn table col) = map-at_name (λ (t : StoredTable). t.schema.name) (λ (s : Schema). s.name) (widened col) (with_column col) (λ (t : StoredTable). t.schema) table (λ t. refl) (λ t. refl) ts
schemas_arrive ts (op.SetKeys table keys) = map-at_name (λ (t : StoredTable). t.schema.name) (λ (s : Schema). s.name) (rekeyed keys) (with_keys keys) (λ (t : StoredTable). t.schema) table (λ t. refl) (λ t. refl) ts
schemas_arrive ts (op.Insert table rows) = map-kept (λ (t : StoredTable). t.schema.name) (arrived rows) (λ (t : StoredTable). t.schema) table (λ t. refl) ts

-- ---- one change

over_more : (db : Database) (ts : List StoredTable) (t : StoredTable) → AreOver db ts → IsOver [] t → AreOver db (ts ++ t ∷ [])
over_more db [] t over is = subst (λ (d : Database). IsOver (first_rows d) t × (rest d ≡ [])) (sym over) (is, refl)
over_more db (x ∷ ts) t over is = (over.0, over_more (rest db) ts t over.1 is)

-- one of the tables changes, by name
over_one : (db : Database) (ts now : List StoredTable) (t : StoredTable) (change : StoredTable → StoredTable) (b : Bool) → AreOver db (t ∷ ts) → (b ≡ true → IsOver (first_rows db) (change t)) → AreOver (rest db) now → AreOver db (if b then change t ∷ ts else t ∷ now)
over_one db ts now t change true over f later = (f refl, over.1)
over_one db ts now t change false over f later = (over.0, later)

-- a row with one cell more
kinds_push : (cols : List Col) (row : Row) (c : Col) → HasKinds cols row → HasKinds (cols ++ c ∷ []) (row ++ missing c.kind ∷ [])
kinds_push [] [] c h = (missing-taken c.kind, tt)
kinds_push [] (y ∷ ys) c h = absurd h
kinds_push (d ∷ ds) [] c h = absurd h
kinds_push (d ∷ ds) (y ∷ ys) c h = (h.0, kinds_push ds ys c h.1)

pub row_longer : (s : Schema) (c : Col) (row : Row) → IsRowOf s row → IsRowOf (with_column c s) (row ++ missing c.kind ∷ [])
row_longer s c row h = record {
  kinds = kinds_push s.cols row c h.kinds;
  timed = λ null. h.timed (same s.time_col row c null);
}
  where
    same : (col : ℕ) (row : Row) (c : Col) → cell_at (row ++ missing c.kind ∷ []) col ≡ cell.Null → cell_at row col ≡ cell.Null
    same zero [] c e = refl
    same (suc col) [] c e = refl
    same zero (x ∷ row) c e = e
    same (suc col) (x ∷ row) c e = same col row c e

over_longer : (rows : List Row) (t : StoredTable) (c : Col) → IsOver rows t → IsOver rows (widened c t)
over_longer rows t c over =
    let grown = length_push t.schema.cols c in
    record {
      keys = each_then (λ k. k < length t.schema.cols) (λ k. k < length (t.schema.cols ++ c ∷ [])) (λ k lt. omega (arith, lt, grown)) t.schema.keys over.keys;
      old = each_then (λ (r : Row). length r ≤ length t.schema.cols) (λ (r : Row). length r ≤ length (t.schema.cols ++ c ∷ [])) (λ r le. omega (arith, le, grown)) rows over.old;
      fit = each_map (IsRowOf (with_column c t.schema)) (λ (r : Row). r ++ missing c.kind ∷ []) t.rows (each_then (IsRowOf t.schema) (λ (r : Row). IsRowOf (with_column c t.schema) (r ++ missing c.kind ∷ [])) (row_longer t.schema c) t.rows over.fit);
    }

over_wider : (db : Database) (ts : List StoredTable) (name : List ℕ) (c : Col) → AreOver db ts → AreOver db (at_name (λ (t : StoredTable). t.schema.name) (widened c) name ts)
over_wider db [] name c over = over
over_wider db (t ∷ ts) name c over =
    over_one db ts (at_name (λ (t : StoredTable). t.schema.name) (widened c) name ts) t (widened c) (same_name t.schema.name name) over
    (λ e. over_longer (first_rows db) t c over.0) (over_wider (rest db) ts name c over.1)

-- rows that fit the table of a name
abbrev FitNamed : List StoredTable → List ℕ → List Row → Type 0
FitNamed ts name rows = IfSome (schema_of (schemas_of ts) name) (λ s. All (IsRowOf s) rows)

fit_here : (t : StoredTable) (rows : List Row) (o : Option Schema) (b : Bool) → b ≡ true → IfSome (if b then Some t.schema else o) (λ (s : Schema). All (IsRowOf s) rows) → All (IsRowOf t.schema) rows
fit_here t rows o true e h = h
fit_here t rows o false e h = absurd (true≢false (sym e))

fit_later : (t : StoredTable) (rows : List Row) (o : Option Schema) (b : Bool) → b ≡ false → IfSome (if b then Some t.schema else o) (λ (s : Schema). All (IsRowOf s) rows) → IfSome o (λ (s : Schema). All (IsRowOf s) rows)
fit_later t rows o true e h = absurd (true≢false e)
fit_later t rows o false e h = h

over_filled : (rows new : List Row) (t : StoredTable) → IsOver rows t → All (IsRowOf t.schema) new → IsOver rows (arrived new t)
over_filled rows new t over fit = record { keys = over.keys; old = over.old; fit = each_append (IsRowOf t.schema) t.rows new over.fit (recursion_from_All (IsRowOf t.schema) new fit) }

over_arrived : (db : Database) (ts : List StoredTable) (name : List ℕ) (rows : List Row) → AreOver db ts → FitNamed ts name rows → AreOver db (at_name (λ (t : StoredTable). t.schema.name) (arrived rows) name ts)
over_arrived db [] name rows over fit = over
over_arrived db (t ∷ ts) name rows over fit =
    by_name (same_name t.schema.name name) refl (λ later. over_arrived (rest db) ts name rows over.1 later)
  where
    by_name : (b : Bool) → same_name t.schema.name name ≡ b → (FitNamed ts name rows → AreOver (rest db) (at_name (λ (t : StoredTable). t.schema.name) (arrived rows) name ts))
        → AreOver db (if b then arrived rows t ∷ ts else t ∷ at_name (λ (t : StoredTable). t.schema.name) (arrived rows) name ts)
    by_name true e f = (over_filled (first_rows db) rows t over.0 (fit_here t rows (schema_of (schemas_of ts) name) (same_name t.schema.name name) e fit), over.1)
    by_name false e f = (over.0, f (fit_later t rows (schema_of (schemas_of ts) name) (same_name t.schema.name name) e fit))

-- keys that the table of a name may have
abbrev KeysNamed : List StoredTable → List ℕ → List ℕ → Type 0
KeysNamed ts name keys = IfSome (schema_of (schemas_of ts) name) (λ s. AreKeys s.cols s.time_col keys)

keys_named : (o : Option Schema) (keys : List ℕ) → IsSomeAnd o (λ s. AreKeys s.cols s.time_col keys) → IfSome o (λ s. AreKeys s.cols s.time_col keys)
keys_named None keys h = absurd h
keys_named (Some s) keys h = h

over_keys : (rows : List Row) (t : StoredTable) (keys : List ℕ) → IsOver rows t → AreKeys t.schema.cols t.schema.time_col keys → IsOver rows (rekeyed keys t)
over_keys rows t keys over are = record {
  keys = ⊎_elim (λ none. subst (AllByRecursion (λ k. k < length t.schema.cols)) (sym none) tt) (λ some. recursion_from_All (λ k. k < length t.schema.cols) keys some.0) are;
  old = over.old;
  fit = each_then (IsRowOf t.schema) (IsRowOf (with_keys keys t.schema)) (λ r h. record { kinds = h.kinds; timed = h.timed }) t.rows over.fit;
}

over_rekeyed : (db : Database) (ts : List StoredTable) (name keys : List ℕ) → AreOver db ts → KeysNamed ts name keys → AreOver db (at_name (λ (t : StoredTable). t.schema.name) (rekeyed keys) name ts)
over_rekeyed db [] name keys over fit = over
over_rekeyed db (t ∷ ts) name keys over fit = by_name (same_name t.schema.name name) fit (over_rekeyed (rest db) ts name keys over.1)
  where
    by_name : (b : Bool) → IfSome (if b then Some t.schema else schema_of (schemas_of ts) name) (λ s. AreKeys s.cols s.time_col keys)
        → (KeysNamed ts name keys → AreOver (rest db) (at_name (λ (t : StoredTable). t.schema.name) (rekeyed keys) name ts))
        → AreOver db (if b then rekeyed keys t ∷ ts else t ∷ at_name (λ (t : StoredTable). t.schema.name) (rekeyed keys) name ts)
    by_name true h f = (over_keys (first_rows db) t keys over.0 h, over.1)
    by_name false h f = (over.0, f h)

pub over_arrives : (db : Database) (ts : List StoredTable) (o : Op) → AreOver db ts → Fits (schemas_of ts) o → IsSound (schemas_of ts) o → AreOver db (arrives ts o)
over_arrives db ts (op.SetKeys table keys) over fits sound = over_rekeyed db ts table keys over (keys_named (schema_of (schemas_of ts) table) keys fits)
over_arrives db ts (op.Create schema) over fits sound = over_more db ts (record { schema = schema; rows = [] }) over (record { keys = keys_below schema sound.1; old = tt; fit = tt })
over_arrives db ts (op.AddColumn table col) over fits sound = over_wider db ts table col over
over_arrives db ts (op.Insert table rows) over fits sound = over_arrived db ts table rows over sound

-- ---- what is settled follows

settled_more : (db : Database) (ts : List StoredTable) (s : Schema) → AreOver db ts → all_settled db (ts ++ record { schema = s; rows = [] } ∷ []) ≡ all_settled db ts ++ record { schema = s; rows = [] } ∷ []
settled_more db [] s over = ap (λ (d : Database). settled (first_rows d) (record { schema = s; rows = [] }) ∷ []) over
settled_more db (t ∷ ts) s over = ap (λ (l : Database). settled (first_rows db) t ∷ l) (settled_more (rest db) ts s over.1)

settled_name : (db : Database) (ts : List StoredTable) (name : List ℕ) (come put_in : StoredTable → StoredTable) → ((t : StoredTable) → (come t).schema.name ≡ t.schema.name)
    → ((rows : List Row) (t : StoredTable) → IsOver rows t → settled rows (come t) ≡ put_in (settled rows t)) → AreOver db ts
    → all_settled db (at_name (λ (t : StoredTable). t.schema.name) come name ts) ≡ at_name (λ (t : StoredTable). t.schema.name) put_in name (all_settled db ts)
settled_name db [] name come put_in same f over = refl
settled_name db (t ∷ ts) name come put_in same f over =
    by_name (same_name t.schema.name name) (settled_name (rest db) ts name come put_in same f over.1)
  where
    by_name : (b : Bool) → all_settled (rest db) (at_name (λ (t : StoredTable). t.schema.name) come name ts) ≡ at_name (λ (t : StoredTable). t.schema.name) put_in name (all_settled (rest db) ts)
        → all_settled db (if b then come t ∷ ts else t ∷ at_name (λ (t : StoredTable). t.schema.name) come name ts)
        ≡ (if b then put_in (settled (first_rows db) t) ∷ all_settled (rest db) ts else settled (first_rows db) t ∷ at_name (λ (t : StoredTable). t.schema.name) put_in name (all_settled (rest db) ts))
    by_name true e = ap (λ (x : StoredTable). x ∷ all_settled (rest db) ts) (f (first_rows db) t over.0)
    by_name false e = ap (λ (l : Database). settled (first_rows db) t ∷ l) e

settled_filled : (new rows : List Row) (t : StoredTable) → settled rows (arrived new t) ≡ filled new (settled rows t)
settled_filled new rows t =
    ap (λ (l : List Row). let x : StoredTable = record { schema = t.schema; rows = l } in x)
    (fold-append (put t.schema.time_col t.schema.keys) (map (wide t.schema.cols) rows) t.rows new)

-- Keys that are set where no row waits: the rows so far stay as they are.
settled_rekeyed : (rows : List Row) (keys : List ℕ) (t : StoredTable) → t.rows ≡ [] → settled rows (rekeyed keys t) ≡ rekeyed keys (settled rows t)
settled_rekeyed rows keys t none =
    let wider : List Row = map (wide t.schema.cols) rows in
    ap (λ (l : List Row). let x : StoredTable = record { schema = with_keys keys t.schema; rows = l } in x)
    (ap (fold (put t.schema.time_col keys) wider) none ∙ sym (ap (fold (put t.schema.time_col t.schema.keys) wider) none))

-- tables in which no row waits
abbrev AreIdle : List StoredTable → Type 0
AreIdle ts = AllByRecursion (λ (t : StoredTable). t.rows ≡ []) ts

settled_keys : (db : Database) (ts : List StoredTable) (name keys : List ℕ) → AreIdle ts
    → all_settled db (at_name (λ (t : StoredTable). t.schema.name) (rekeyed keys) name ts) ≡ at_name (λ (t : StoredTable). t.schema.name) (rekeyed keys) name (all_settled db ts)
settled_keys db [] name keys idle = refl
settled_keys db (t ∷ ts) name keys idle = by_name (same_name t.schema.name name) (settled_keys (rest db) ts name keys idle.1)
  where
    by_name : (b : Bool) → all_settled (rest db) (at_name (λ (t : StoredTable). t.schema.name) (rekeyed keys) name ts) ≡ at_name (λ (t : StoredTable). t.schema.name) (rekeyed keys) name (all_settled (rest db) ts)
        → all_settled db (if b then rekeyed keys t ∷ ts else t ∷ at_name (λ (t : StoredTable). t.schema.name) (rekeyed keys) name ts)
        ≡ (if b then rekeyed keys (settled (first_rows db) t) ∷ all_settled (rest db) ts else settled (first_rows db) t ∷ at_name (λ (t : StoredTable). t.schema.name) (rekeyed keys) name (all_settled (rest db) ts))
    by_name true e = ap (λ (x : StoredTable). x ∷ all_settled (rest db) ts) (settled_rekeyed (first_rows db) keys t idle.0)
    by_name false e = ap (λ (l : Database). settled (first_rows db) t ∷ l) e

settled_arrives : (db : Database) (ts : List StoredTable) (o : Op) → AreOver db ts → (sets_keys o ≡ false) ⊎ AreIdle ts → all_settled db (arrives ts o) ≡ step (all_settled db ts) o
settled_arrives db ts (op.SetKeys table keys) over (inl same) = absurd (true≢false same)
settled_arrives db ts (op.SetKeys table keys) over (inr idle) = settled_keys db ts table keys idle
settled_arrives db ts (op.Create schema) over none = settled_more db ts schema over
settled_arrives db ts (op.AddColumn table col) over none = settled_name db ts table (widened col) (widened col) (λ t. refl) (λ rows t is. settled_wider rows t col is.keys is.old (lengths t.schema t.rows is.fit)) over
settled_arrives db ts (op.Insert table rows) over none = settled_name db ts table (arrived rows) (filled rows) (λ t. refl) (λ old t is. settled_filled rows old t) over

-- ---- transactions

-- tables that arrived, over a database
pub record HaveArrived (db : Database) (ts now : List StoredTable) (next : Database) : Type 0 where
  pub over : AreOver db now
  pub settled : all_settled db now ≡ next

ops_arrive : (db : Database) (ts : List StoredTable) (ops : List Op) → AreOver db ts → AreLawful (schemas_of ts) ops → SetsNoKeys ops → HaveArrived db ts (fold arrives ts ops) (fold step (all_settled db ts) ops)
ops_arrive db ts [] over lawful none = record { over = over; settled = refl }
ops_arrive db ts (o ∷ os) over lawful none =
    let rest_lawful : AreLawful (schemas_of (arrives ts o)) os = subst (λ (l : List Schema). AreLawful l os) (sym (schemas_arrive ts o)) lawful.2 in
    let next = ops_arrive db (arrives ts o) os (over_arrives db ts o over lawful.0 lawful.1) rest_lawful none.1 in
    record { over = next.over; settled = next.settled ∙ ap (λ (d : Database). fold step d os) (settled_arrives db ts o over (inl none.0)) }

-- Those of a first transaction may set keys: no row waits yet, and they do nothing else.
first_ops_arrive : (db : Database) (ts : List StoredTable) (ops : List Op) → AreOver db ts → AreIdle ts → AreLawful (schemas_of ts) ops → SetsKeysAlone ops → HaveArrived db ts (fold arrives ts ops) (fold step (all_settled db ts) ops)
first_ops_arrive db ts ops over idle lawful (inr none) = ops_arrive db ts ops over lawful none
first_ops_arrive db ts [] over idle lawful (inl one) = record { over = over; settled = refl }
first_ops_arrive db ts (o ∷ []) over idle lawful (inl one) = record { over = over_arrives db ts o over lawful.0 lawful.1; settled = settled_arrives db ts o over (inr idle) }
first_ops_arrive db ts (o ∷ p ∷ os) over idle lawful (inl one) = absurd (omega (arith, one))

pub schemas_ops : (ts : List StoredTable) (ops : List Op) → schemas_of (fold arrives ts ops) ≡ fold schemas_step (schemas_of ts) ops
schemas_ops ts [] = refl
schemas_ops ts (o ∷ os) = schemas_ops (arrives ts o) os ∙ ap (λ (l : List Schema). fold schemas_step l os) (schemas_arrive ts o)

pub schemas_entries : (ts : List StoredTable) (entries : List Entry) → schemas_of (arrivals_from ts entries) ≡ schemas_from (schemas_of ts) entries
schemas_entries ts [] = refl
schemas_entries ts (e ∷ es) = schemas_entries (fold arrives ts e.ops) es ∙ ap (λ (l : List Schema). schemas_from l es) (schemas_ops ts e.ops)

rest_lawful : (ts : List StoredTable) (e : Entry) (es : List Entry) → LawfulFrom (schemas_of ts) (e ∷ es) → LawfulFrom (schemas_of (fold arrives ts e.ops)) es
rest_lawful ts e es lawful = subst (λ (l : List Schema). LawfulFrom l es) (sym (schemas_ops ts e.ops)) lawful.3

entries_arrive : (db : Database) (ts : List StoredTable) (entries : List Entry) → AreOver db ts → LawfulFrom (schemas_of ts) entries → HasNoSetKeys entries → HaveArrived db ts (arrivals_from ts entries) (replay (all_settled db ts) entries)
entries_arrive db ts [] over lawful none = record { over = over; settled = refl }
entries_arrive db ts (e ∷ es) over lawful none =
    let one = ops_arrive db ts e.ops over lawful.0 none.0 in
    let next = entries_arrive db (fold arrives ts e.ops) es one.over (rest_lawful ts e es lawful) none.1 in
    record { over = next.over; settled = next.settled ∙ ap (λ (d : Database). replay d es) one.settled }

first_entries_arrive : (db : Database) (ts : List StoredTable) (entries : List Entry) → AreOver db ts → AreIdle ts → LawfulFrom (schemas_of ts) entries → HasNoSetKeys (drop 1 entries)
    → HaveArrived db ts (arrivals_from ts entries) (replay (all_settled db ts) entries)
first_entries_arrive db ts [] over idle lawful none = record { over = over; settled = refl }
first_entries_arrive db ts (e ∷ es) over idle lawful none =
    let one = first_ops_arrive db ts e.ops over idle lawful.0 lawful.2 in
    let next = entries_arrive db (fold arrives ts e.ops) es one.over (rest_lawful ts e es lawful) none in
    record { over = next.over; settled = next.settled ∙ ap (λ (d : Database). replay d es) one.settled }

-- ---- from a database on

nothing_over : (db : Database) → AllByRecursion IsSchema (schemas_of db) → AllByRecursion (λ (t : StoredTable). All (IsRowOf t.schema) t.rows) db → AreOver db (without_rows (schemas_of db))
nothing_over [] schemas fit = refl
nothing_over (t ∷ ts) schemas fit = (
  record {
    keys = keys_below t.schema schemas.0;
    old = each_then (λ (r : Row). length t.schema.cols ≡ length r) (λ (r : Row). length r ≤ length t.schema.cols) (λ r e. omega (arith, e)) t.rows (lengths t.schema t.rows (recursion_from_All (IsRowOf t.schema) t.rows fit.0));
    fit = tt;
  },
  nothing_over ts schemas.1 fit.1,
)

nothing_settled : (db : Database) → AllByRecursion (λ (t : StoredTable). All (IsRowOf t.schema) t.rows) db → all_settled db (without_rows (schemas_of db)) ≡ db
nothing_settled [] fit = refl
nothing_settled (t ∷ ts) fit =
    ap₂ (λ (rows : List Row) (l : Database). (let x : StoredTable = record { schema = t.schema; rows = rows } in x) ∷ l)
    (wide_same t.schema.cols t.rows (lengths t.schema t.rows (recursion_from_All (IsRowOf t.schema) t.rows fit.0)))
    (nothing_settled ts fit.1)

pub schemas_without : (schemas : List Schema) → schemas_of (without_rows schemas) ≡ schemas
schemas_without [] = refl
schemas_without (s ∷ ss) = ap (λ (l : List Schema). s ∷ l) (schemas_without ss)

without_idle : (schemas : List Schema) → AreIdle (without_rows schemas)
without_idle [] = tt
without_idle (s ∷ ss) = (refl, without_idle ss)

pub all_arrive : (db : Database) (entries : List Entry) → IsDatabase db → LawfulFrom (schemas_of db) entries → HasNoSetKeys (drop 1 entries) → HaveArrived db (without_rows (schemas_of db)) (arrivals (schemas_of db) entries) (replay db entries)
all_arrive db entries is lawful none =
    let ts = without_rows (schemas_of db) in
    let over = nothing_over db (recursion_from_All IsSchema (schemas_of db) is.schemas.each) is.rows in
    let done = first_entries_arrive db ts entries over (without_idle (schemas_of db)) (subst (λ (l : List Schema). LawfulFrom l entries) (sym (schemas_without (schemas_of db))) lawful) none in
    record { over = done.over; settled = done.settled ∙ ap (λ (d : Database). replay d entries) (nothing_settled db is.rows) }

pub replayed : (db : Database) (entries : List Entry) → IsDatabase db → LawfulFrom (schemas_of db) entries → HasNoSetKeys (drop 1 entries) → replay db entries ≡ all_settled db (arrivals (schemas_of db) entries)
replayed db entries is lawful none = sym (all_arrive db entries is lawful none).settled
