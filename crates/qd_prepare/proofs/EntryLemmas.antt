-- A lawful transaction has a spelling.
use Rattle.std.proofs.Common.{◌≡◌, ℕ, suc, ◌+◌, ◌^◌, ◌<◌, ◌≤◌, Bool, true, false, if◌then◌else◌, ◌||◌, eqb, List, [], ◌∷◌, ◌++◌, length, get_or, fold, Option, Some, None, IsSome, IfSome, IsSomeAnd, All, Contains, refl, sym, ap, ◌∙◌, subst, inl, inr, ◌⊎◌, arith, true≢false}
use Rattle.std.specs.List.{AllByRecursion, IsDistinct, filter, find, flat_map, list_any, position, sum_by}
use Rattle.std.specs.Str.{str_to_ascii_lowercase}
use Rattle.std.proofs.lemmas.Bool.{cases_lt, or_cases, eqb-true}
use Rattle.std.proofs.lemmas.Int.{ints}
use Rattle.std.proofs.lemmas.List.{length-append, length-map}
use Rattle.std.proofs.lemmas.List.Elements.{All-nil, All-weaker, All-from_recursion, recursion_from_All}
use Rattle.std.proofs.lemmas.List.Sums.{sum_by-cons}
use Rattle.std.proofs.lemmas.Map.Steps.{length-le_from_distinct_below}
use Rattle.std.proofs.lemmas.Slice.Eq.{bytes_eq-Decides}
use Rattle.qd_base.specs.declared.cell.Cell.{Cell}
use Rattle.qd_base.specs.declared.cell.Cell.TheVariants as cell
use Rattle.qd_base.specs.declared.limits.TheConstants.{MAX_BATCH_CELLS}
use Rattle.qd_base.specs.declared.schema.Col.{Col}
use Rattle.qd_base.specs.declared.schema.ColType.{ColType}
use Rattle.qd_base.specs.declared.schema.ColType.TheVariants as kind
use Rattle.qd_base.specs.declared.schema.Schema.{Schema}
use Rattle.qd_base.specs.declared.op.Op.{Op}
use Rattle.qd_base.specs.declared.op.Op.TheVariants as op
use Rattle.qd_base.specs.declared.op.Entry.{Entry}
use Rattle.qd_base.specs.Dictionary.{id_for, with_text}
use Rattle.qd_base.specs.Lawful.{AreLawful, AreSchemas, HasKinds, IsRowOf, IsSchema, IsSound, Takes, cells_in, cells_of}
use Rattle.qd_base.specs.Names.{IsColumnName, IsTableName}
use Rattle.qd_base.specs.Rows.{Row}
use Rattle.qd_base.specs.Schemas.{AreKeys, Fits, same_name, schema_of, schemas_step, table_at}
use Rattle.qd_base.proofs.Lawful.{AreSchemas-step, HasKinds-length, get-below}
use Rattle.qd_base.proofs.Texts.{some_place, with_text-new, with_text-there}
use Rattle.qd_fields.specs.Spelling.{FitsColumn, FitsName, FitsSchema}
use Rattle.qd_wal_entry.specs.Spelling.{FitsCell, FitsOp, FitsRow, FitsRows, IsEntry, dictionary_of, text_of, texts_of_op, texts_of_row, width_of, with_texts}

-- ---- schemas

-- keys: none, or distinct ones of so many columns
abbrev KeysFit : ℕ → ℕ → List ℕ → Type 0
KeysFit columns time keys = (keys ≡ []) ⊎ (All (λ k. k < columns) keys × IsDistinct eqb keys × Contains keys time)

found_among : (key : ℕ) (keys : List ℕ) → list_any (eqb key) keys ≡ true → Contains keys key
found_among key [] e = absurd (true≢false (sym e))
found_among key (k ∷ ks) e =
    elim (or_cases (eqb key k) (list_any (eqb key) ks) e) [
      | inl same ↦ (0, omega arith, sym (eqb-true key k same))
      | inr more ↦ (let c = found_among key ks more in (suc c.0, omega (arith, c.1), c.2))
    ]

few_keys : (columns time : ℕ) (keys : List ℕ) → KeysFit columns time keys → length keys ≤ columns
few_keys columns time keys (inl none) = omega (arith, ap length none)
few_keys columns time keys (inr fit) = length-le_from_distinct_below keys columns fit.1 (λ q e. let c = found_among q keys e in subst (λ (j : ℕ). j < columns) c.2 (fit.0 c.0 q c.1))

low_keys : (columns time : ℕ) (keys : List ℕ) → columns < 2 ^ 16 → KeysFit columns time keys → All (λ k. k < 2 ^ 16) keys
low_keys columns time keys few (inl none) = λ k d lt. absurd (omega (arith, ap length none))
low_keys columns time keys few (inr fit) = All-weaker (λ k. k < columns) (λ k. k < 2 ^ 16) (λ k lt. omega arith) keys fit.0

pub schema_fits : (s : Schema) → IsSchema s → FitsSchema s
schema_fits s h =
    let named : IsTableName s.name = h.name in
    let short : length s.name ≤ 127 = named.short in
    let few : length s.cols ≤ 256 = h.few in
    let placed : s.time_col < length s.cols = get-below (λ (c : Col). c.kind ≡ kind.Time) s.cols s.time_col h.designated in
    let keys : length s.keys ≤ length s.cols = few_keys (length s.cols) s.time_col s.keys h.keys in
    record {
      name = omega arith;
      columns = omega arith;
      each_column = All-weaker (λ (c : Col). IsColumnName c.name) FitsColumn (λ c n. (let size : length c.name ≤ 127 = n.short in omega arith)) s.cols h.names;
      time = omega arith;
      keys = omega arith;
      each_key = low_keys (length s.cols) s.time_col s.keys (omega arith) h.keys;
    }

-- ---- the table of a name

same_size : (a b : List ℕ) → same_name a b ≡ true → length a ≡ length b
same_size a b e =
    sym (length-map a _) ∙ ap length ((bytes_eq-Decides (str_to_ascii_lowercase a) (str_to_ascii_lowercase b)).0 e) ∙ length-map b _

-- the table is there, and its name is that one
record IsTable (Q : Schema → Type 0) (name : List ℕ) : Type 0 where
  schema : Schema
  sound : IsSchema schema
  same : same_name schema.name name ≡ true
  holds : Q schema

table_found : (Q : Schema → Type 0) (schemas : List Schema) (name : List ℕ) → AllByRecursion IsSchema schemas → list_any (λ (s : Schema). same_name s.name name) schemas ≡ true → IfSome (schema_of schemas name) Q → IsTable Q name
table_found Q [] name each there h = absurd (true≢false (sym there))
table_found Q (x ∷ xs) name each there h = here (same_name x.name name) refl there h (λ k q. table_found Q xs name each.1 k q)
  where
    here : (b : Bool) → same_name x.name name ≡ b → (b || list_any (λ (s : Schema). same_name s.name name) xs) ≡ true → IfSome (if b then Some x else schema_of xs name) Q → (list_any (λ (s : Schema). same_name s.name name) xs ≡ true → IfSome (schema_of xs name) Q → IsTable Q name) → IsTable Q name
    here true e k q more = record { schema = x; sound = each.0; same = e; holds = q }
    here false e k q more = more k q

table_widened : (Q : Schema → Type 0) (schemas : List Schema) (name : List ℕ) → AllByRecursion IsSchema schemas → IsSomeAnd (schema_of schemas name) Q → IsTable Q name
table_widened Q [] name each h = absurd h
table_widened Q (x ∷ xs) name each h = here (same_name x.name name) refl h (λ q. table_widened Q xs name each.1 q)
  where
    here : (b : Bool) → same_name x.name name ≡ b → IsSomeAnd (if b then Some x else schema_of xs name) Q → (IsSomeAnd (schema_of xs name) Q → IsTable Q name) → IsTable Q name
    here true e q more = record { schema = x; sound = each.0; same = e; holds = q }
    here false e q more = more q

name_fits : (s : Schema) (name : List ℕ) → IsSchema s → same_name s.name name ≡ true → FitsName name
name_fits s name h same =
    let named : IsTableName s.name = h.name in
    let short : length s.name ≤ 127 = named.short in
    omega (arith, same_size s.name name same)

-- ---- rows

takes_fit : (k : ColType) (x : Cell) → Takes k x → FitsCell x
takes_fit kind.Long cell.Null h = tt
takes_fit kind.Long (cell.Long x) h = omega (arith, ints, h.0, h.1)
takes_fit kind.Bool (cell.Bool b) h = tt
takes_fit kind.Symbol cell.Null h = tt
takes_fit kind.Symbol (cell.Text t) h = h.short
takes_fit kind.Varchar cell.Null h = tt
takes_fit kind.Varchar (cell.Text t) h = h.short
takes_fit kind.Time cell.Null h = tt
takes_fit kind.Time (cell.Time t) h = omega (arith, h)
takes_fit _ _ h = absurd h

cells_fit : (cols : List Col) (row : Row) → HasKinds cols row → AllByRecursion FitsCell row
cells_fit [] [] h = tt
cells_fit [] (x ∷ xs) h = absurd h
cells_fit (c ∷ cs) [] h = absurd h
cells_fit (c ∷ cs) (x ∷ xs) h = (takes_fit c.kind x h.0, cells_fit cs xs h.1)

row_fits : (s : Schema) (row : Row) → IsRowOf s row → FitsRow (length s.cols) row
row_fits s row h = record { cells = All-from_recursion FitsCell row (cells_fit s.cols row h.kinds); width = sym (HasKinds-length s.cols row h.kinds) }

rows_few : (rows : List Row) → AllByRecursion (λ (r : Row). 1 ≤ length r) rows → length rows ≤ sum_by length rows
rows_few [] h = omega arith
rows_few (r ∷ rs) h = let some : 1 ≤ length r = h.0 in omega (arith, rows_few rs h.1, sum_by-cons length r rs)

rows_some : (s : Schema) (rows : List Row) → 1 ≤ length s.cols → AllByRecursion (IsRowOf s) rows → AllByRecursion (λ (r : Row). 1 ≤ length r) rows
rows_some s [] some h = tt
rows_some s (r ∷ rs) some h = (omega (arith, HasKinds-length s.cols r h.0.kinds), rows_some s rs some h.1)

rows_fit : (s : Schema) (rows : List Row) → IsSchema s → All (IsRowOf s) rows → sum_by length rows ≤ MAX_BATCH_CELLS → FitsRows (width_of rows) rows
rows_fit s [] sound h few = record { each = All-nil (FitsRow 0); few = omega arith; narrow = omega arith; some = λ e. refl; none = λ e. refl }
rows_fit s (r ∷ rs) sound h few =
    let wide : length s.cols ≤ 256 = sound.few in
    let placed : s.time_col < length s.cols = get-below (λ (c : Col). c.kind ≡ kind.Time) s.cols s.time_col sound.designated in
    let each : AllByRecursion (IsRowOf s) (r ∷ rs) = recursion_from_All (IsRowOf s) (r ∷ rs) h in
    let count : length (r ∷ rs) ≤ sum_by length (r ∷ rs) = rows_few (r ∷ rs) (rows_some s (r ∷ rs) (omega arith) each) in
    subst (λ (n : ℕ). FitsRows n (r ∷ rs)) (HasKinds-length s.cols r each.0.kinds)
    (record {
      each = All-weaker (IsRowOf s) (FitsRow (length s.cols)) (row_fits s) (r ∷ rs) h;
      few = omega arith;
      narrow = omega arith;
      some = λ e. absurd (omega arith);
      none = λ e. absurd (omega arith);
    })

-- ---- changes

op_fits : (schemas : List Schema) (o : Op) → AreSchemas schemas → Fits schemas o → IsSound schemas o → cells_in o ≤ MAX_BATCH_CELLS → FitsOp o
op_fits schemas (op.Create schema) h fits sound few = schema_fits schema sound.1
op_fits schemas (op.AddColumn table col) h fits sound few =
    let t = table_widened _ schemas table (recursion_from_All IsSchema schemas h.each) fits in
    let named : IsColumnName col.name = sound.0 in
    let short : length col.name ≤ 127 = named.short in
    (name_fits t.schema table t.sound t.same, omega arith)
op_fits schemas (op.Insert table rows) h fits sound few =
    let t = table_found (λ s. All (IsRowOf s) rows) schemas table (recursion_from_All IsSchema schemas h.each) (sym (some_place (λ (s : Schema). same_name s.name table) schemas) ∙ fits) sound in
    (name_fits t.schema table t.sound t.same, rows_fit t.schema rows t.sound t.holds few)
op_fits schemas (op.SetKeys table keys) h fits sound few =
    let t = table_widened (λ s. AreKeys s.cols s.time_col keys) schemas table (recursion_from_All IsSchema schemas h.each) fits in
    let columns : length t.schema.cols ≤ 256 = t.sound.few in
    let count : length keys ≤ length t.schema.cols = few_keys (length t.schema.cols) t.schema.time_col keys t.holds in
    (name_fits t.schema table t.sound t.same, record { few = omega arith; each = low_keys (length t.schema.cols) t.schema.time_col keys (omega arith) t.holds })

ops_fit : (schemas : List Schema) (ops : List Op) → AreSchemas schemas → AreLawful schemas ops → sum_by cells_in ops ≤ MAX_BATCH_CELLS → AllByRecursion FitsOp ops
ops_fit schemas [] h lawful few = tt
ops_fit schemas (o ∷ os) h lawful few = (
  op_fits schemas o h lawful.0 lawful.1 (omega (arith, sum_by-cons cells_in o os)),
  ops_fit (schemas_step schemas o) os (AreSchemas-step schemas o h lawful.0 lawful.1) lawful.2 (omega (arith, sum_by-cons cells_in o os)),
)

-- ---- texts

one_more : (known : List (List ℕ)) (t : List ℕ) → length (with_text known t) ≤ length known + 1
one_more known t =
    elim (cases_lt (id_for known t) (length known)) [
      | inl there ↦ (let e = ap length (with_text-there known t there) in omega (arith, e))
      | inr new ↦ (let e = ap length (with_text-new known t new) in omega (arith, e, length-append known (t ∷ [])))
    ]

texts_few : (known texts : List (List ℕ)) → length (with_texts known texts) ≤ length known + length texts
texts_few known [] = omega arith
texts_few known (t ∷ ts) = omega (arith, texts_few (with_text known t) ts, one_more known t)

cell_texts : (x : Cell) → length (text_of x) ≤ 1
cell_texts cell.Null = omega arith
cell_texts (cell.Long x) = omega arith
cell_texts (cell.Bool b) = omega arith
cell_texts (cell.Text t) = omega arith
cell_texts (cell.Time t) = omega arith

row_texts : (row : Row) → length (texts_of_row row) ≤ length row
row_texts [] = omega arith
row_texts (x ∷ xs) = omega (arith, length-append (text_of x) (flat_map text_of xs), cell_texts x, row_texts xs)

rows_texts : (rows : List Row) → length (flat_map texts_of_row rows) ≤ sum_by length rows
rows_texts [] = omega arith
rows_texts (r ∷ rs) = omega (arith, length-append (texts_of_row r) (flat_map texts_of_row rs), row_texts r, rows_texts rs, sum_by-cons length r rs)

op_texts : (o : Op) → length (texts_of_op o) ≤ cells_in o
op_texts (op.Create schema) = omega arith
op_texts (op.AddColumn table col) = omega arith
op_texts (op.Insert table rows) = rows_texts rows
op_texts (op.SetKeys table keys) = omega arith

ops_texts : (ops : List Op) → length (flat_map texts_of_op ops) ≤ sum_by cells_in ops
ops_texts [] = omega arith
ops_texts (o ∷ os) = omega (arith, length-append (texts_of_op o) (flat_map texts_of_op os), op_texts o, ops_texts os, sum_by-cons cells_in o os)

-- ---- the transaction

pub entry_fits : (schemas : List Schema) (e : Entry) → AreSchemas schemas → AreLawful schemas e.ops → cells_of e ≤ MAX_BATCH_CELLS → length e.ops < 2 ^ 32 → IsEntry e
entry_fits schemas e h lawful few count =
    record {
      each = All-from_recursion FitsOp e.ops (ops_fit schemas e.ops h lawful few);
      few = count;
      few_texts = let cells : sum_by cells_in e.ops ≤ 4194304 = few in omega (arith, texts_few [] (flat_map texts_of_op e.ops), ops_texts e.ops, cells);
    }
