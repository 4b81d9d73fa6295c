-- The rows that an INSERT without a refusal puts into a table are rows of the table.
use Rattle.std.proofs.Common.{◌≡◌, ℕ, suc, ◌+◌, ◌<◌, Bool, true, false, not, cond, ◌||◌, eqb, leb, List, [], ◌∷◌, ◌++◌, map, length, get_or, Option, Some, None, Result, Ok, Err, refl, sym, ap, ◌∙◌, subst, arith, true≢false, All, add-zero, zero-add}
use Rattle.std.specs.Prelude.{slice_get, IsSomeAnd, pos, neg_ℤ}
use Rattle.std.specs.List.{AllByRecursion, find, flat_map, list_any, zip, range_with_len}
use Rattle.std.proofs.lemmas.Bool.{eqb-true, leb-true}
use Rattle.std.proofs.lemmas.List.{get_or-map, length-map}
use Rattle.std.proofs.lemmas.List.Elements.{All-from_recursion, recursion_from_All}
use Rattle.std.proofs.lemmas.List.FromFn.{get_or-range_with_len, length-range_with_len}
use Rattle.std.proofs.lemmas.Option.{get_or_from_slice_get, slice_get_within}
use Rattle.std.proofs.lemmas.Slice.Zip.{get_or-zip, length-zip}
use Rattle.qd_base.specs.declared.cell.Cell.{Cell}
use Rattle.qd_base.specs.declared.cell.Cell.TheVariants as cell
use Rattle.qd_base.specs.declared.code.Code.{Code}
use Rattle.qd_base.specs.declared.code.Code.TheVariants as code
use Rattle.qd_base.specs.declared.limits.TheConstants.{MAX_TEXT_BYTES}
use Rattle.qd_base.specs.declared.op.Op.TheVariants as op
use Rattle.qd_base.specs.declared.schema.Col.{Col}
use Rattle.qd_base.specs.declared.schema.ColType.{ColType}
use Rattle.qd_base.specs.declared.schema.ColType.TheVariants as kind
use Rattle.qd_base.specs.declared.schema.Schema.{Schema}
use Rattle.qd_base.specs.Database.{missing}
use Rattle.qd_base.specs.Lawful.{AreLawful, AreSchemas, HasKinds, IsRowOf, IsSchema, Takes}
use Rattle.qd_base.specs.Rows.{Row, cell_at}
use Rattle.qd_base.specs.Schemas.{same_name, schema_of}
use Rattle.qd_base.proofs.Alike.{alike}
use Rattle.qd_base.proofs.Lawful.{missing-taken}
use Rattle.qd_base.proofs.Lists.{each-both, each-fact, each-map, each-weaker}
use Rattle.qd_base.proofs.Tables.{position-found}
use Rattle.qd_time.specs.declared.fault.TimeFault.{TimeFault}
use Rattle.qd_sql_ast.specs.declared.tree.Insert.{Insert}
use Rattle.qd_sql_ast.specs.declared.tree.Lit.{Lit}
use Rattle.qd_sql_ast.specs.declared.tree.Lit.TheVariants as lit
use Rattle.qd_sql_ast.specs.declared.tree.Name.{Name}
use Rattle.qd_sql_ast.specs.declared.tree.Tuple.{Tuple}
use Rattle.qd_meaning.specs.declared.refusal.Refusal.{Refusal}
use Rattle.qd_meaning.specs.Refusals.{at, unless}
use Rattle.qd_meaning.specs.TimeTexts.{time_of_text, time_of_number}
use Rattle.qd_meaning.specs.Typing.{time_cell, time_faults}
use Rattle.qd_meaning.specs.Creating.{column_name_faults, named_twice, table_name_faults, unknown_column}
use Rattle.qd_meaning.specs.Inserting.{Target, cell_for, cell_or, faults_in, insert_faults, inserted_rows, length_faults, listed, literal_faults, null_faults, row_of, taken_by, target_at, target_of, targets_of, tuple_faults}
use Rattle.qd_writes.specs.Filling.{filled_rows, rows_put}
use Rattle.qd_writes.specs.Literals.{IsFit}
use Rattle.qd_writes.specs.Placing.{placed}
use Rattle.qd_writes.proofs.CreateLawful.{each_empty, empty_parts, holds}

-- ---- one literal

no_refusal : {A : Type 0} (why : Code) (place : ℕ) → at why place ≡ [] → A
no_refusal why place e = absurd (never why place e)
  where
    never : (why : Code) (place : ℕ) → at why place ≡ [] → ⊥
    never why place e = cc

time_fits : (r : Result ℕ TimeFault) (place : ℕ) → time_faults r place ≡ [] → IsFit (time_cell r) → Takes kind.Time (time_cell r)
time_fits (Ok t) place e h = h
time_fits (Err f) place e h = no_refusal code.TimeLiteral place e

-- a literal that a column takes is a cell of it
taken_fits : (k : ColType) (l : Lit) → (taken_by k l).1 ≡ [] → length_faults l ≡ [] → IsFit (taken_by k l).0 → Takes k (taken_by k l).0
taken_fits kind.Long (lit.Number n) e f h = h
taken_fits kind.Long (lit.Minus m n) e f h = h
taken_fits kind.Long (lit.Text t) e f h = no_refusal code.Types t.at e
taken_fits kind.Long (lit.True p) e f h = no_refusal code.Types p e
taken_fits kind.Long (lit.False p) e f h = no_refusal code.Types p e
taken_fits kind.Long (lit.Null p) e f h = tt
taken_fits kind.Bool (lit.Number n) e f h = no_refusal code.Types n.at e
taken_fits kind.Bool (lit.Minus m n) e f h = no_refusal code.Types m e
taken_fits kind.Bool (lit.Text t) e f h = no_refusal code.Types t.at e
taken_fits kind.Bool (lit.True p) e f h = tt
taken_fits kind.Bool (lit.False p) e f h = tt
taken_fits kind.Bool (lit.Null p) e f h = tt
taken_fits kind.Symbol (lit.Number n) e f h = no_refusal code.Types n.at e
taken_fits kind.Symbol (lit.Minus m n) e f h = no_refusal code.Types m e
taken_fits kind.Symbol (lit.Text t) e f h = record { short = leb-true (length t.text) MAX_TEXT_BYTES (holds (leb (length t.text) MAX_TEXT_BYTES) code.TextTooLong t.at f); bytes = h }
taken_fits kind.Symbol (lit.True p) e f h = no_refusal code.Types p e
taken_fits kind.Symbol (lit.False p) e f h = no_refusal code.Types p e
taken_fits kind.Symbol (lit.Null p) e f h = tt
taken_fits kind.Varchar (lit.Number n) e f h = no_refusal code.Types n.at e
taken_fits kind.Varchar (lit.Minus m n) e f h = no_refusal code.Types m e
taken_fits kind.Varchar (lit.Text t) e f h = record { short = leb-true (length t.text) MAX_TEXT_BYTES (holds (leb (length t.text) MAX_TEXT_BYTES) code.TextTooLong t.at f); bytes = h }
taken_fits kind.Varchar (lit.True p) e f h = no_refusal code.Types p e
taken_fits kind.Varchar (lit.False p) e f h = no_refusal code.Types p e
taken_fits kind.Varchar (lit.Null p) e f h = tt
taken_fits kind.Time (lit.Number n) e f h = time_fits (time_of_number (pos n.value)) n.at e h
taken_fits kind.Time (lit.Minus m n) e f h = time_fits (time_of_number (neg_ℤ (pos n.value))) m e h
taken_fits kind.Time (lit.Text t) e f h = time_fits (time_of_text t.text) t.at e h
taken_fits kind.Time (lit.True p) e f h = no_refusal code.Types p e
taken_fits kind.Time (lit.False p) e f h = no_refusal code.Types p e
taken_fits kind.Time (lit.Null p) e f h = tt

time_is_some : (r : Result ℕ TimeFault) (place : ℕ) → time_faults r place ≡ [] → time_cell r ≡ cell.Null → ⊥
time_is_some (Ok t) place e n = cc
time_is_some (Err f) place e n = no_refusal code.TimeLiteral place e

not_null : (b : Bool) (place : ℕ) → b ≡ true → unless (not b) code.TimeLiteral place ≡ [] → ⊥
not_null true place is e = no_refusal code.TimeLiteral place e
not_null false place is e = true≢false (sym is)

-- one that the designated column takes is a time
timed_literal : (time_col : ℕ) (t : Target) (l : Lit) → eqb t.0 time_col ≡ true → null_faults time_col t l ≡ [] → (taken_by kind.Time l).1 ≡ [] → (taken_by kind.Time l).0 ≡ cell.Null → ⊥
timed_literal time_col t (lit.Number n) is f e h = time_is_some (time_of_number (pos n.value)) n.at e h
timed_literal time_col t (lit.Minus m n) is f e h = time_is_some (time_of_number (neg_ℤ (pos n.value))) m e h
timed_literal time_col t (lit.Text x) is f e h = time_is_some (time_of_text x.text) x.at e h
timed_literal time_col t (lit.True p) is f e h = no_refusal code.Types p e
timed_literal time_col t (lit.False p) is f e h = no_refusal code.Types p e
timed_literal time_col t (lit.Null p) is f e h = not_null (eqb t.0 time_col) p is f

-- what stands of a literal that isn't refused
pub record IsGiven (time_col : ℕ) (x : Target × Lit) : Type 0 where
  pub taken : (taken_by x.0.1 x.1).1 ≡ []
  pub some : null_faults time_col x.0 x.1 ≡ []
  pub short : length_faults x.1 ≡ []

given : (time_col : ℕ) (x : Target × Lit) → literal_faults time_col x ≡ [] → IsGiven time_col x
given time_col x e =
    let two = empty_parts ((taken_by x.0.1 x.1).1 ++ null_faults time_col x.0 x.1) (length_faults x.1) e in
    let one = empty_parts (taken_by x.0.1 x.1).1 (null_faults time_col x.0 x.1) two.0 in
    record { taken = one.0; some = one.1; short = two.1 }

-- ---- columns that a row gives values

-- it has the type of its column
abbrev pub IsTarget : List Col → Target → Type 0
IsTarget cols t = (col : Col) → slice_get cols t.0 ≡ Some col → t.1 ≡ col.kind

target_is : (cols : List Col) (n : ℕ) (o : Option Col) → slice_get cols n ≡ o → IsTarget cols (target_at cols n o)
target_is cols n None e col is = absurd (never (sym e ∙ is))
  where
    never : None ≡ Some col → ⊥
    never h = cc
target_is cols n (Some c) e col is = ap (λ (d : Col). d.kind) (same c col (sym e ∙ is))
  where
    same : (a b : Col) → Some a ≡ Some b → a ≡ b
    same a b h = cc

all_targets : (cols : List Col) → All (IsTarget cols) (zip (range_with_len 0 (length cols)) (map (λ (c : Col). c.kind) cols))
all_targets cols k d lt col is =
    let size = length-range_with_len 0 (length cols) in
    let kinds = length-map cols (λ (c : Col). c.kind) in
    let both = length-zip (range_with_len 0 (length cols)) (map (λ (c : Col). c.kind) cols) in
    let low : k < length cols = omega arith in
    let pair = get_or-zip (range_with_len 0 (length cols)) (map (λ (c : Col). c.kind) cols) k d (omega arith) (omega arith) in
    let at : (get_or (zip (range_with_len 0 (length cols)) (map (λ (c : Col). c.kind) cols)) k d).0 ≡ k = ap (λ (t : Target). t.0) pair ∙ get_or-range_with_len 0 (length cols) k d.0 low ∙ zero-add k in
    ap (λ (t : Target). t.1) pair
    ∙ get_or-map (λ (c : Col). c.kind) cols k col d.1 low
    ∙ ap (λ (c : Col). c.kind) (get_or_from_slice_get cols k col col (ap (slice_get cols) (sym at) ∙ is))

targets_fit : (cols : List Col) (columns : Option (List Name)) → AllByRecursion (IsTarget cols) (targets_of cols columns)
targets_fit cols None = recursion_from_All (IsTarget cols) (zip (range_with_len 0 (length cols)) (map (λ (c : Col). c.kind) cols)) (all_targets cols)
targets_fit cols (Some names) = each-map (target_of cols) (IsTarget cols) names (each-fact (λ (n : Name). IsTarget cols (target_of cols n)) (λ n. target_is cols _ (slice_get cols _) refl) names)

-- ---- one row

abbrev pub is_of : ℕ → Target × Lit → Bool
is_of col x = eqb x.0.0 col

pub found-is : {X : Type 0} (P : X → Type 0) (p : X → Bool) (xs : List X) (x : X) → AllByRecursion P xs → find p xs ≡ Some x → P x × (p x ≡ true)
found-is P p [] x h e = absurd cc
found-is P p (y ∷ ys) x h e = go (p y) refl (found-is P p ys x h.1) e
  where
    same_some : {X : Type 0} (a b : X) → Some a ≡ Some b → a ≡ b
    same_some a b h = cc

    go : (b : Bool) → p y ≡ b → (find p ys ≡ Some x → P x × (p x ≡ true)) → cond b (Some y) (find p ys) ≡ Some x → P x × (p x ≡ true)
    go true f ih e = let same : y ≡ x = same_some y x e in subst (λ z. P z × (p z ≡ true)) same (h.0, f)
    go false f ih e = ih e

each-zip : {A B : Type 0} (P : A → Type 0) (xs : List A) (ys : List B) → AllByRecursion P xs → AllByRecursion (λ (x : A × B). P x.0) (zip xs ys)
each-zip P [] ys h = tt
each-zip P (x ∷ xs) [] h = tt
each-zip P (x ∷ xs) (y ∷ ys) h = (h.0, each-zip P xs ys h.1)

-- the cell of each column, where it stands
zip_kinds : (f : ℕ × Col → Cell) (s : ℕ) (cs : List Col) → ((i : ℕ) (c : Col) → slice_get cs i ≡ Some c → Takes c.kind (f (s + i, c))) → HasKinds cs (map f (zip (range_with_len s (length cs)) cs))
zip_kinds f s [] h = tt
zip_kinds f s (c ∷ cs) h = (
  subst (λ (n : ℕ). Takes c.kind (f (n, c))) (add-zero s) (h 0 c refl),
  zip_kinds f (s + 1) cs (λ i d is. subst (λ (n : ℕ). Takes d.kind (f (n, d))) (later s i) (h (suc i) d is)),
)
  where
    later : (s i : ℕ) → s + suc i ≡ (s + 1) + i
    later s i = omega arith

placed-at : (cols : List Col) (ts : List Target) (ls : List Lit) (i : ℕ) (col : Col) (x : Cell) → slice_get cols i ≡ Some col → get_or (placed cols ts ls) i x ≡ cell_for (zip ts ls) (i, col)
placed-at cols ts ls i col x is =
    let lt : i < length cols = slice_get_within cols i col is in
    let size = length-range_with_len 0 (length cols) in
    get_or-map (cell_for (zip ts ls)) (zip (range_with_len 0 (length cols)) cols) i (0, col) x (let e = length-zip (range_with_len 0 (length cols)) cols in omega arith)
    ∙ ap (cell_for (zip ts ls)) (get_or-zip (range_with_len 0 (length cols)) cols i (0, col) (omega arith) lt)
    ∙ ap (λ (n : ℕ). cell_for (zip ts ls) (n, get_or cols i col)) (get_or-range_with_len 0 (length cols) i 0 lt ∙ zero-add i)
    ∙ ap (λ (c : Col). cell_for (zip ts ls) (i, c)) (get_or_from_slice_get cols i col col is)

no_time : (time_col : ℕ) (ts : List Target) (ls : List Lit) → list_any (λ (x : Target). eqb x.0 time_col) ts ≡ true → length ls ≡ length ts → find (is_of time_col) (zip ts ls) ≡ None → ⊥
no_time time_col [] ls e size none = true≢false (sym e)
no_time time_col (t ∷ ts) [] e size none = absurd (omega arith)
no_time time_col (t ∷ ts) (l ∷ ls) e size none = go (eqb t.0 time_col) e none (no_time time_col ts ls)
  where
    shorter : suc (length ls) ≡ suc (length ts) → length ls ≡ length ts
    shorter h = omega arith

    go : (b : Bool) → (b || list_any (λ (x : Target). eqb x.0 time_col) ts) ≡ true → cond b (Some (t, l)) (find (is_of time_col) (zip ts ls)) ≡ None
        → (list_any (λ (x : Target). eqb x.0 time_col) ts ≡ true → length ls ≡ length ts → find (is_of time_col) (zip ts ls) ≡ None → ⊥) → ⊥
    go true f n rest = cc
    go false f n rest = rest f (shorter size) n

-- a row whose literals aren't refused
module _ (cols : List Col) (time_col : ℕ) (ts : List Target) (targets : AllByRecursion (IsTarget cols) ts) (ls : List Lit) (clear : AllByRecursion (λ (x : Target × Lit). IsGiven time_col x) (zip ts ls)) where
  abbrev IsFair : Target × Lit → Type 0
  IsFair x = IsTarget cols x.0 × IsGiven time_col x

  fair : AllByRecursion (λ (x : Target × Lit). IsTarget cols x.0 × IsGiven time_col x) (zip ts ls)
  fair = each-both (λ (x : Target × Lit). IsTarget cols x.0) (λ (x : Target × Lit). IsGiven time_col x) (zip ts ls) (each-zip (IsTarget cols) ts ls targets) clear

  -- what is found for a column is of its type
  found_kind : (i : ℕ) (col : Col) → slice_get cols i ≡ Some col → (x : Target × Lit) → find (is_of i) (zip ts ls) ≡ Some x → (x.0.1 ≡ col.kind) × (eqb x.0.0 i ≡ true) × IsGiven time_col x
  found_kind i col is x e =
      let h = found-is (λ (y : Target × Lit). IsTarget cols y.0 × IsGiven time_col y) (is_of i) (zip ts ls) x fair e in
      (h.0.0 col (ap (slice_get cols) (eqb-true x.0.0 i h.1) ∙ is), h.1, h.0.1)

  cell_fits : (i : ℕ) (col : Col) → slice_get cols i ≡ Some col → (o : Option (Target × Lit)) → find (is_of i) (zip ts ls) ≡ o → IsFit (cell_or (missing col.kind) o) → Takes col.kind (cell_or (missing col.kind) o)
  cell_fits i col is None e h = missing-taken col.kind
  cell_fits i col is (Some x) e h =
      let k = found_kind i col is x e in
      subst (λ (t : ColType). Takes t (taken_by x.0.1 x.1).0) k.0 (taken_fits x.0.1 x.1 k.2.taken k.2.short h)

  row_kinds : All IsFit (placed cols ts ls) → HasKinds cols (placed cols ts ls)
  row_kinds fit =
      zip_kinds (cell_for (zip ts ls)) 0 cols
      (λ i col is.
      let one : 0 + i ≡ i = zero-add i in
      let lt : i < length (placed cols ts ls) = longer i (slice_get_within cols i col is) in
      let fits : IsFit (cell_for (zip ts ls) (i, col)) = subst IsFit (placed-at cols ts ls i col cell.Null is) (fit i cell.Null lt) in
      subst (λ (n : ℕ). Takes col.kind (cell_for (zip ts ls) (n, col))) (sym one) (cell_fits i col is (find (is_of i) (zip ts ls)) refl fits))
    where
      longer : (i : ℕ) → i < length cols → i < length (placed cols ts ls)
      longer i lt =
          let a = length-map (zip (range_with_len 0 (length cols)) cols) (cell_for (zip ts ls)) in
          let b = length-zip (range_with_len 0 (length cols)) cols in
          let c = length-range_with_len 0 (length cols) in
          omega arith

  row_timed : (col : Col) → slice_get cols time_col ≡ Some col → col.kind ≡ kind.Time → list_any (λ (x : Target). eqb x.0 time_col) ts ≡ true → length ls ≡ length ts → cell_at (placed cols ts ls) time_col ≡ cell.Null → ⊥
  row_timed col is time timed size null = go (find (is_of time_col) (zip ts ls)) refl (sym (placed-at cols ts ls time_col col cell.Null is) ∙ null)
    where
      go : (o : Option (Target × Lit)) → find (is_of time_col) (zip ts ls) ≡ o → cell_or (missing col.kind) o ≡ cell.Null → ⊥
      go None e h = no_time time_col ts ls timed size e
      go (Some x) e h =
          let k = found_kind time_col col is x e in
          let kind_is : x.0.1 ≡ kind.Time = k.0 ∙ time in
          timed_literal time_col x.0 x.1 k.1 k.2.some
          (subst (λ (t : ColType). (taken_by t x.1).1 ≡ []) kind_is k.2.taken)
          (subst (λ (t : ColType). (taken_by t x.1).0 ≡ cell.Null) kind_is h)

-- ---- all rows

-- what stands of a tuple that isn't refused
record IsWhole (time_col : ℕ) (ts : List Target) (t : Tuple) : Type 0 where
  size : length t.lits ≡ length ts
  timed : list_any (λ (x : Target). eqb x.0 time_col) ts ≡ true
  clear : AllByRecursion (λ (x : Target × Lit). IsGiven time_col x) (zip ts t.lits)

whole : (time_col : ℕ) (ts : List Target) (t : Tuple) → tuple_faults time_col ts t ≡ [] → IsWhole time_col ts t
whole time_col ts t e =
    let n : List Refusal = unless (eqb (length t.lits) (length ts)) code.Types t.at in
    let m : List Refusal = unless (list_any (λ (x : Target). eqb x.0 time_col) ts) code.TimeLiteral t.at in
    let two = empty_parts (n ++ m) (flat_map (literal_faults time_col) (zip ts t.lits)) e in
    let one = empty_parts n m two.0 in
    record {
      size = eqb-true (length t.lits) (length ts) (holds (eqb (length t.lits) (length ts)) code.Types t.at one.0);
      timed = holds (list_any (λ (x : Target). eqb x.0 time_col) ts) code.TimeLiteral t.at one.1;
      clear = each-weaker (λ (x : Target × Lit). literal_faults time_col x ≡ []) (λ (x : Target × Lit). IsGiven time_col x) (given time_col) (zip ts t.lits) (each_empty (literal_faults time_col) (zip ts t.lits) two.1);
    }

row_sound : (s : Schema) (ts : List Target) → AllByRecursion (IsTarget s.cols) ts → (o : Option Col) → slice_get s.cols s.time_col ≡ o → IsSomeAnd o (λ (c : Col). c.kind ≡ kind.Time) → (t : Tuple) → IsWhole s.time_col ts t
    → All IsFit (row_of s.cols ts t) → IsRowOf s (row_of s.cols ts t)
row_sound s ts fit None is time t w h = absurd time
row_sound s ts fit (Some col) is time t w h = record {
  kinds = row_kinds s.cols s.time_col ts fit t.lits w.clear h;
  timed = row_timed s.cols s.time_col ts fit t.lits w.clear col is time w.timed w.size;
}

rows_sound : (s : Schema) → IsSchema s → (ts : List Target) → AllByRecursion (IsTarget s.cols) ts → (tuples : List Tuple) → AllByRecursion (λ (t : Tuple). tuple_faults s.time_col ts t ≡ []) tuples
    → AllByRecursion (All IsFit) (map (row_of s.cols ts) tuples) → AllByRecursion (IsRowOf s) (map (row_of s.cols ts) tuples)
rows_sound s is ts fit [] h k = tt
rows_sound s is ts fit (t ∷ tuples) h k = (
  row_sound s ts fit (slice_get s.cols s.time_col) refl is.designated t (whole s.time_col ts t h.0) k.0,
  rows_sound s is ts fit tuples h.1 k.1,
)

-- ---- the whole

pub named_alike : (schemas : List Schema) (a b : List ℕ) → same_name a b ≡ true → schema_of schemas a ≡ schema_of schemas b
named_alike schemas a b h = λ i. find (λ (s : Schema). alike a b s.name h i) schemas

-- the refusals of the rows alone
tuples_clear : (s : Schema) (i : Insert) → insert_faults (Some s) i ≡ [] → flat_map (tuple_faults s.time_col (targets_of s.cols i.columns)) i.tuples ≡ []
tuples_clear s i e =
    let front : List Refusal = table_name_faults i.table ++ flat_map column_name_faults (listed i.columns) ++ named_twice (listed i.columns) in
    let inside = (empty_parts front (faults_in s i) e).1 in
    (empty_parts (flat_map (unknown_column s.cols) (listed i.columns)) (flat_map (tuple_faults s.time_col (targets_of s.cols i.columns)) i.tuples) inside).1

pub insert_lawful : (schemas : List Schema) (s : Schema) (i : Insert) (rows : List Row) → AreSchemas schemas → schema_of schemas i.table.text ≡ Some s → insert_faults (Some s) i ≡ []
    → rows ≡ inserted_rows s i → All (All IsFit) rows → AreLawful schemas (op.Insert s.name rows ∷ [])
insert_lawful schemas s i rows are is e same fit =
    let there = found-is IsSchema (λ (t : Schema). same_name t.name i.table.text) schemas s (recursion_from_All IsSchema schemas are.each) is in
    let itself : schema_of schemas s.name ≡ Some s = named_alike schemas s.name i.table.text there.1 ∙ is in
    let ts : List Target = targets_of s.cols i.columns in
    let fits : AllByRecursion (All IsFit) (inserted_rows s i) = recursion_from_All (All IsFit) (inserted_rows s i) (subst (λ (rs : List Row). All (All IsFit) rs) same fit) in
    let sound : All (IsRowOf s) rows =
    subst (λ (rs : List Row). All (IsRowOf s) rs) (sym same)
    (All-from_recursion (IsRowOf s) (inserted_rows s i)
    (rows_sound s there.0 (targets_of s.cols i.columns) (targets_fit s.cols i.columns) i.tuples (each_empty (tuple_faults s.time_col (targets_of s.cols i.columns)) i.tuples (tuples_clear s i e)) fits)) in
    (position-found (λ (t : Schema). same_name t.name s.name) (λ t. Unit {0}) schemas (rw itself tt), rw itself sound, tt)

pub inserted_lawful : (schemas : List Schema) (o : Option Schema) (i : Insert) → AreSchemas schemas → o ≡ schema_of schemas i.table.text → insert_faults o i ≡ []
    → All (All IsFit) (filled_rows o i) → AreLawful schemas (rows_put o (filled_rows o i))
inserted_lawful schemas None i are is e fit = tt
inserted_lawful schemas (Some s) i are is e fit = insert_lawful schemas s i (inserted_rows s i) are (sym is) e refl fit
