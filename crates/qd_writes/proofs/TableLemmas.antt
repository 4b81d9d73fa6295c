-- Tables and columns that are found by name, and moments that texts say.
use Rattle.std.proofs.Common.{◌≡◌, ℕ, ◌+◌, ◌<◌, ◌≤◌, ◌↔◌, true, false, List, [], ◌∷◌, ◌++◌, map, length, take, get_or, Option, Some, None, Result, Ok, Err, refl, sym, ap, ◌∙◌, subst, arith, rules, zero-add, Fits, w8}
use Rattle.std.specs.Prelude.{slice_get, IsSomeAnd, IfOk}
use Rattle.std.specs.List.{range_with_len}
use Rattle.std.proofs.Math.Seq.{take-length}
use Rattle.std.proofs.lemmas.List.{get_or-map, length-map}
use Rattle.std.proofs.lemmas.List.FromFn.{get_or-range_with_len, length-range_with_len}
use Rattle.std.proofs.lemmas.Option.{get_or_from_slice_get}
use Rattle.std.proofs.lemmas.Slice.Zip.{length-zip}
use Rattle.qd_base.specs.declared.limits.TheConstants.{MAX_TIME}
use Rattle.qd_base.specs.declared.schema.Col.{Col}
use Rattle.qd_base.specs.declared.schema.Schema.{Schema}
use Rattle.qd_base.specs.Schemas.{same_name, table_at, schema_of, column_at}
use Rattle.qd_base.proofs.NameIndex.{position-is, position-none}
use Rattle.qd_base.proofs.Tables.{find-position, not_found}
use Rattle.qd_time.specs.declared.fault.TimeFault.{TimeFault}
use Rattle.qd_time.specs.declared.fault.TimeFault.TheVariants as fault
use Rattle.qd_time.specs.Spelled.{SpellsTime, SpellsEarly, IsNoTime}
use Rattle.qd_sql_ast.specs.declared.tree.ColumnDef.{ColumnDef}
use Rattle.qd_meaning.specs.Creating.{col_of}
use Rattle.qd_meaning.specs.Inserting.{Target, targets_of}
use Rattle.qd_meaning.specs.Laws.{TimesAreRead}
use Rattle.qd_meaning.specs.TimeTexts.{time_of_text}
use Rattle.qd_writes.proofs.PlaceLemmas.{zip_more}

-- ---- tables

pub schema_found : (schemas : List Schema) (name : List ℕ) (i : ℕ) (s : Schema) → Some i ≡ table_at schemas name → slice_get schemas i ≡ Some s → Some s ≡ schema_of schemas name
schema_found schemas name i s h e =
    ap Some (sym (get_or_from_slice_get schemas i s s e)) ∙ sym (find-position (λ (t : Schema). same_name t.name name) schemas i s (sym h))

pub schema_missing : (schemas : List Schema) (name : List ℕ) → None ≡ table_at schemas name → None ≡ schema_of schemas name
schema_missing schemas name h = go (schema_of schemas name) refl
  where
    go : (o : Option Schema) → schema_of schemas name ≡ o → None ≡ o
    go None e = refl
    go (Some s) e = absurd (not_found (λ (t : Schema). same_name t.name name) (λ t. Unit {0}) schemas (sym h) (subst (λ (o : Option Schema). IsSomeAnd o (λ t. Unit {0})) (sym e) tt))

-- ---- columns

module _ (columns : List ColumnDef) (name : List ℕ) where
  pub column_found : (i : ℕ) (x : ColumnDef) → i < length columns → x ≡ get_or columns i x → ((k : ℕ) (d : ColumnDef) → k < i → same_name (get_or columns k d).name.text name ≡ false)
      → same_name x.name.text name ≡ true → Some i ≡ column_at (map col_of columns) name
  column_found i x lt is before here =
      let size = length-map columns col_of in
      sym (position-is (λ (c : Col). same_name c.name name) (map col_of columns) i (col_of x) (omega arith)
      (λ k low. ap (λ (c : Col). same_name c.name name) (get_or-map col_of columns k x (col_of x) (omega arith)) ∙ before k x low)
      (ap (λ (c : Col). same_name c.name name) (get_or-map col_of columns i x (col_of x) lt) ∙ ap (λ (d : ColumnDef). same_name d.name.text name) (sym is) ∙ here))

  pub column_missing : ((k : ℕ) (d : ColumnDef) → k < length columns → same_name (get_or columns k d).name.text name ≡ false) → (ds : List ColumnDef) → ds ≡ columns → None ≡ column_at (map col_of columns) name
  column_missing none [] e = ap (λ (cs : List ColumnDef). column_at (map col_of cs) name) e
  column_missing none (d ∷ ds) e =
      let size = length-map columns col_of in
      sym (position-none (λ (c : Col). same_name c.name name) (map col_of columns) (col_of d)
      (λ k low. ap (λ (c : Col). same_name c.name name) (get_or-map col_of columns k d (col_of d) (omega arith)) ∙ none k d (omega arith)))

-- ---- all columns as targets

pub all_more : (cols : List Col) (i : ℕ) (c : Col) → i < length cols → take i (targets_of cols None) ++ (i, (get_or cols i c).kind) ∷ [] ≡ take (i + 1) (targets_of cols None)
all_more cols i c lt =
    let size = length-range_with_len 0 (length cols) in
    let kinds = length-map cols (λ (d : Col). d.kind) in
    ap (λ (t : Target). take i (targets_of cols None) ++ t ∷ [])
    (ap (λ (n : ℕ). (n, (get_or cols i c).kind)) (sym (get_or-range_with_len 0 (length cols) i 0 lt ∙ zero-add i))
    ∙ ap (λ (k : _). (get_or (range_with_len 0 (length cols)) i 0, k)) (sym (get_or-map (λ (d : Col). d.kind) cols i c c.kind lt)))
    ∙ sym (zip_more (range_with_len 0 (length cols)) (map (λ (d : Col). d.kind) cols) i 0 c.kind (omega arith) (omega arith))

pub all_whole : (cols : List Col) (i : ℕ) → i ≡ length cols → take i (targets_of cols None) ≡ targets_of cols None
all_whole cols i e =
    let size = length-range_with_len 0 (length cols) in
    let kinds = length-map cols (λ (d : Col). d.kind) in
    let both = length-zip (range_with_len 0 (length cols)) (map (λ (d : Col). d.kind) cols) in
    ap (λ (n : ℕ). take n (targets_of cols None)) (omega arith) ∙ take-length (targets_of cols None)

-- ---- moments

pub time_same : TimesAreRead → (text : List ℕ) (r : Result ℕ TimeFault) → ((ts : ℕ) → (r ≡ Ok ts) ↔ SpellsTime text ts) → ((r ≡ Err fault.Range) ↔ SpellsEarly text) → ((r ≡ Err fault.Form) ↔ IsNoTime text) → r ≡ time_of_text text
time_same law text (Ok ts) ok range form = sym ((law.time text ts).1 ((ok ts).0 refl))
time_same law text (Err fault.Range) ok range form = sym ((law.early text).1 (range.0 refl))
time_same law text (Err fault.Form) ok range form = sym ((law.no_time text).1 (form.0 refl))

pub time_low : (text : List ℕ) (r : Result ℕ TimeFault) → ((ts : ℕ) → (r ≡ Ok ts) ↔ SpellsTime text ts) → IfOk r (λ t. t ≤ MAX_TIME)
time_low text (Ok ts) ok = ((ok ts).0 refl).1.in_range
time_low text (Err e) ok = tt

-- ---- bytes

pub byte_low : (n : ℕ) → Fits w8 n → n < 256
byte_low n f = first_of (omega arith, grind arith, search rules)
