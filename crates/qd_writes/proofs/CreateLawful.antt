-- The table that a CREATE without a refusal makes is one that may be.
use Rattle.std.proofs.Common.{◌≡◌, ℕ, ◌<◌, ◌≤◌, inl, inr, Bool, true, false, not, ◌||◌, if◌then◌else◌, ltb, leb, List, [], ◌∷◌, ◌++◌, map, length, get_or, Option, Some, None, refl, sym, ap, ◌∙◌, subst, arith, true≢false, Contains}
use Rattle.std.specs.Prelude.{nat_eq, slice_get, IsSomeAnd, is_some, unwrap_or}
use Rattle.std.specs.List.{AllByRecursion, IsDistinct, flat_map, list_any, position}
use Rattle.std.proofs.lemmas.Bool.{ltb-true, leb-true, eqb-true}
use Rattle.std.proofs.lemmas.List.{length-map}
use Rattle.std.proofs.lemmas.List.Elements.{All-from_recursion}
use Rattle.std.proofs.lemmas.List.Quantifiers.{position-Some}
use Rattle.std.proofs.lemmas.Map.Keys.{IsDistinct-head, IsDistinct-tail}
use Rattle.std.proofs.lemmas.Option.{slice_get-get_or}
use Rattle.qd_base.specs.declared.code.Code.{Code}
use Rattle.qd_base.specs.declared.code.Code.TheVariants as code
use Rattle.qd_base.specs.declared.limits.TheConstants.{MAX_COLUMNS, MAX_TABLES}
use Rattle.qd_base.specs.declared.op.Op.TheVariants as op
use Rattle.qd_base.specs.declared.schema.Col.{Col}
use Rattle.qd_base.specs.declared.schema.ColType.{ColType}
use Rattle.qd_base.specs.declared.schema.ColType.TheVariants as kind
use Rattle.qd_base.specs.declared.schema.Schema.{Schema}
use Rattle.qd_base.specs.Lawful.{AreLawful, IsSchema}
use Rattle.qd_base.specs.Names.{IsColumnName, IsTableName}
use Rattle.qd_base.specs.Schemas.{AreKeys, same_name, table_at, column_at}
use Rattle.qd_base.proofs.Alike.{alike, joins}
use Rattle.qd_base.proofs.Lists.{Contains-cons, IsDistinct-cons, IsDistinct-nil, IsDistinct-map, IsDistinct-from_map, each-map, each-weaker}
use Rattle.qd_sql_ast.specs.declared.tree.ColumnDef.{ColumnDef}
use Rattle.qd_sql_ast.specs.declared.tree.Create.{Create}
use Rattle.qd_sql_ast.specs.declared.tree.Dedup.{Dedup}
use Rattle.qd_sql_ast.specs.declared.tree.Name.{Name}
use Rattle.qd_meaning.specs.declared.refusal.Refusal.{Refusal}
use Rattle.qd_meaning.specs.Refusals.{at, unless}
use Rattle.qd_meaning.specs.Laws.{NamesAreJudged}
use Rattle.qd_meaning.specs.Creating.{again_from, col_of, cols_of, column_name_faults, created, create_faults, dedup_faults, designated_faults, is_time_kind, key_faults, keys_named, named_twice, not_designated, place_in, table_faults, table_name_faults, unknown_column}

-- ---- lists without a refusal

pub empty_parts : {X : Type 0} (xs ys : List X) → xs ++ ys ≡ [] → (xs ≡ []) × (ys ≡ [])
empty_parts [] ys e = (refl, e)
empty_parts (x ∷ xs) ys e = absurd cc

pub each_empty : {X Y : Type 0} (f : X → List Y) (xs : List X) → flat_map f xs ≡ [] → AllByRecursion (λ x. f x ≡ []) xs
each_empty f [] e = tt
each_empty f (x ∷ xs) e = let h = empty_parts (f x) (flat_map f xs) e in (h.0, each_empty f xs h.1)

pub holds : (b : Bool) (why : Code) (place : ℕ) → unless b why place ≡ [] → b ≡ true
holds true why place e = refl
holds false why place e = absurd cc

pub not-true : (b : Bool) → not b ≡ true → b ≡ false
not-true true e = absurd (true≢false (sym e))
not-true false e = refl

or_false : (a b : Bool) → (a || b) ≡ false → (a ≡ false) × (b ≡ false)
or_false true b e = absurd (true≢false e)
or_false false b e = (refl, e)

-- ---- names that don't come again

abbrev pub alike_names : Name → Name → Bool
alike_names a b = same_name a.text b.text

not_refused : (b : Bool) (why : Code) (place : ℕ) → (if b then at why place else []) ≡ [] → b ≡ false
not_refused true why place e = absurd cc
not_refused false why place e = refl

abbrev New : List Name → Name → Type 0
New before n = list_any (λ (m : Name). same_name m.text n.text) before ≡ false

again_clear : (why : Code) (before names : List Name) → again_from (λ (n : Name). at why n.at) before names ≡ [] → AllByRecursion (New before) names × IsDistinct alike_names names
again_clear why before [] e = (tt, IsDistinct-nil alike_names)
again_clear why before (n ∷ ns) e =
    let h = empty_parts (if list_any (λ (m : Name). same_name m.text n.text) before then at why n.at else []) (again_from (λ (m : Name). at why m.at) (n ∷ before) ns) e in
    let rest = again_clear why (n ∷ before) ns h.1 in (
      (
        not_refused (list_any (λ (m : Name). same_name m.text n.text) before) why n.at h.0,
        each-weaker (New (n ∷ before)) (New before) (λ x k. (or_false (same_name n.text x.text) (list_any (λ (m : Name). same_name m.text x.text) before) k).1) ns rest.0,
      ),
      IsDistinct-cons alike_names n ns
          (each-weaker (New (n ∷ before)) (λ (x : Name). alike_names n x ≡ false) (λ x k. (or_false (same_name n.text x.text) (list_any (λ (m : Name). same_name m.text x.text) before) k).0) ns rest.0)
          rest.1,
    )

pub names_distinct : (why : Code) (names : List Name) → again_from (λ (n : Name). at why n.at) [] names ≡ [] → IsDistinct alike_names names
names_distinct why names e = (again_clear why [] names e).1

columns_distinct : (columns : List ColumnDef) → IsDistinct alike_names (map (λ (d : ColumnDef). d.name) columns) → IsDistinct (λ (a b : Col). same_name a.name b.name) (map col_of columns)
columns_distinct columns h = IsDistinct-map col_of (λ (a b : Col). same_name a.name b.name) columns (IsDistinct-from_map (λ (d : ColumnDef). d.name) alike_names columns h)

-- ---- columns that are there

some_col : Col
some_col = record { name = []; kind = kind.Time }

pub record IsThere (cols : List Col) (name : List ℕ) (place : ℕ) : Type 0 where
  pub low : place < length cols
  pub named : (d : Col) → same_name (get_or cols place d).name name ≡ true

pub place_there : (cols : List Col) (n : Name) → is_some (column_at cols n.text) ≡ true → IsThere cols n.text (place_in cols n)
place_there cols n h = go (column_at cols n.text) refl h
  where
    go : (o : Option ℕ) → column_at cols n.text ≡ o → is_some o ≡ true → IsThere cols n.text (unwrap_or o 0)
    go None e k = absurd (true≢false (sym k))
    go (Some i) e k = record {
      low = (position-Some (λ (c : Col). same_name c.name n.text) cols i (record { name = []; kind = kind.Time }) e).0;
      named = λ d. (position-Some (λ (c : Col). same_name c.name n.text) cols i d e).1;
    }

time_kind : (k : ColType) → is_time_kind k ≡ true → k ≡ kind.Time
time_kind kind.Long e = absurd (true≢false (sym e))
time_kind kind.Bool e = absurd (true≢false (sym e))
time_kind kind.Symbol e = absurd (true≢false (sym e))
time_kind kind.Varchar e = absurd (true≢false (sym e))
time_kind kind.Time e = refl

designated : (cols : List Col) (n : Name) → designated_faults cols n ≡ [] → IsSomeAnd (slice_get cols (place_in cols n)) (λ (c : Col). c.kind ≡ kind.Time)
designated cols n e =
    let parts = empty_parts (unknown_column cols n) (not_designated n (slice_get cols (place_in cols n))) e in
    let there = place_there cols n (holds (is_some (column_at cols n.text)) code.UnknownColumn n.at parts.0) in
    let d : Col = record { name = []; kind = kind.Time } in
    let is : slice_get cols (place_in cols n) ≡ Some (get_or cols (place_in cols n) d) = slice_get-get_or cols (place_in cols n) d there.low in
    let col : Col = get_or cols (place_in cols n) d in
    let fits : not_designated n (Some (get_or cols (place_in cols n) d)) ≡ [] = subst (λ (o : Option Col). not_designated n o ≡ []) is parts.1 in
    subst (λ (o : Option Col). IsSomeAnd o (λ (c : Col). c.kind ≡ kind.Time)) (sym is)
    (time_kind (get_or cols (place_in cols n) d).kind (holds (is_time_kind (get_or cols (place_in cols n) d).kind) code.Types n.at fits))

-- ---- keys

abbrev Known : List Col → Name → Type 0
Known cols k = is_some (column_at cols k.text) ≡ true

places_low : (cols : List Col) (ks : List Name) → AllByRecursion (Known cols) ks → AllByRecursion (λ (p : ℕ). p < length cols) (map (place_in cols) ks)
places_low cols [] h = tt
places_low cols (k ∷ ks) h = ((place_there cols k h.0).low, places_low cols ks h.1)

place_apart : (cols : List Col) (a b : Name) → Known cols a → Known cols b → alike_names a b ≡ false → nat_eq (place_in cols a) (place_in cols b) ≡ false
place_apart cols a b h k differ = go (nat_eq (place_in cols a) (place_in cols b)) refl
  where
    go : (t : Bool) → nat_eq (place_in cols a) (place_in cols b) ≡ t → t ≡ false
    go false e = refl
    go true e =
        let d : Col = record { name = []; kind = kind.Time } in
        let at : place_in cols a ≡ place_in cols b = eqb-true (place_in cols a) (place_in cols b) e in
        let one : same_name (get_or cols (place_in cols a) d).name a.text ≡ true = (place_there cols a h).named d in
        let two : same_name (get_or cols (place_in cols a) d).name b.text ≡ true = ap (λ (p : ℕ). same_name (get_or cols p d).name b.text) at ∙ (place_there cols b k).named d in
        absurd (true≢false (sym (joins (get_or cols (place_in cols a) d).name a.text b.text true one two) ∙ differ))

each_apart : (cols : List Col) (a : Name) (ks : List Name) → Known cols a → AllByRecursion (Known cols) ks → AllByRecursion (λ (b : Name). alike_names a b ≡ false) ks
    → AllByRecursion (λ (p : ℕ). nat_eq (place_in cols a) p ≡ false) (map (place_in cols) ks)
each_apart cols a [] h k differ = tt
each_apart cols a (b ∷ ks) h k differ = (place_apart cols a b h k.0 differ.0, each_apart cols a ks h k.1 differ.1)

places_distinct : (cols : List Col) (ks : List Name) → AllByRecursion (Known cols) ks → IsDistinct alike_names ks → IsDistinct nat_eq (map (place_in cols) ks)
places_distinct cols [] h d = IsDistinct-nil nat_eq
places_distinct cols (k ∷ ks) h d =
    IsDistinct-cons nat_eq (place_in cols k) (map (place_in cols) ks) (each_apart cols k ks h.0 h.1 (IsDistinct-head alike_names k ks d))
    (places_distinct cols ks h.1 (IsDistinct-tail alike_names k ks d))

same_place : (cols : List Col) (a b : Name) → alike_names a b ≡ true → place_in cols a ≡ place_in cols b
same_place cols a b h = λ i. unwrap_or (position (λ (c : Col). alike a.text b.text c.name h i) cols) 0

time_among : (cols : List Col) (ks : List Name) (time : Name) → list_any (λ (k : Name). same_name k.text time.text) ks ≡ true → Contains (map (place_in cols) ks) (place_in cols time)
time_among cols [] time e = absurd (true≢false (sym e))
time_among cols (k ∷ ks) time e = go (same_name k.text time.text) refl e (time_among cols ks time)
  where
    go : (b : Bool) → same_name k.text time.text ≡ b → (b || list_any (λ (m : Name). same_name m.text time.text) ks) ≡ true
        → (list_any (λ (m : Name). same_name m.text time.text) ks ≡ true → Contains (map (place_in cols) ks) (place_in cols time)) → Contains (map (place_in cols) (k ∷ ks)) (place_in cols time)
    go true is f rest = (0, omega arith, same_place cols k time is)
    go false is f rest = Contains-cons (place_in cols k) (map (place_in cols) ks) (place_in cols time) (rest f)

-- keys of columns that are there, of which none comes again
pub keys_are : (cols : List Col) (time : Name) (d : Dedup) → flat_map (unknown_column cols) d.keys ≡ [] → key_faults time.text d ≡ [] → AreKeys cols (place_in cols time) (map (place_in cols) d.keys)
keys_are cols time d unknown e =
    let parts = empty_parts (unless (list_any (λ (k : Name). same_name k.text time.text) d.keys) code.Keys d.at) (again_from (λ (n : Name). at code.Keys n.at) [] d.keys) e in
    let known : AllByRecursion (Known cols) d.keys =
    each-weaker (λ (k : Name). unknown_column cols k ≡ []) (Known cols) (λ k h. holds (is_some (column_at cols k.text)) code.UnknownColumn k.at h) d.keys (each_empty (unknown_column cols) d.keys unknown) in
    inr (
      All-from_recursion (λ (p : ℕ). p < length cols) (map (place_in cols) d.keys) (places_low cols d.keys known),
      places_distinct cols d.keys known (names_distinct code.Keys d.keys parts.1),
      time_among cols d.keys time (holds (list_any (λ (k : Name). same_name k.text time.text) d.keys) code.Keys d.at parts.0),
    )

keys_sound : (cols : List Col) (time : Name) (o : Option Dedup) → dedup_faults cols time o ≡ [] → AreKeys cols (place_in cols time) (map (place_in cols) (keys_named o))
keys_sound cols time None e = inl refl
keys_sound cols time (Some d) e =
    let two = empty_parts (flat_map column_name_faults d.keys ++ flat_map (unknown_column cols) d.keys) (key_faults time.text d) e in
    keys_are cols time d (empty_parts (flat_map column_name_faults d.keys) (flat_map (unknown_column cols) d.keys) two.0).1 two.1

-- ---- the whole

-- what stands where nothing is refused
pub record IsClear (schemas : List Schema) (c : Create) : Type 0 where
  pub table : table_faults schemas c ≡ []
  pub names : flat_map (λ (d : ColumnDef). column_name_faults d.name) c.columns ≡ []
  pub twice : named_twice (map (λ (d : ColumnDef). d.name) c.columns) ≡ []
  pub designated : designated_faults (cols_of c) c.time ≡ []
  pub dedup : dedup_faults (cols_of c) c.time c.dedup ≡ []

pub is_clear : (schemas : List Schema) (c : Create) → create_faults schemas c ≡ [] → IsClear schemas c
is_clear schemas c e =
    let t : List Refusal = table_faults schemas c in
    let n : List Refusal = flat_map (λ (d : ColumnDef). column_name_faults d.name) c.columns in
    let w : List Refusal = named_twice (map (λ (d : ColumnDef). d.name) c.columns) in
    let a : List Refusal = column_name_faults c.time in
    let g : List Refusal = designated_faults (cols_of c) c.time in
    let k : List Refusal = dedup_faults (cols_of c) c.time c.dedup in
    let five = empty_parts (t ++ n ++ w ++ a ++ g) k e in
    let four = empty_parts (t ++ n ++ w ++ a) g five.0 in
    let three = empty_parts (t ++ n ++ w) a four.0 in
    let two = empty_parts (t ++ n) w three.0 in
    let one = empty_parts t n two.0 in
    record { table = one.0; names = one.1; twice = two.1; designated = four.1; dedup = five.1 }

-- what stands of the table itself
pub record IsFree (schemas : List Schema) (c : Create) : Type 0 where
  pub name : IsTableName c.table.text
  pub new : is_some (table_at schemas c.table.text) ≡ false
  pub room : length schemas < MAX_TABLES
  pub few : length c.columns ≤ MAX_COLUMNS

pub is_free : NamesAreJudged → (schemas : List Schema) (c : Create) → table_faults schemas c ≡ [] → IsFree schemas c
is_free names schemas c e =
    let n : List Refusal = table_name_faults c.table in
    let x : List Refusal = unless (not (is_some (table_at schemas c.table.text))) code.TableExists c.table.at in
    let t : List Refusal = unless (ltb (length schemas) MAX_TABLES) code.Tables c.table.at in
    let k : List Refusal = unless (leb (length c.columns) MAX_COLUMNS) code.Columns c.table.at in
    let three = empty_parts (n ++ x ++ t) k e in
    let two = empty_parts (n ++ x) t three.0 in
    let one = empty_parts n x two.0 in
    record {
      name = (names.table c.table.text).0 (holds _ code.Name c.table.at one.0);
      new = not-true (is_some (table_at schemas c.table.text)) (holds (not (is_some (table_at schemas c.table.text))) code.TableExists c.table.at one.1);
      room = ltb-true (length schemas) MAX_TABLES (holds (ltb (length schemas) MAX_TABLES) code.Tables c.table.at two.1);
      few = leb-true (length c.columns) MAX_COLUMNS (holds (leb (length c.columns) MAX_COLUMNS) code.Columns c.table.at three.1);
    }

pub create_lawful : NamesAreJudged → (schemas : List Schema) (c : Create) → create_faults schemas c ≡ [] → AreLawful schemas (op.Create (created c) ∷ [])
create_lawful names schemas c e = (free.new, (free.room, sound), tt)
  where
    clear : IsClear schemas c
    clear = is_clear schemas c e

    free : IsFree schemas c
    free = is_free names schemas c clear.table

    name_ok : (d : ColumnDef) → column_name_faults d.name ≡ [] → IsColumnName d.name.text
    name_ok d h = (names.column d.name.text).0 (holds _ code.Name d.name.at h)

    sound : IsSchema (created c)
    sound = record {
      name = free.name;
      few = (let e = length-map c.columns col_of in let f = free.few in omega arith);
      names = All-from_recursion (λ (x : Col). IsColumnName x.name) (cols_of c)
          (each-map col_of (λ (x : Col). IsColumnName x.name) c.columns
          (each-weaker (λ (d : ColumnDef). column_name_faults d.name ≡ []) (λ (d : ColumnDef). IsColumnName d.name.text) name_ok c.columns (each_empty (λ (d : ColumnDef). column_name_faults d.name) c.columns clear.names)));
      distinct = columns_distinct c.columns (names_distinct code.DuplicateColumn (map (λ (d : ColumnDef). d.name) c.columns) clear.twice);
      designated = designated (cols_of c) c.time clear.designated;
      keys = keys_sound (cols_of c) c.time c.dedup clear.dedup;
    }
