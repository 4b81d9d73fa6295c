-- What an overlay shows, when a table is made and when a column is added.
use Rattle.std.proofs.Common.{◌≡◌, ℕ, ◌+◌, Bool, true, false, cond, zero, suc, List, [], ◌∷◌, ◌++◌, All, Option, Some, None, IsNone, length, length-append, get_or, map, ltb, position, refl, sym, ap, ap₂, ◌∙◌, true≢false, arith, slice_get, IfSome, is_some, replicate}
use Rattle.std.specs.Option.{option_map, option_or}
use Rattle.std.proofs.lemmas.List.{length-map, map_push}
use Rattle.std.specs.List.{AllByRecursion}
use Rattle.std.proofs.lemmas.List.Elements.{All-replicate, recursion_from_All}
use Rattle.std.proofs.lemmas.List.Folds.{find-append}
use Rattle.std.proofs.lemmas.List.Quantifiers.{position-Some}
use Rattle.std.proofs.lemmas.Option.{same_Some, slice_get-get_or}
use Rattle.qd_base.specs.declared.schema.Col.{Col}
use Rattle.qd_base.specs.declared.schema.Schema.{Schema}
use Rattle.qd_base.specs.declared.schema.PartUnit.TheVariants as unit
use Rattle.qd_base.specs.Schemas.{same_name, at_name, with_column, schema_of, table_at}
use Rattle.qd_base.proofs.Alike.{alike, find-at_other, find-at_same, names_equal}
use Rattle.qd_base.proofs.Lawful.{length-at_name}
use Rattle.qd_base.proofs.Tables.{find-position, not_found}
use Rattle.qd_base.proofs.Texts.{position-map}
use Rattle.qd_lines.specs.declared.own.TableName.{TableName}
use Rattle.qd_lines.specs.Overlays.{IsSpot, Overlays}
use Rattle.qd_lines.specs.Owned.{AreNames}

-- ---- the table of a name

pub found-alike : (schemas : List Schema) (a b : List ℕ) → same_name a b ≡ true → schema_of schemas a ≡ schema_of schemas b
found-alike [] a b h = refl
found-alike (s ∷ ss) a b h = rw (alike a b s.name h, found-alike ss a b h) refl

-- the name of the table that is found
found-named : (schemas : List Schema) (name : List ℕ) (s : Schema) → schema_of schemas name ≡ Some s → same_name s.name name ≡ true
found-named [] name s h = cc
found-named (x ∷ xs) name s h = go (same_name x.name name) refl (found-named xs name s) h
  where
    go : (b : Bool) → same_name x.name name ≡ b → (schema_of xs name ≡ Some s → same_name s.name name ≡ true) → cond b (Some x) (schema_of xs name) ≡ Some s → same_name s.name name ≡ true
    go true e ih f = ap (λ t. same_name t.name name) (sym (same_Some x s f)) ∙ e
    go false e ih f = ih f

-- where a position is known, the table is found there
pub found-at : (schemas : List Schema) (name : List ℕ) (i : ℕ) (s : Schema) → Some i ≡ table_at schemas name → s ≡ get_or schemas i s → schema_of schemas name ≡ Some s
found-at schemas name i s at is = find-position (λ t. same_name t.name name) schemas i s (sym at) ∙ ap Some (sym is)

pub not-found : (schemas : List Schema) (name : List ℕ) → table_at schemas name ≡ None → schema_of schemas name ≡ None
not-found schemas name at = go (schema_of schemas name) refl
  where
    go : (o : Option Schema) → schema_of schemas name ≡ o → o ≡ None
    go None e = refl
    go (Some s) e = absurd (not_found (λ t. same_name t.name name) (λ t. Unit {0}) schemas at (rw e tt))

-- ---- one table more

abbrev added : Schema → List ℕ → Option Schema
added s name = cond (same_name s.name name) (Some s) None

found-pushed : (schemas : List Schema) (s : Schema) (name : List ℕ) → schema_of (schemas ++ s ∷ []) name ≡ option_or (schema_of schemas name) (added s name)
found-pushed schemas s name = find-append (λ (t : Schema). same_name t.name name) schemas (s ∷ [])

module _ {T : Type 0} where
  or-none : (o : Option T) → option_or o None ≡ o
  or-none None = refl
  or-none (Some x) = refl

  between : (o b k : Option T) → option_or o b ≡ None → option_or (option_or o b) k ≡ option_or (option_or o k) b
  between None None None h = refl
  between None None (Some z) h = refl
  between None (Some y) k h = cc
  between (Some x) b k h = cc

none-from : {T : Type 0} (o : Option T) → IsNone o → o ≡ None
none-from None h = refl
none-from (Some x) h = absurd (true≢false h)

module _ (base own all : List Schema) (tables : ℕ) (o : Overlays base own all tables) where
  pub created : (s : Schema) → IsNone (schema_of all s.name) → Overlays base (own ++ s ∷ []) (all ++ s ∷ []) (tables + 1)
  created s new = record { named = named; count = let e = o.count in let l = length-append all (s ∷ []) in omega arith }
    where
      case : (name : List ℕ) (b : Bool) → same_name s.name name ≡ b → option_or (schema_of all name) (cond b (Some s) None) ≡ option_or (option_or (schema_of own name) (cond b (Some s) None)) (schema_of base name)
      case name true e =
          let none : option_or (schema_of own name) (schema_of base name) ≡ None = sym (o.named name) ∙ sym (found-alike all s.name name e) ∙ none-from (schema_of all s.name) new in
          rw (o.named name) (between (schema_of own name) (schema_of base name) (Some s) none)
      case name false e = or-none (schema_of all name) ∙ o.named name ∙ ap (λ p. option_or p (schema_of base name)) (sym (or-none (schema_of own name)))

      named : (name : List ℕ) → schema_of (all ++ s ∷ []) name ≡ option_or (schema_of (own ++ s ∷ []) name) (schema_of base name)
      named name = found-pushed all s name ∙ case name (same_name s.name name) refl ∙ ap (λ p. option_or p (schema_of base name)) (sym (found-pushed own s name))

-- ---- one column more

some_schema : Schema
some_schema = record { name = []; cols = []; time_col = 0; unit = unit.Day; keys = [] }

-- the schemas with a column more in the table of a name
abbrev pub widened : List ℕ → Col → List Schema → List Schema
widened table col schemas = at_name (λ s. s.name) (with_column col) table schemas

module _ (table : List ℕ) (col : Col) where
  found-widened : (schemas : List Schema) (name : List ℕ) → same_name table name ≡ true → schema_of (widened table col schemas) name ≡ option_map (with_column col) (schema_of schemas name)
  found-widened schemas name same = find-at_same (λ (s : Schema). s.name) (with_column col) (λ s. refl) table name same schemas

  found-others : (schemas : List Schema) (name : List ℕ) → same_name table name ≡ false → schema_of (widened table col schemas) name ≡ schema_of schemas name
  found-others schemas name differ = find-at_other (λ (s : Schema). s.name) (with_column col) (λ s. refl) table name differ schemas

  module _ (base own all : List Schema) (tables : ℕ) (o : Overlays base own all tables) where
    -- Whatever is put for `own`, it shows the wider table of that name, and the other tables as before.
    shows : (new : List Schema) → ((name : List ℕ) → same_name table name ≡ true → option_map (with_column col) (option_or (schema_of own name) (schema_of base name)) ≡ option_or (schema_of new name) (schema_of base name)) → ((name : List ℕ) → same_name table name ≡ false → schema_of own name ≡ schema_of new name) → Overlays base new (widened table col all) tables
    shows new there other = record { named = λ name. case name (same_name table name) refl; count = length-at_name col table all ∙ o.count }
      where
        case : (name : List ℕ) (b : Bool) → same_name table name ≡ b → schema_of (widened table col all) name ≡ option_or (schema_of new name) (schema_of base name)
        case name true e = found-widened all name e ∙ ap (option_map (with_column col)) (o.named name) ∙ there name e
        case name false e = found-others all name e ∙ o.named name ∙ ap (λ p. option_or p (schema_of base name)) (other name e)

    -- the table is one of `own`
    widened-own : (s : Schema) → schema_of own table ≡ Some s → Overlays base (widened table col own) (widened table col all) tables
    widened-own s found =
        shows (widened table col own)
        (λ name h. let at : schema_of own name ≡ Some s = sym (found-alike own table name h) ∙ found in rw (found-widened own name h, at) refl)
        (λ name h. sym (found-others own name h))

    pub widened-at : (i : ℕ) → Some i ≡ table_at own table → Overlays base (widened table col own) (widened table col all) tables
    widened-at i at = widened-own (get_or own i some_schema) (find-position (λ (t : Schema). same_name t.name table) own i some_schema (sym at))

    -- only `base` has the table
    pub widened-copy : (s : Schema) → schema_of own table ≡ None → schema_of base table ≡ Some s → Overlays base (own ++ with_column col s ∷ []) (widened table col all) tables
    widened-copy s none found =
        let named : same_name s.name table ≡ true = found-named base table s found in
        shows (own ++ with_column col s ∷ [])
        (λ name h.
        let o : schema_of own name ≡ None = sym (found-alike own table name h) ∙ none in
        let b : schema_of base name ≡ Some s = sym (found-alike base table name h) ∙ found in
        let n : same_name s.name name ≡ true = names_equal.congr s.name table name named ∙ h in
        let p : schema_of (own ++ with_column col s ∷ []) name ≡ Some (with_column col s) = found-pushed own (with_column col s) name ∙ rw (o, n) refl in
        rw (o, b, p) refl)
        (λ name h.
        let n : same_name s.name name ≡ false = names_equal.congr s.name table name named ∙ h in
        sym (found-pushed own (with_column col s) name ∙ rw n (or-none (schema_of own name))))

    -- no table has the name
    pub widened-none : schema_of own table ≡ None → schema_of base table ≡ None → Overlays base own (widened table col all) tables
    widened-none none nor =
        shows own
        (λ name h.
        let o : schema_of own name ≡ None = sym (found-alike own table name h) ∙ none in
        let b : schema_of base name ≡ None = sym (found-alike base table name h) ∙ nor in
        rw (o, b) refl)
        (λ name h. refl)

-- a copy with a column more
pub copy-widened : (copied s : Schema) (cols : List Col) (col : Col) → copied ≡ s → cols ≡ copied.cols ++ col ∷ [] → record copied { cols = cols } ≡ with_column col s
copy-widened copied s cols col same pushed = ap (λ cs. record copied { cols = cs }) pushed ∙ ap (with_column col) same

pub none-given : {T : Type 0} (o : Option T) → ((x : T) → o ≡ Some x → ⊥) → o ≡ None
none-given None h = refl
none-given (Some x) h = absurd (h x refl)

-- ---- names in the order of their tables

module _ {X : Type 0} (name_of : X → List ℕ) where
  position-named : (name : List ℕ) (xs : List X) → position (λ (n : List ℕ). same_name n name) (map name_of xs) ≡ position (λ x. same_name (name_of x) name) xs
  position-named name xs = ap₂ (λ n m. cond (ltb n m) (Some n) None) (position-map (λ (n : List ℕ). same_name n name) name_of xs) (length-map xs name_of)

pub found-by-name : (names : List TableName) (schemas : List Schema) (name : List ℕ) → AreNames names schemas → position (λ (n : TableName). same_name n.text name) names ≡ table_at schemas name
found-by-name names schemas name same =
    sym (position-named (λ (n : TableName). n.text) name names) ∙ ap (position (λ (n : List ℕ). same_name n name)) same ∙ position-named (λ (s : Schema). s.name) name schemas

pub named-pushed : (names : List TableName) (schemas : List Schema) (n : TableName) (s : Schema) → AreNames names schemas → n.text ≡ s.name → AreNames (names ++ n ∷ []) (schemas ++ s ∷ [])
named-pushed names schemas n s same e =
    map_push (λ (m : TableName). m.text) names n ∙ ap₂ (λ ts t. ts ++ t ∷ []) same e ∙ sym (map_push (λ (t : Schema). t.name) schemas s)

-- ---- the table that is recalled

pub found-own : (own : List Schema) (name : List ℕ) (i : ℕ) (other : Option Schema) → Some i ≡ table_at own name → slice_get own i ≡ option_or (schema_of own name) other
found-own [] name i other at = cc
found-own (x ∷ xs) name i other at =
    let h = position-Some (λ (t : Schema). same_name t.name name) (x ∷ xs) i x (sym at) in
    let f : schema_of (x ∷ xs) name ≡ Some (get_or (x ∷ xs) i x) = find-position (λ (t : Schema). same_name t.name name) (x ∷ xs) i x (sym at) in
    slice_get-get_or (x ∷ xs) i x h.0 ∙ ap (λ o. option_or o other) (sym f)

pub found-base : (own base : List Schema) (name : List ℕ) (i : ℕ) → None ≡ table_at own name → Some i ≡ table_at base name → slice_get base i ≡ option_or (schema_of own name) (schema_of base name)
found-base own base name i none at = found-own base name i None at ∙ or-none (schema_of base name) ∙ ap (λ p. option_or p (schema_of base name)) (sym (not-found own name (sym none)))

-- what is found by a name is also found by its own
pub recalls : (all : List Schema) (name : List ℕ) (found : Option Schema) → schema_of all name ≡ found → IfSome found (λ s. schema_of all s.name ≡ Some s)
recalls all name None e = tt
recalls all name (Some s) e = found-alike all s.name name (found-named all name s e) ∙ e

-- two options that hold the value of a third
pub one-value : {S T : Type 0} (r : Option S) (value : S → T) (a b : Option T) → is_some r ≡ true → IfSome r (λ s. a ≡ Some (value s)) → IfSome r (λ s. b ≡ Some (value s)) → a ≡ b
one-value None value a b e h k = absurd (true≢false (sym e))
one-value (Some s) value a b e h k = h ∙ sym k

-- what holds of each and of the default holds of what stands at a place
pub all_or : {X : Type 0} (P : X → Type 0) (xs : List X) (i : ℕ) (d : X) → P d → All P xs → P (get_or xs i d)
all_or P xs i d there all = go xs i (recursion_from_All P xs all)
  where
    go : (ys : List _) (k : ℕ) → AllByRecursion P ys → P (get_or ys k d)
    go [] zero h = there
    go [] (suc k) h = there
    go (y ∷ ys) zero h = h.0
    go (y ∷ ys) (suc k) h = go ys k h.1

-- before a table is made or changed
pub begun : (base own : List Schema) (tables : ℕ) → own ≡ [] → tables ≡ length base → Overlays base own base tables
begun base own tables none count = record { named = λ name. ap (λ (o : List Schema). option_or (schema_of o name) (schema_of base name)) (sym none); count = sym count }

-- no table is recalled
pub none_recalled : (n : ℕ) (own base all : List Schema) → All (IsSpot own base all) (replicate n None)
none_recalled n own base all = All-replicate (IsSpot own base all) n None tt
