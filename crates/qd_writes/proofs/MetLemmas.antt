-- Names that were met, and names that come again.
use Rattle.std.proofs.Common.{◌≡◌, ℕ, ◌+◌, ◌<◌, Bool, true, false, not, cond, ◌||◌, if◌then◌else◌, List, [], ◌∷◌, ◌++◌, map, length, take, get_or, refl, sym, ap, ap₂, ◌∙◌, append_assoc, append-nil}
use Rattle.std.specs.Prelude.{Vec, is_some}
use Rattle.std.specs.BTreeSet.{contains, Updates}
use Rattle.std.specs.BTreeMap.{is_at}
use Rattle.std.specs.List.{list_any}
use Rattle.std.specs.Str.{bytes_eq, str_to_ascii_lowercase}
use Rattle.std.specs.declared.alloc.Global.{Global}
use Rattle.std.proofs.lemmas.List.{map_more}
use Rattle.std.proofs.lemmas.List.Folds.{list_any-append}
use Rattle.std.proofs.lemmas.Map.Text.{is_eq-slice_cmp}
use Rattle.qd_base.specs.declared.code.Code.{Code}
use Rattle.qd_base.specs.declared.schema.Col.{Col}
use Rattle.qd_base.specs.Schemas.{same_name, column_at}
use Rattle.qd_base.proofs.Texts.{some_place}
use Rattle.qd_sql_ast.specs.declared.tree.ColumnDef.{ColumnDef}
use Rattle.qd_sql_ast.specs.declared.tree.Name.{Name}
use Rattle.qd_meaning.specs.declared.refusal.Refusal.{Refusal}
use Rattle.qd_meaning.specs.Refusals.{at, unless}
use Rattle.qd_meaning.specs.Creating.{again_from, col_of}
use Rattle.qd_writes.specs.declared.met.NameSet.{NameSet}
use Rattle.qd_writes.specs.Met.{HasMet, is_met, key_cmp, names_of}

-- ---- sets

or_more : (a b : Bool) → cond b true a ≡ (a || (b || false))
or_more true true = refl
or_more true false = refl
or_more false true = refl
or_more false false = refl

pub none_met : (met : NameSet) → met.lowered.keys ≡ [] → HasMet [] met
none_met met e key = ap (list_any (is_at (key_cmp key))) e

pub met_found : (names : List Name) (met : NameSet) (n : Name) (key : Vec ℕ Global) → HasMet names met → key.items ≡ str_to_ascii_lowercase n.text
    → contains key_cmp met.lowered key ≡ list_any (λ (m : Name). same_name m.text n.text) names
met_found names met n key h e = h key ∙ ap (is_met names) e

pub met_more : (names : List Name) (old new : NameSet) (n : Name) (key : Vec ℕ Global) → HasMet names old → key.items ≡ str_to_ascii_lowercase n.text
    → Updates key_cmp old.lowered new.lowered key true → HasMet (names ++ n ∷ []) new
met_more names old new n key h e updates q =
    updates.0 q
    ∙ ap₂ (λ (b a : Bool). cond b true a) (is_eq-slice_cmp key.items q.items ∙ ap (λ (k : List ℕ). bytes_eq k q.items) e) (h q)
    ∙ or_more (is_met names q.items) (bytes_eq (str_to_ascii_lowercase n.text) q.items)
    ∙ sym (list_any-append (λ (m : Name). bytes_eq (str_to_ascii_lowercase m.text) q.items) names (n ∷ []))

pub turned_twice : (a b : Bool) → a ≡ not b → not a ≡ b
turned_twice a true e = ap not e
turned_twice a false e = ap not e

-- ---- names that come again

or_around : (a b c : Bool) → (a || (b || c)) ≡ ((b || a) || c)
or_around true true c = refl
or_around true false c = refl
or_around false true c = refl
or_around false false c = refl

-- the refusal of a name that comes again
abbrev pub refused_if : Code → ℕ → Bool → List Refusal
refused_if why place again = if again then at why place else []

pub unless_not : (why : Code) (place : ℕ) (again : Bool) → unless (not again) why place ≡ refused_if why place (again || false)
unless_not why place true = refl
unless_not why place false = refl

again_more : (why : Code) (before names : List Name) (n : Name)
    → again_from (λ (m : Name). at why m.at) before (names ++ n ∷ [])
    ≡ again_from (λ (m : Name). at why m.at) before names ++ refused_if why n.at (list_any (λ (m : Name). same_name m.text n.text) names || list_any (λ (m : Name). same_name m.text n.text) before)
again_more why before [] n = append-nil (refused_if why n.at (list_any (λ (m : Name). same_name m.text n.text) before))
again_more why before (x ∷ names) n =
    let one : List Refusal = refused_if why x.at (list_any (λ (m : Name). same_name m.text x.text) before) in
    ap (λ (rs : List Refusal). one ++ rs) (again_more why (x ∷ before) names n)
    ∙ sym (append_assoc one (again_from (λ (m : Name). at why m.at) (x ∷ before) names) _)
    ∙ ap (λ (b : Bool). (one ++ again_from (λ (m : Name). at why m.at) (x ∷ before) names) ++ refused_if why n.at b)
    (or_around (list_any (λ (m : Name). same_name m.text n.text) names) (same_name x.text n.text) (list_any (λ (m : Name). same_name m.text n.text) before))

-- the refusals of one more part of a list
pub again_next : {T : Type 0} (why : Code) (name_of : T → Name) (parts : List T) (i : ℕ) (d : T) (again : Bool) → i < length parts
    → again ≡ list_any (λ (m : Name). same_name m.text (name_of (get_or parts i d)).text) (map name_of (take i parts))
    → again_from (λ (m : Name). at why m.at) [] (map name_of (take i parts)) ++ unless (not again) why (name_of (get_or parts i d)).at
    ≡ again_from (λ (m : Name). at why m.at) [] (map name_of (take (i + 1) parts))
again_next why name_of parts i d again lt e =
    let n : Name = name_of (get_or parts i d) in
    let names : List Name = map name_of (take i parts) in
    ap (λ (rs : List Refusal). again_from (λ (m : Name). at why m.at) [] names ++ rs)
    (unless_not why n.at again ∙ ap (λ (b : Bool). refused_if why n.at (b || false)) e)
    ∙ sym (again_more why [] names n)
    ∙ ap (again_from (λ (m : Name). at why m.at) []) (sym (map_more name_of parts i d lt))

-- whether a name is that of a column
pub column_met : (columns : List ColumnDef) (n : Name) → list_any (λ (m : Name). same_name m.text n.text) (names_of columns) ≡ is_some (column_at (map col_of columns) n.text)
column_met columns n = among columns ∙ sym (some_place (λ (c : Col). same_name c.name n.text) (map col_of columns))
  where
    among : (ds : List ColumnDef) → list_any (λ (m : Name). same_name m.text n.text) (names_of ds) ≡ list_any (λ (c : Col). same_name c.name n.text) (map col_of ds)
    among [] = refl
    among (d ∷ ds) = ap (λ (b : Bool). same_name d.name.text n.text || b) (among ds)

pub map_same : (names : List Name) → map (λ (n : Name). n) names ≡ names
map_same [] = refl
map_same (n ∷ names) = ap (λ (ns : List Name). n ∷ ns) (map_same names)
