-- Tables and columns that are found by name, and the columns that items are.
use Rattle.std.proofs.Common.{◌≡◌, ℕ, zero, suc, ◌+◌, ◌<◌, Bool, true, false, cond, List, [], ◌∷◌, ◌++◌, length, map, take, get_or, Option, Some, None, refl, sym, ap, ap₂, ◌∙◌, subst, arith, add-zero, append-nil}
use Rattle.std.specs.Prelude.{slice_get, IsSomeAnd}
use Rattle.std.specs.Borrow.{Bor}
use Rattle.std.specs.List.{find, flat_map}
use Rattle.std.specs.Option.{option_copied, option_map}
use Rattle.std.proofs.lemmas.List.{take_more}
use Rattle.std.proofs.lemmas.Option.{get_or_from_slice_get}
use Rattle.qd_base.specs.declared.schema.Col.{Col}
use Rattle.qd_base.specs.declared.schema.ColType.{ColType}
use Rattle.qd_base.specs.declared.schema.Schema.{Schema}
use Rattle.qd_base.specs.Schemas.{same_name, table_at, schema_of, column_at}
use Rattle.qd_base.proofs.Tables.{find-position, not_found}
use Rattle.qd_sql_ast.specs.declared.tree.Item.{Item}
use Rattle.qd_sql_ast.specs.declared.tree.Name.{Name}
use Rattle.qd_bind.specs.declared.scope.Scope as held
use Rattle.qd_bind.specs.declared.side.Side.{Side}
use Rattle.qd_bind.specs.Apart.{cols_by}
use Rattle.qd_bind.specs.Scoped.{columns, scope, side, side_or_none}
use Rattle.qd_meaning.specs.declared.refusal.Refusal.{Refusal}
use Rattle.qd_meaning.specs.Scopes.{Scope, scope_column}
use Rattle.qd_meaning.specs.Typing.{plain_column}
use Rattle.qd_meaning.specs.Items.{Shows, all_from, item_of, value_shown}
use Rattle.qd_meaning.specs.Planned.{cols_in, kind_named}
use Rattle.qd_plan.specs.Kinds.{columns_or_none}
use Rattle.qd_plan.specs.Listing.{faults_in, item_faults, plain_from}

-- ---- tables

pub schema_found : (schemas : List Schema) (name : List ℕ) (i : ℕ) (s : Schema) → Some i ≡ table_at schemas name → slice_get schemas i ≡ Some s → Some s ≡ schema_of schemas name
schema_found schemas name i s h e =
    ap Some (sym (get_or_from_slice_get schemas i s s e)) ∙ sym (find-position (λ (t : Schema). same_name t.name name) schemas i s (sym h))

pub schema_missing : (schemas : List Schema) (name : List ℕ) → None ≡ table_at schemas name → None ≡ schema_of schemas name
schema_missing schemas name h = go (schema_of schemas name) refl
  where
    go : (o : Option Schema) → schema_of schemas name ≡ o → None ≡ o
    go None e = refl
    go (Some s) e = absurd (not_found (λ (t : Schema). same_name t.name name) (λ t. Unit {0}) schemas (sym h) (subst (λ (o : Option Schema). IsSomeAnd o (λ t. Unit {0})) (sym e) tt))

pub cols_same : (o : Option (Bor Schema)) → cols_by o ≡ cols_in (option_copied o)
cols_same None = refl
cols_same (Some s) = refl

-- ---- columns

kind_push : (b : Bool) (c : Col) (o : Option Col) (k : Option ColType) → k ≡ option_map (λ (d : Col). d.kind) o → cond b (Some c.kind) k ≡ option_map (λ (d : Col). d.kind) (cond b (Some c) o)
kind_push true c o k e = refl
kind_push false c o k e = e

kind_find : (cols : List Col) (n : Name) → kind_named cols n ≡ option_map (λ (c : Col). c.kind) (find (λ (c : Col). same_name c.name n.text) cols)
kind_find [] n = refl
kind_find (c ∷ cs) n = kind_push (same_name c.name n.text) c (find (λ (d : Col). same_name d.name n.text) cs) (kind_named cs n) (kind_find cs n)

pub kind_found : (cols : List Col) (n : Name) (i : ℕ) (c : Col) → Some i ≡ column_at cols n.text → slice_get cols i ≡ Some c → Some c.kind ≡ kind_named cols n
kind_found cols n i c h e =
    ap (λ (o : Option Col). option_map (λ (d : Col). d.kind) o) (ap Some (sym (get_or_from_slice_get cols i c c e)) ∙ sym (find-position (λ (d : Col). same_name d.name n.text) cols i c (sym h)))
    ∙ sym (kind_find cols n)

pub kind_missing : (cols : List Col) (n : Name) → None ≡ column_at cols n.text → None ≡ kind_named cols n
kind_missing cols n h = ap (λ (o : Option Col). option_map (λ (d : Col). d.kind) o) (go (find (λ (d : Col). same_name d.name n.text) cols) refl) ∙ sym (kind_find cols n)
  where
    go : (o : Option Col) → find (λ (d : Col). same_name d.name n.text) cols ≡ o → None ≡ find (λ (d : Col). same_name d.name n.text) cols
    go None e = sym e
    go (Some s) e = absurd (not_found (λ (d : Col). same_name d.name n.text) (λ d. Unit {0}) cols (sym h) (subst (λ (o : Option Col). IsSomeAnd o (λ d. Unit {0})) (sym e) tt))

-- ---- all columns as items

abbrev item_at : ℕ → Col → Shows
item_at n c = value_shown (plain_column (n, c))

plain_push : (n : ℕ) (cols : List Col) (c : Col) → plain_from n (cols ++ c ∷ []) ≡ plain_from n cols ++ item_at (n + length cols) c ∷ []
plain_push n [] c = ap (λ (m : ℕ). item_at m c ∷ []) (sym (add-zero n))
plain_push n (d ∷ ds) c = ap (λ (rest : List Shows). item_at n d ∷ rest) (plain_push (n + 1) ds c ∙ ap (λ (m : ℕ). plain_from (n + 1) ds ++ item_at m c ∷ []) (omega arith))

taken : (cols : List Col) (i : ℕ) → i < length cols → length (take i cols) ≡ i
taken [] i lt = absurd (omega arith)
taken (c ∷ cs) zero lt = refl
taken (c ∷ cs) (suc i) lt = ap suc (taken cs i (omega arith))

pub plain_more : (n : ℕ) (cols : List Col) (i : ℕ) (c : Col) → i < length cols → c ≡ get_or cols i c → plain_from n (take i cols) ++ item_at (n + i) c ∷ [] ≡ plain_from n (take (i + 1) cols)
plain_more n cols i c lt is =
    ap (λ (m : ℕ). plain_from n (take i cols) ++ item_at (n + m) c ∷ []) (sym (taken cols i lt))
    ∙ sym (plain_push n (take i cols) c)
    ∙ ap (λ (d : Col). plain_from n (take i cols ++ d ∷ [])) is
    ∙ ap (plain_from n) (sym (take_more cols i c lt))

all_plain : (n : ℕ) (source : List ℕ) (cols : List Col) → all_from n (map (scope_column source) cols) ≡ plain_from n cols
all_plain n source [] = refl
all_plain n source (c ∷ cs) = ap (λ (rest : List Shows). item_at n c ∷ rest) (all_plain (n + 1) source cs)

pub all_left : (source : List ℕ) (cols : List Col) → plain_from 0 cols ≡ all_from 0 (map (scope_column source) cols ++ [])
all_left source cols = sym (ap (all_from 0) (append-nil (map (scope_column source) cols)) ∙ all_plain 0 source cols)

both_from : (n : ℕ) (one other : List ℕ) (cols more : List Col) → plain_from n cols ++ plain_from (n + length cols) more ≡ all_from n (map (scope_column one) cols ++ map (scope_column other) more)
both_from n one other [] more = ap (λ (m : ℕ). plain_from m more) (add-zero n) ∙ sym (all_plain n other more)
both_from n one other (c ∷ cs) more =
    ap (λ (m : ℕ). item_at n c ∷ (plain_from (n + 1) cs ++ plain_from m more)) (omega arith) ∙ ap (λ (rest : List Shows). item_at n c ∷ rest) (both_from (n + 1) one other cs more)

pub all_both : (one other : List ℕ) (cols more : List Col) (n : ℕ) → n ≡ length cols → plain_from 0 cols ++ plain_from n more ≡ all_from 0 (map (scope_column one) cols ++ map (scope_column other) more)
all_both one other cols more n e = ap (λ (m : ℕ). plain_from 0 cols ++ plain_from m more) (e ∙ omega arith) ∙ both_from 0 one other cols more

pub all_scope : (s : held.Scope) (cols : List Col) (n : ℕ) → cols ≡ columns s.left → n ≡ length cols → plain_from 0 cols ++ plain_from n (columns_or_none s.right) ≡ all_from 0 (scope s)
all_scope s cols n e f =
    ap₂ (λ (xs : List Col) (m : ℕ). plain_from 0 xs ++ plain_from m (columns_or_none s.right)) e (f ∙ ap length e) ∙ go s.right
  where
    go : (o : Option Side) → plain_from 0 (columns s.left) ++ plain_from (length (columns s.left)) (columns_or_none o) ≡ all_from 0 (side s.left ++ side_or_none o)
    go None = append-nil (plain_from 0 (columns s.left)) ∙ all_left s.left.name.now (columns s.left)
    go (Some r) = all_both s.left.name.now r.name.now (columns s.left) (columns r) (length (columns s.left)) refl

-- ---- the refusals of listed items

pub faults_listed : (cs : Scope) (items : List Item) → flat_map (item_faults cs) items ≡ faults_in (map (item_of cs) items)
faults_listed cs [] = refl
faults_listed cs (i ∷ is) = ap (λ (rs : List Refusal). (item_of cs i).faults ++ rs) (faults_listed cs is)

-- columns as they stand have no refusals
pub no_faults : (n : ℕ) (cs : Scope) → faults_in (all_from n cs) ≡ []
no_faults n [] = refl
no_faults n (c ∷ cs) = no_faults (n + 1) cs
