-- The columns of an answer have distinct names.
use Rattle.std.proofs.Common.{◌≡◌, ℕ, suc, ◌<◌, ◌^◌, false, List, [], ◌∷◌, ◌++◌, length, map, Option, Some, None, Ok, refl, sym, ap, subst, arith}
use Rattle.std.specs.List.{AllByRecursion, IsDistinct, zip}
use Rattle.std.proofs.lemmas.Map.Keys.{IsDistinct-head, IsDistinct-tail}
use Rattle.qd_base.specs.declared.schema.ColType.{ColType}
use Rattle.qd_base.specs.declared.schema.Col.{Col}
use Rattle.qd_base.specs.declared.request.Table.{Table}
use Rattle.qd_base.specs.Schemas.{same_name}
use Rattle.qd_base.specs.Database.{Database, StoredTable}
use Rattle.qd_base.proofs.Lists.{IsDistinct-cons, IsDistinct-nil}
use Rattle.qd_sql_ast.specs.declared.tree.Stmt.{Stmt}
use Rattle.qd_sql_ast.specs.declared.tree.Stmt.TheVariants as is
use Rattle.qd_meaning.specs.declared.refusal.Refusal.{Refusal}
use Rattle.qd_meaning.specs.Refusals.{least, judged}
use Rattle.qd_meaning.specs.Outputs.{made_new, names_from, output_names}
use Rattle.qd_meaning.specs.Items.{Shows, output_column, columns_of, items_of}
use Rattle.qd_meaning.specs.Planned.{scope_in}
use Rattle.qd_meaning.specs.Answer.{refusals, table_of, shown, stored, right_table, schema_in}
use Rattle.qd_meaning.specs.Laws.{OutputNamesAreDistinct}
use Rattle.qd_meaning.proofs.NameLemmas.{names-apart}

each-column : (name : List ℕ) (names : List (List ℕ)) (kinds : List ColType) → AllByRecursion (λ y. same_name name y ≡ false) names
    → AllByRecursion (λ (c : Col). same_name name c.name ≡ false) (map output_column (zip names kinds))
each-column name [] kinds h = tt
each-column name (n ∷ ns) [] h = tt
each-column name (n ∷ ns) (k ∷ ks) h = (h.0, each-column name ns ks h.1)

columns-distinct : (names : List (List ℕ)) (kinds : List ColType) → IsDistinct same_name names → IsDistinct (λ (a b : Col). same_name a.name b.name) (map output_column (zip names kinds))
columns-distinct [] kinds h = IsDistinct-nil (λ (a b : Col). same_name a.name b.name)
columns-distinct (n ∷ ns) [] h = IsDistinct-nil (λ (a b : Col). same_name a.name b.name)
columns-distinct (n ∷ ns) (k ∷ ks) h =
    IsDistinct-cons (λ (a b : Col). same_name a.name b.name) (output_column (n, k)) (map output_column (zip ns ks)) (each-column n ns ks (IsDistinct-head same_name n ns h)) (columns-distinct ns ks (IsDistinct-tail same_name n ns h))

-- as many columns as items
columns-count : (taken : List (List ℕ)) (items : List Shows)
    → length (map output_column (zip (names_from taken (map (λ (s : Shows). s.name) items)) (map (λ (s : Shows). s.kind) items))) ≡ length (map (λ (s : Shows). s.name) items)
columns-count taken [] = refl
columns-count taken (s ∷ items) = ap suc (columns-count (taken ++ made_new taken s.name ∷ []) items)

items-distinct : (items : List Shows) → length (columns_of items) < 2 ^ 63 → IsDistinct (λ (a b : Col). same_name a.name b.name) (columns_of items)
items-distinct items few =
    let count = columns-count [] items in
    columns-distinct (output_names (map (λ (s : Shows). s.name) items)) (map (λ (s : Shows). s.kind) items) (names-apart [] (map (λ (s : Shows). s.name) items) (omega arith)).1

shown-distinct : (t : Option StoredTable) → IsDistinct (λ (a b : Col). same_name a.name b.name) (shown t).cols
unfolding IsDistinct
shown-distinct None = tt
shown-distinct (Some t) = ((refl, (refl, (refl, tt))), ((refl, (refl, tt)), ((refl, tt), (tt, tt))))

table-distinct : (db : Database) (s : Stmt) → length (table_of db s).cols < 2 ^ 63 → IsDistinct (λ (a b : Col). same_name a.name b.name) (table_of db s).cols
table-distinct db (is.Query q) few =
    items-distinct (items_of (scope_in (schema_in (stored db q.source.table.text)) (schema_in (right_table db q.join)) q) q.selected) few
table-distinct db (is.Show name place) few = shown-distinct (stored db name)
table-distinct db (is.Create c) few = IsDistinct-nil (λ (a b : Col). same_name a.name b.name)
table-distinct db (is.Insert i) few = IsDistinct-nil (λ (a b : Col). same_name a.name b.name)
table-distinct db (is.Alter a) few = IsDistinct-nil (λ (a b : Col). same_name a.name b.name)

answered-table : (o : Option Refusal) (a t : Table) → judged o a ≡ Ok t → a ≡ t
answered-table None a t e = cc
answered-table (Some r) a t e = absurd (cc)

pub output-names-are-distinct : OutputNamesAreDistinct
output-names-are-distinct db s t e few =
    let same : table_of db s ≡ t = answered-table (least (refusals db s)) (table_of db s) t e in
    subst (λ (x : Table). IsDistinct (λ (a b : Col). same_name a.name b.name) x.cols) same (table-distinct db s (subst (λ (x : Table). length x.cols < 2 ^ 63) (sym same) few))
