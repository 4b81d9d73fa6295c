-- A table has at most as many rows as came.
use Rattle.std.proofs.Common.{ℕ, suc, ◌+◌, ◌*◌, ◌≤◌, Bool, true, false, if◌then◌else◌, List, [], ◌∷◌, ◌++◌, Some, IfSome, All, length, sum_by, arith, subst, sym}
use Rattle.std.specs.List.{AllByRecursion, fold}
use Rattle.std.proofs.lemmas.List.{length-map}
use Rattle.std.proofs.lemmas.List.Elements.{All-from_recursion, All-nil, recursion_from_All}
use Rattle.std.proofs.lemmas.List.Sums.{sum_by-cons}
use Rattle.qd_base.specs.declared.op.Entry.{Entry}
use Rattle.qd_base.specs.declared.op.Op.{Op}
use Rattle.qd_base.specs.declared.op.Op.TheVariants as op
use Rattle.qd_base.specs.declared.schema.Col.{Col}
use Rattle.qd_base.specs.declared.schema.Schema.{Schema}
use Rattle.qd_base.specs.Database.{Database, StoredTable, filled, missing, rekeyed, schemas_of, step, widened}
use Rattle.qd_base.specs.Lawful.{cells_in, AreLawful, AreSchemas, IsRowOf, IsSchema, IsSound, Lawful, LawfulFrom}
use Rattle.qd_base.specs.Replay.{after, commit, replay}
use Rattle.qd_base.specs.Rows.{Row}
use Rattle.qd_base.specs.Schemas.{at_name, same_name, schema_of}
use Rattle.qd_base.proofs.Lawful.{AreSchemas-ops, AreSchemas-step}
use Rattle.qd_base.proofs.Lists.{IsDistinct-nil}
use Rattle.qd_base.proofs.Tables.{each-at_name, schemas_of-commit, schemas_of-step}
use Rattle.qd_manifest.specs.declared.shape.TheConstants.{BLOCKS_PER_TRANSACTION}
use Rattle.qd_apply.specs.Laws.{IsDatabase}
use Rattle.qd_apply.proofs.EachLemmas.{each_append, each_then}
use Rattle.qd_apply.proofs.PutCountLemmas.{fold_few}
use Rattle.qd_apply.proofs.VersionLemmas.{rows_cells}

-- ---- one change

-- no table has more rows than so many
abbrev pub AreFew : ℕ → Database → Type 0
AreFew most db = AllByRecursion (λ (t : StoredTable). length t.rows ≤ most) db

few_more : (most more : ℕ) (db : Database) → AreFew most db → AreFew (most + more) db
few_more most more db few = each_then (λ (t : StoredTable). length t.rows ≤ most) (λ (t : StoredTable). length t.rows ≤ most + more) (λ t le. omega (arith, le)) db few

wider_few : (most : ℕ) (db : Database) (name : List ℕ) (c : Col) → AreFew most db → AreFew most (at_name (λ (t : StoredTable). t.schema.name) (widened c) name db)
wider_few most db name c few =
    each-at_name (λ (t : StoredTable). t.schema.name) (widened c) name (λ (t : StoredTable). length t.rows ≤ most)
    (λ t le. omega (arith, le, length-map t.rows (λ (r : Row). r ++ missing c.kind ∷ []))) db few

filled_few : (most : ℕ) (ts : Database) (name : List ℕ) (rows : List Row) → AllByRecursion IsSchema (schemas_of ts)
    → IfSome (schema_of (schemas_of ts) name) (λ (s : Schema). All (IsRowOf s) rows)
    → AreFew most ts → AreFew (most + sum_by length rows) (at_name (λ (t : StoredTable). t.schema.name) (filled rows) name ts)
filled_few most [] name rows schemas fit few = tt
filled_few most (t ∷ ts) name rows schemas fit few = step (same_name t.schema.name name) fit (λ h. filled_few most ts name rows schemas.1 h few.1)
  where
    step : (b : Bool) → IfSome (if b then Some t.schema else schema_of (schemas_of ts) name) (λ (s : Schema). All (IsRowOf s) rows)
        → (IfSome (schema_of (schemas_of ts) name) (λ (s : Schema). All (IsRowOf s) rows) → AreFew (most + sum_by length rows) (at_name (λ (t : StoredTable). t.schema.name) (filled rows) name ts))
        → AreFew (most + sum_by length rows) (if b then filled rows t ∷ ts else t ∷ at_name (λ (t : StoredTable). t.schema.name) (filled rows) name ts)
    step true h later =
        let cells = rows_cells t.schema rows schemas.0 (recursion_from_All (IsRowOf t.schema) rows h) in
        let put_in = fold_few t.schema.time_col t.schema.keys t.rows rows in
        let first = few.0 in
        (omega (arith, cells, put_in, first), few_more most (sum_by length rows) ts few.1)
    step false h later = (let first = few.0 in omega (arith, first), later h)

step_few : (most : ℕ) (db : Database) (o : Op) → AreSchemas (schemas_of db) → IsSound (schemas_of db) o → AreFew most db → AreFew (most + cells_in o) (step db o)
step_few most db (op.Create schema) are sound few = each_append (λ (t : StoredTable). length t.rows ≤ most + 0) db (record { schema = schema; rows = [] } ∷ []) (few_more most 0 db few) (omega arith, tt)
step_few most db (op.AddColumn table col) are sound few = wider_few (most + 0) db table col (few_more most 0 db few)
step_few most db (op.Insert table rows) are sound few = filled_few most db table rows (recursion_from_All IsSchema (schemas_of db) are.each) sound few
step_few most db (op.SetKeys table keys) are sound few =
    each-at_name (λ (t : StoredTable). t.schema.name) (rekeyed keys) table (λ (t : StoredTable). length t.rows ≤ most + 0) (λ t le. le) db (few_more most 0 db few)

-- ---- transactions

few_same : (a b : ℕ) (db : Database) → a ≤ b → AreFew a db → AreFew b db
few_same a b db le few = each_then (λ (t : StoredTable). length t.rows ≤ a) (λ (t : StoredTable). length t.rows ≤ b) (λ t h. omega (arith, h, le)) db few

ops_few : (most : ℕ) (db : Database) (ops : List Op) → AreSchemas (schemas_of db) → AreLawful (schemas_of db) ops → AreFew most db
    → AreFew (most + sum_by cells_in ops) (fold step db ops)
ops_few most db [] are lawful few = few_more most 0 db few
ops_few most db (o ∷ os) are lawful few =
    let same = schemas_of-step db o in
    let next : AreSchemas (schemas_of (step db o)) = subst AreSchemas (sym same) (AreSchemas-step (schemas_of db) o are lawful.0 lawful.1) in
    let later = ops_few (most + cells_in o) (step db o) os next (subst (λ (l : List Schema). AreLawful l os) (sym same) lawful.2) (step_few most db o are lawful.1 few) in
    few_same ((most + cells_in o) + sum_by cells_in os) (most + sum_by cells_in (o ∷ os)) (fold step (step db o) os) (omega (arith, sum_by-cons cells_in o os)) later

pub replay_few : (most : ℕ) (db : Database) (es : List Entry) → AreSchemas (schemas_of db) → LawfulFrom (schemas_of db) es → AreFew most db
    → AreFew (most + length es * BLOCKS_PER_TRANSACTION) (replay db es)
replay_few most db [] are lawful few = few_same most (most + 0 * BLOCKS_PER_TRANSACTION) db (omega arith) few
replay_few most db (e ∷ es) are lawful few =
    let same = schemas_of-commit db e.ops in
    let next : AreSchemas (schemas_of (commit db e)) = subst AreSchemas (sym same) (AreSchemas-ops (schemas_of db) e.ops are lawful.0) in
    let cells : sum_by cells_in e.ops ≤ BLOCKS_PER_TRANSACTION = lawful.1 in
    let one = few_same (most + sum_by cells_in e.ops) (most + BLOCKS_PER_TRANSACTION) (commit db e) (omega (arith, cells)) (ops_few most db e.ops are lawful.0 few) in
    let later = replay_few (most + BLOCKS_PER_TRANSACTION) (commit db e) es next (subst (λ (l : List Schema). LawfulFrom l es) (sym same) lawful.3) one in
    few_same ((most + BLOCKS_PER_TRANSACTION) + length es * BLOCKS_PER_TRANSACTION) (most + suc (length es) * BLOCKS_PER_TRANSACTION) (replay (commit db e) es) (omega arith) later

-- ---- a history

pub no_database : IsDatabase []
no_database = record {
  schemas = record { few = omega arith; each = All-nil IsSchema; distinct = IsDistinct-nil (λ (a : Schema) (b : Schema). same_name a.name b.name) };
  rows = tt;
}

pub rows_few : (history : List Entry) → Lawful history → All (λ (t : StoredTable). length t.rows ≤ length history * BLOCKS_PER_TRANSACTION) (after history)
rows_few history lawful =
    let most : ℕ = length history * BLOCKS_PER_TRANSACTION in
    All-from_recursion (λ (t : StoredTable). length t.rows ≤ most) (after history)
    (few_same (0 + most) most (after history) (omega arith) (replay_few 0 [] history no_database.schemas lawful tt))
