-- A statement of a text inserts no more cells than a transaction may.
use Rattle.std.proofs.Common.{◌≡◌, ℕ, ◌+◌, ◌*◌, ◌≤◌, List, [], ◌∷◌, length, map, sum_by, find, Option, Some, None, Result, Ok, Err, Bool, true, false, if◌then◌else◌, refl, sym, ap, ◌∙◌, subst, arith}
use Rattle.std.specs.Prelude.{All}
use Rattle.std.specs.List.{AllByRecursion, range_with_len, zip}
use Rattle.std.proofs.lemmas.List.{length-map}
use Rattle.std.proofs.lemmas.List.Elements.{All-from_recursion, recursion_from_All}
use Rattle.std.proofs.lemmas.List.Sums.{sum_by-le}
use Rattle.std.proofs.lemmas.List.FromFn.{length-range_with_len}
use Rattle.std.proofs.lemmas.Slice.Zip.{length-zip}
use Rattle.qd_base.specs.declared.limits.TheConstants.{MAX_BATCH_CELLS, MAX_COLUMNS}
use Rattle.qd_base.specs.declared.op.Entry.{Entry}
use Rattle.qd_base.specs.declared.schema.Col.{Col}
use Rattle.qd_base.specs.declared.schema.Schema.{Schema}
use Rattle.qd_base.specs.Lawful.{AreSchemas, IsSchema, cells_in, cells_of}
use Rattle.qd_base.specs.Rows.{Row}
use Rattle.qd_base.specs.Schemas.{same_name, schema_of}
use Rattle.qd_sql_ast.specs.declared.tree.Alter.{Alter}
use Rattle.qd_sql_ast.specs.declared.tree.Change.{Change}
use Rattle.qd_sql_ast.specs.declared.tree.Change.TheVariants as changing
use Rattle.qd_sql_ast.specs.declared.tree.Insert.{Insert}
use Rattle.qd_sql_ast.specs.declared.tree.Stmt.{Stmt}
use Rattle.qd_sql_ast.specs.declared.tree.Stmt.TheVariants as is
use Rattle.qd_sql_ast.specs.declared.tree.Tuple.{Tuple}
use Rattle.qd_meaning.specs.declared.refusal.Refusal.{Refusal}
use Rattle.qd_meaning.specs.Altering.{altered, changed}
use Rattle.qd_meaning.specs.Inserting.{Target, cell_for, inserted_rows, row_of, targets_of}
use Rattle.qd_meaning.specs.Refusals.{judged, least}
use Rattle.qd_meaning.specs.Write.{changes, inserted, transaction, write, write_faults}
use Rattle.qd_memory.specs.Listed.{IsShort}

row_size : (cols : List Col) (targets : List Target) (t : Tuple) → length (row_of cols targets t) ≡ length cols
row_size cols targets t =
    omega (arith, length-map (zip (range_with_len 0 (length cols)) cols) (cell_for (zip targets t.lits)), length-zip (range_with_len 0 (length cols)) cols, length-range_with_len 0 (length cols))

rows_short : (cols : List Col) (targets : List Target) (ts : List Tuple) → length cols ≤ MAX_COLUMNS → AllByRecursion (λ (r : Row). length r ≤ 256) (map (row_of cols targets) ts)
rows_short cols targets [] few = tt
rows_short cols targets (t ∷ ts) few = (omega (arith, row_size cols targets t, few), rows_short cols targets ts few)

rows_size : (cols : List Col) (targets : List Target) (ts : List Tuple) → length cols ≤ MAX_COLUMNS → sum_by length (map (row_of cols targets) ts) ≤ length ts * 256
rows_size cols targets ts few =
    omega (
      arith,
      length-map ts (row_of cols targets),
      sum_by-le length 256 (map (row_of cols targets) ts) (All-from_recursion (λ (r : Row). length r ≤ 256) (map (row_of cols targets) ts) (rows_short cols targets ts few)),
    )

found_few : (schemas : List Schema) (name : List ℕ) (o : Option Schema) → schema_of schemas name ≡ o → AllByRecursion IsSchema schemas → (s : Schema) → o ≡ Some s → length s.cols ≤ MAX_COLUMNS
found_few [] name o e h s is = absurd (cc)
found_few (x ∷ xs) name o e h s is = here (same_name x.name name) e (λ e'. found_few xs name o e' h.1 s is) where
  here : (b : Bool) → (if b then Some x else schema_of xs name) ≡ o → (schema_of xs name ≡ o → length s.cols ≤ MAX_COLUMNS) → length s.cols ≤ MAX_COLUMNS
  here true e' more = let same : x ≡ s = cc in subst (λ (y : Schema). length y.cols ≤ MAX_COLUMNS) same h.0.few
  here false e' more = more e'

insert_cells : (o : Option Schema) (i : Insert) → ((s : Schema) → o ≡ Some s → length s.cols ≤ MAX_COLUMNS) → IsShort (is.Insert i) → cells_of (record { ops = inserted o i }) ≤ MAX_BATCH_CELLS
insert_cells None i few short = omega arith
insert_cells (Some s) i few short =
    let one : cells_of (record { ops = inserted (Some s) i }) ≡ 0 + sum_by length (inserted_rows s i) = refl in
    omega (arith, one, rows_size s.cols (targets_of s.cols i.columns) i.tuples (few s refl), short)

changed_cells : (s : Schema) (change : Change) → cells_in (changed s change) ≡ 0
changed_cells s (changing.AddColumn c) = refl
changed_cells s (changing.EnableDedup d) = refl
changed_cells s changing.DisableDedup = refl

alter_cells : (o : Option Schema) (a : Alter) → cells_of (record { ops = altered o a }) ≤ MAX_BATCH_CELLS
alter_cells None a = omega arith
alter_cells (Some s) a =
    let one : cells_of (record { ops = altered (Some s) a }) ≡ 0 + cells_in (changed s a.change) = refl in
    omega (arith, one, changed_cells s a.change)

stmt_cells : (schemas : List Schema) (s : Stmt) → AllByRecursion IsSchema schemas → IsShort s → cells_of (transaction schemas s) ≤ MAX_BATCH_CELLS
stmt_cells schemas (is.Create c) h short = omega arith
stmt_cells schemas (is.Query q) h short = omega arith
stmt_cells schemas (is.Show name place) h short = omega arith
stmt_cells schemas (is.Alter a) h short = alter_cells (schema_of schemas a.table.text) a
stmt_cells schemas (is.Insert i) h short =
    insert_cells (schema_of schemas i.table.text) i (found_few schemas i.table.text (schema_of schemas i.table.text) refl h) short

accepted : (o : Option Refusal) (made entry : Entry) → judged o made ≡ Ok entry → entry ≡ made
accepted None made entry e = cc
accepted (Some r) made entry e = absurd (cc (e))

pub written_cells : (schemas : List Schema) (s : Stmt) (entry : Entry) → AreSchemas schemas → IsShort s → write schemas s ≡ Ok entry → cells_of entry ≤ MAX_BATCH_CELLS
written_cells schemas s entry sound short e =
    subst (λ (x : Entry). cells_of x ≤ MAX_BATCH_CELLS) (sym (accepted (least (write_faults schemas s)) (transaction schemas s) entry e))
    (stmt_cells schemas s (recursion_from_All IsSchema schemas sound.each) short)

-- ---- few changes

few_inserted : (o : Option Schema) (i : Insert) → length (inserted o i) ≤ 1
few_inserted None i = omega arith
few_inserted (Some s) i = omega arith

few_altered : (o : Option Schema) (a : Alter) → length (altered o a) ≤ 1
few_altered None a = omega arith
few_altered (Some s) a = omega arith

few_made : (schemas : List Schema) (s : Stmt) → length (changes schemas s) ≤ 1
few_made schemas (is.Create c) = omega arith
few_made schemas (is.Query q) = omega arith
few_made schemas (is.Show name place) = omega arith
few_made schemas (is.Insert i) = few_inserted (schema_of schemas i.table.text) i
few_made schemas (is.Alter a) = few_altered (schema_of schemas a.table.text) a

-- a statement makes one change at most
pub written_few : (schemas : List Schema) (s : Stmt) (entry : Entry) → write schemas s ≡ Ok entry → length entry.ops ≤ 1
written_few schemas s entry e =
    subst (λ (x : Entry). length x.ops ≤ 1) (sym (accepted (least (write_faults schemas s)) (transaction schemas s) entry e)) (few_made schemas s)
