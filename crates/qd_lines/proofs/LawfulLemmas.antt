-- What lines do is lawful, one by one and all together.
use Rattle.std.proofs.Common.{◌≡◌, ℕ, ◌+◌, ◌<◌, ◌≤◌, inl, inr, Bool, true, false, cond, List, [], ◌∷◌, ◌++◌, Option, Some, None, All, Result, Ok, Err, length, map, drop, refl, sym, ap, ◌∙◌, subst, arith, fold}
use Rattle.std.specs.Prelude.{codes}
use Rattle.std.specs.List.{AllByRecursion, sum_by}
use Rattle.std.proofs.lemmas.List.{length-map}
use Rattle.std.proofs.lemmas.List.Elements.{All-from_recursion}
use Rattle.std.proofs.lemmas.List.Sums.{sum_by-cons, sum_by-append}
use Rattle.qd_base.specs.declared.limits.TheConstants.{MAX_BATCH_CELLS}
use Rattle.qd_base.specs.declared.cell.Cell.{Cell}
use Rattle.qd_base.specs.declared.code.Code.{Code}
use Rattle.qd_base.specs.declared.schema.Col.{Col}
use Rattle.qd_base.specs.declared.schema.Schema.{Schema}
use Rattle.qd_base.specs.declared.op.Op.{Op}
use Rattle.qd_base.specs.declared.op.Op.TheVariants as op
use Rattle.qd_base.specs.declared.op.Entry.{Entry}
use Rattle.qd_base.specs.Rows.{Row as Cells}
use Rattle.qd_base.specs.Schemas.{same_name, schema_of, schemas_step, SetsNoKeys}
use Rattle.qd_base.specs.Lawful.{AreLawful, AreSchemas, IsRowOf, cells_in, cells_of}
use Rattle.qd_base.proofs.Alike.{names_equal}
use Rattle.qd_base.proofs.Lists.{each-both, each-weaker}
use Rattle.qd_base.proofs.Tables.{position-found}
use Rattle.qd_ilp.specs.Line.{Item, Row, Line, Blank, Gives}
use Rattle.qd_ilp.specs.Transaction.{Refuses, Says, Work, cell_in, clashes, columns_after, created, designated, is_float, is_long_text, line_ops, micros_of, moment_of, name_at, start, with_items, work_in}
use Rattle.qd_ilp.specs.Whole.{Reading, IsReading}
use Rattle.qd_lines.specs.Laws.{IsReadable, IsRowReadable, IsLineReadable, KeepLaws}
use Rattle.qd_lines.specs.Codes.{IsCodeless}
use Rattle.qd_lines.proofs.AnswerLemmas.{none_refused}
use Rattle.qd_lines.proofs.CleanLemmas.{Clean, clean}
use Rattle.qd_lines.proofs.ColumnLemmas.{added_by, with_items_added}
use Rattle.qd_lines.proofs.JoinLemmas.{grown-cells, grown-keys, grown-lawful, grown-schemas}
use Rattle.qd_lines.proofs.ReadableLemmas.{reading-readable}
use Rattle.qd_lines.proofs.RowLemmas.{IsFair, row-made, row-there, timely}
use Rattle.qd_lines.proofs.SchemaLemmas.{added-there, adds, adds-lawful, as-many, create-lawful, found-itself, new-there, schema-there, schemas-line}

-- ---- one line

found-last : (schemas : List Schema) (name : List ℕ) (s : Schema) → schema_of schemas name ≡ None → same_name s.name name ≡ true → schema_of (schemas ++ s ∷ []) name ≡ Some s
found-last [] name s none is = rw is refl
found-last (x ∷ xs) name s none is = go (same_name x.name name) refl (found-last xs name s) none
  where
    go : (b : Bool) → same_name x.name name ≡ b → (schema_of xs name ≡ None → same_name s.name name ≡ true → schema_of (xs ++ s ∷ []) name ≡ Some s) → cond b (Some x) (schema_of xs name) ≡ None → schema_of (x ∷ (xs ++ s ∷ [])) name ≡ Some s
    go true e ih n = absurd cc
    go false e ih n = rw e (ih n is)

-- an insertion of one row that its table takes
insert-lawful : (schemas : List Schema) (table : List ℕ) (s : Schema) (row : Cells) → schema_of schemas table ≡ Some s → IsRowOf s row → AreLawful schemas (op.Insert table (row ∷ []) ∷ [])
insert-lawful schemas table s row e h =
    (position-found (λ (t : Schema). same_name t.name table) (λ t. Unit {0}) schemas (rw e tt), rw e (All-from_recursion (IsRowOf s) (row ∷ []) (h, tt)), tt)

fair-values : (schemas : List Schema) (cells now : ℕ) (row : Row) → Clean schemas cells now row → IsRowReadable row → AllByRecursion (λ (i : Item). IsFair i.value) row.items
fair-values schemas cells now row c r =
    each-weaker (λ (i : Item). ((is_float i.value ≡ false) × (is_long_text i.value ≡ false)) × IsReadable i.value) (λ (i : Item). IsFair i.value) (λ i h. record { whole = h.0.0; short = h.0.1; readable = h.1 }) row.items
    (each-both (λ (i : Item). (is_float i.value ≡ false) × (is_long_text i.value ≡ false)) (λ (i : Item). IsReadable i.value) row.items
    (each-both (λ (i : Item). is_float i.value ≡ false) (λ (i : Item). is_long_text i.value ≡ false) row.items c.float c.short) r.values)

line-lawful : (schemas : List Schema) (cells now : ℕ) (row : Row) → AreSchemas schemas → IsRowReadable row → Clean schemas cells now row → (o : Option Schema) → schema_of schemas row.table ≡ o → AreLawful schemas (line_ops o now row)
line-lawful schemas cells now row are r c None e =
    let ok = create-lawful schemas cells now row c e in
    let others : AllByRecursion (λ (i : Item). same_name (codes "timestamp") i.name ≡ false) row.items = rw e at c.others in
    let fits : IsRowOf (created row) _ = row-made row (micros_of (moment_of now row.moment)) (timely now row.moment r.moment) c.distinct (fair-values schemas cells now row c r) others in
    (ok.0, ok.1, insert-lawful (schemas ++ created row ∷ []) row.table (created row) _ (found-last schemas row.table (created row) e (names_equal.refl row.table)) fits)
line-lawful schemas cells now row are r c (Some s) e =
    let is = (schema-there schemas row.table s are e).0 in
    let others : AllByRecursion (λ (i : Item). same_name (designated (Some s)) i.name ≡ false) row.items = rw e at c.others in
    let fits : AllByRecursion (λ (i : Item). clashes (Some s) i ≡ false) row.items = rw e at c.fits in
    let more : List Col = added_by s.cols row.items in
    let f : Col → Cell = cell_in (name_at s.cols s.time_col) row (micros_of (moment_of now row.moment)) in
    let taken : IsRowOf (record s { cols = with_items s.cols row.items }) (map f (with_items s.cols row.items)) =
    row-there s row (micros_of (moment_of now row.moment)) (timely now row.moment r.moment) is c.distinct (fair-values schemas cells now row c r) others fits (with_items s.cols row.items) refl more (with_items_added s.cols row.items) in
    let same : (cols : List Col) → with_items s.cols row.items ≡ cols → IsRowOf (record s { cols = cols }) (map f (with_items s.cols row.items)) = λ cols w. subst (λ (cs : List Col). IsRowOf (record s { cols = cs }) (map f (with_items s.cols row.items))) w taken in
    let lawful : AreLawful schemas (adds s.name more ++ op.Insert s.name (map f (with_items s.cols row.items) ∷ []) ∷ []) =
    adds-lawful s.name schemas s more (op.Insert s.name (map f (with_items s.cols row.items) ∷ []) ∷ []) (found-itself schemas row.table s are e) (new-there schemas cells now row c s e)
    (λ ss found. insert-lawful ss s.name (record s { cols = s.cols ++ more }) (map f (with_items s.cols row.items)) found (same (s.cols ++ more) (with_items_added s.cols row.items))) in
    subst (λ (cs : List Col). AreLawful schemas (adds s.name cs ++ op.Insert s.name (map f (with_items s.cols row.items) ∷ []) ∷ [])) (sym (added-there schemas cells now row c s e)) lawful

-- a line sets no keys
adds-keys : (name : List ℕ) (cs : List Col) (rest : List Op) → SetsNoKeys rest → SetsNoKeys (adds name cs ++ rest)
adds-keys name [] rest h = h
adds-keys name (c ∷ cs) rest h = (refl, adds-keys name cs rest h)

line-keys : (o : Option Schema) (now : ℕ) (row : Row) → SetsNoKeys (line_ops o now row)
line-keys None now row = (refl, (refl, tt))
line-keys (Some s) now row =
    let cells : Cells = map (cell_in (name_at s.cols s.time_col) row (micros_of (moment_of now row.moment))) (with_items s.cols row.items) in
    adds-keys s.name (drop (length s.cols) (with_items s.cols row.items)) (op.Insert s.name (cells ∷ []) ∷ []) (refl, tt)

pub line-keeps : (now cells : ℕ) (schemas : List Schema) (row : Row) → AreSchemas schemas → IsRowReadable row → IsCodeless schemas cells now row → KeepLaws schemas (line_ops (schema_of schemas row.table) now row)
line-keeps now cells schemas row are r none = record {
  lawful = line-lawful schemas cells now row are r (clean schemas cells now row none) (schema_of schemas row.table) refl;
  after = schemas-line schemas cells now row are none;
  keys = line-keys (schema_of schemas row.table) now row;
}

-- its cells are as many as the columns after it
adds-cells : (name : List ℕ) (cs : List Col) → sum_by cells_in (adds name cs) ≡ 0
adds-cells name [] = refl
adds-cells name (c ∷ cs) = let a = sum_by-cons cells_in (op.AddColumn name c) (adds name cs) in let b = adds-cells name cs in omega arith

one-row : (cs : List Col) (f : Col → Cell) → sum_by length (map f cs ∷ []) ≡ length cs
one-row cs f = sum_by-cons length (map f cs) [] ∙ (let e = length-map cs f in omega arith)

line-cells : (schemas : List Schema) (cells now : ℕ) (row : Row) → Clean schemas cells now row → (o : Option Schema) → schema_of schemas row.table ≡ o → sum_by cells_in (line_ops o now row) ≡ length (columns_after o row)
line-cells schemas cells now row c None e =
    let others : AllByRecursion (λ (i : Item). same_name (codes "timestamp") i.name ≡ false) row.items = rw e at c.others in
    let f : Col → Cell = cell_in (codes "timestamp") row (micros_of (moment_of now row.moment)) in
    let a = sum_by-cons cells_in (op.Create (created row)) (op.Insert row.table (map f (created row).cols ∷ []) ∷ []) in
    let one = one-row (created row).cols f in
    let many = as-many row others in
    omega arith
line-cells schemas cells now row c (Some s) e =
    let cs : List Col = drop (length s.cols) (with_items s.cols row.items) in
    let f : Col → Cell = cell_in (name_at s.cols s.time_col) row (micros_of (moment_of now row.moment)) in
    sum_by-append cells_in (adds s.name cs) (op.Insert s.name (map f (with_items s.cols row.items) ∷ []) ∷ [])
    ∙ (let none = adds-cells s.name cs in let one = one-row (with_items s.cols row.items) f in omega arith)

-- ---- all lines

-- what the lines so far have made of these schemas
record Worked (schemas : List Schema) (w : Work) : Type 0 where
  lawful : AreLawful schemas w.ops
  same : w.schemas ≡ fold schemas_step schemas w.ops
  cells : w.cells ≡ sum_by cells_in w.ops
  few : w.cells ≤ MAX_BATCH_CELLS
  are : AreSchemas w.schemas
  keys : SetsNoKeys w.ops

worked-line : (now : ℕ) (schemas : List Schema) (w : Work) (line : Line) → Worked schemas w → IsLineReadable line → ((c : Code) → Refuses now w line c → ⊥) → Worked schemas (work_in now w line)
worked-line now schemas w Blank h r none = h
worked-line now schemas w (Gives row) h r none =
    let no : IsCodeless w.schemas w.cells now row = none_refused now w row none in
    let c : Clean w.schemas w.cells now row = clean w.schemas w.cells now row no in
    let ops : List Op = line_ops (schema_of w.schemas row.table) now row in
    let keeps : KeepLaws w.schemas ops = line-keeps now w.cells w.schemas row h.are r no in
    record {
      lawful = grown-lawful schemas w.ops ops h.lawful (subst (λ ss. AreLawful ss ops) h.same keeps.lawful);
      same = ap (λ ss. fold schemas_step ss ops) h.same ∙ sym (grown-schemas schemas w.ops ops);
      cells = let a = grown-cells w.ops ops in let b = line-cells w.schemas w.cells now row c (schema_of w.schemas row.table) refl in let e : w.cells ≡ sum_by cells_in w.ops = h.cells in omega arith;
      few = c.few;
      are = keeps.after;
      keys = grown-keys w.ops ops h.keys keeps.keys;
    }

lines-worked : (now : ℕ) (schemas : List Schema) (w : Work) (number : ℕ) (lines : List Line) (whole : Bool) (entry : Entry) → Worked schemas w → AllByRecursion IsLineReadable lines → Says now w number lines whole (Ok entry) → KeepLaws schemas entry.ops × (cells_of entry ≤ MAX_BATCH_CELLS)
lines-worked now schemas w number [] true entry h r says =
    let same : entry.ops ≡ w.ops = ap ops_of says in (
      record { lawful = subst (λ (os : List Op). AreLawful schemas os) (sym same) h.lawful; after = subst (λ (ss : List Schema). AreSchemas ss) (h.same ∙ ap (λ (os : List Op). fold schemas_step schemas os) (sym same)) h.are; keys = subst (λ (os : List Op). SetsNoKeys os) (sym same) h.keys },
      (let a : w.cells ≡ sum_by cells_in w.ops = h.cells in let b : sum_by cells_in entry.ops ≡ sum_by cells_in w.ops = ap (λ (os : List Op). sum_by cells_in os) same in let le : w.cells ≤ MAX_BATCH_CELLS = h.few in omega arith),
    )
  where
    ops_of : Result Entry (Code × ℕ) → List Op
    ops_of (Ok e) = e.ops
    ops_of (Err e) = []
lines-worked now schemas w number [] false entry h r says = absurd cc
lines-worked now schemas w number (line ∷ lines) whole entry h r (inl k) = absurd (let e = k.2 in cc)
lines-worked now schemas w number (line ∷ lines) whole entry h r (inr k) = lines-worked now schemas (work_in now w line) (number + 1) lines whole entry (worked-line now schemas w line h r.0 k.0) r.1 k.1

pub lines-keep : (now : ℕ) (schemas : List Schema) (number : ℕ) (lines : List Line) (whole : Bool) (entry : Entry) → AreSchemas schemas → AllByRecursion IsLineReadable lines → Says now (start schemas) number lines whole (Ok entry) → KeepLaws schemas entry.ops × (cells_of entry ≤ MAX_BATCH_CELLS)
lines-keep now schemas number lines whole entry are r says = lines-worked now schemas (start schemas) number lines whole entry (record { lawful = tt; same = refl; cells = refl; few = omega arith; are = are; keys = tt }) r says

-- the lines of a text of bytes
pub text-keeps : (now : ℕ) (schemas : List Schema) (number : ℕ) (text : List ℕ) (reading : Reading) (entry : Entry) → AreSchemas schemas → All (λ b. b < 256) text → IsReading text reading → Says now (start schemas) number reading.lines reading.whole (Ok entry)
    → KeepLaws schemas entry.ops × (cells_of entry ≤ MAX_BATCH_CELLS)
text-keeps now schemas number text reading entry are bytes read says = lines-keep now schemas number reading.lines reading.whole entry are (reading-readable text reading bytes read) says
