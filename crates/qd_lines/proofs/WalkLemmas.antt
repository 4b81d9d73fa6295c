-- What one more line does to a walk.
use Rattle.std.proofs.Common.{◌≡◌, ℕ, zero, suc, ◌+◌, ◌≤◌, Bool, true, false, inl, inr, List, [], ◌∷◌, ◌++◌, Option, Some, None, Result, Ok, Err, OnOk, length, map, drop, get_or, refl, sym, ap, ap₂, ◌∙◌, arith, slice_get, subst, length-append, true≢false, le_of_suc-le-suc}
use Rattle.std.specs.List.{fold}
use Rattle.std.specs.Option.{is_none, IsNone}
use Rattle.std.proofs.Math.Seq.{drop-append_seam}
use Rattle.std.proofs.lemmas.List.{append-nil}
use Rattle.std.proofs.lemmas.List.Sums.{fold-append}
use Rattle.std.proofs.lemmas.Option.{get_or_from_slice_get, none-some}
use Rattle.qd_base.specs.declared.cell.Cell.{Cell}
use Rattle.qd_base.specs.declared.schema.Col.{Col}
use Rattle.qd_base.specs.declared.schema.Schema.{Schema}
use Rattle.qd_base.specs.declared.op.Entry.{Entry}
use Rattle.qd_base.specs.declared.op.Op.{Op}
use Rattle.qd_base.specs.declared.op.Op.TheVariants as op
use Rattle.qd_base.specs.Schemas.{schema_of, schemas_step}
use Rattle.qd_ilp.specs.Line.{Line, Row, Blank, Gives}
use Rattle.qd_base.specs.declared.code.Code.{Code}
use Rattle.qd_base.specs.declared.code.Code.TheVariants as code
use Rattle.qd_ilp.specs.Whole.{Reading, blanks, faulty_line}
use Rattle.qd_ilp.specs.View.{behind_rows, rows_among}
use Rattle.qd_ilp.specs.Transaction.{Work, LeastCode, Says, columns_after, columns_before, designated, joined, line_ops, stamp_column, with_items, work_in}
use Rattle.qd_lines.specs.declared.codes.Place.{Place}
use Rattle.qd_lines.specs.declared.draft.Draft.{Draft}
use Rattle.qd_lines.specs.declared.walk.Walk.{Walk}
use Rattle.qd_lines.specs.Cells.{row_of}
use Rattle.qd_lines.specs.Codes.{IsPlaceOf, KeepsTo, spelled_as}
use Rattle.qd_lines.specs.Drafts.{Draws, Marked, time_name}
use Rattle.qd_lines.specs.Overlays.{Covers}
use Rattle.qd_lines.specs.Sinks.{with_row}
use Rattle.qd_lines.specs.Walks.{Walks, IsDrawn, HasNone, SaysOf, Leads, opened, schema_made}
use Rattle.qd_lines.proofs.CellLemmas.{added_alone}
use Rattle.qd_lines.proofs.SchemaLemmas.{schemas-line}

-- what is drawn up of a line that keeps to the limits
module _ (schemas : List Schema) (row : Row) (p : Place) (d : Draft) (n : ℕ) (h : IsPlaceOf schemas row p) (draws : Draws p.columns row.items d) (k : KeepsTo p d n) where
  marked : Marked p.columns.cols.now (time_name p.columns) row.items d.added d.marks.items false
  marked = subst (λ (b : Bool). Marked p.columns.cols.now (time_name p.columns) row.items d.added d.marks.items b) k.once (draws.few (omega (arith, k.few, draws.sized)))

  pub columns_drawn : columns_before (schema_of schemas row.table) ++ d.added ≡ columns_after (schema_of schemas row.table) row
  columns_drawn = ap (λ (cs : List Col). cs ++ d.added) (sym h.cols) ∙ marked.cols_after ∙ ap (λ (cs : List Col). with_items cs row.items) h.cols

  pub count_drawn : length d.marks.items ≡ length (columns_after (schema_of schemas row.table) row)
  count_drawn = draws.sized ∙ sym (length-append p.columns.cols.now d.added) ∙ ap length marked.cols_after ∙ ap (λ (cs : List Col). length (with_items cs row.items)) h.cols

  pub alone_drawn : p.fresh ≡ true → d.added ≡ with_items [] row.items
  alone_drawn is = go (schema_of schemas row.table) h.cols h.name h.fresh
    where
      go : (o : Option Schema) → p.columns.cols.now ≡ columns_before o → time_name p.columns ≡ designated o → p.fresh ≡ is_none o → d.added ≡ with_items [] row.items
      go None cols name fresh = added_alone row d.added d.marks.items (subst (λ (cs : List Col). Marked cs stamp_column.name row.items d.added d.marks.items false) cols (subst (λ (t : List ℕ). Marked p.columns.cols.now t row.items d.added d.marks.items false) name marked))
      go (Some s) cols name fresh = absurd (true≢false (sym is ∙ fresh))

-- what holds where a call succeeds
pub on_ok : {A E P Q : Type 0} (r : Result A E) → OnOk r P → (P → Q) → OnOk r Q
on_ok (Ok x) h f = f h
on_ok (Err e) h f = tt

-- the changes of a line are those of the definition, by what it finds of its table
pub told : (o : Option Schema) (now : ℕ) (row : Row) (fresh : Bool) (name : List ℕ) (added : List Col) (stamp : Col) (ops : List Op) → fresh ≡ is_none o → name ≡ spelled_as o row.table → stamp ≡ stamp_column → (fresh ≡ true → added ≡ with_items [] row.items) → columns_before o ++ added ≡ columns_after o row
    → with_row name (row_of o now row) (opened fresh name added stamp ops) ≡ fold joined ops (line_ops o now row)
told None now row fresh name added stamp ops is named stamped alone after =
    let r : List Cell = row_of None now row in
    ap (λ (b : Bool). with_row name r (opened b name added stamp ops)) is
    ∙ ap (λ (n : List ℕ). with_row n r (opened true n added stamp ops)) named
    ∙ ap₂ (λ (cs : List Col) (s : Col). with_row row.table r (opened true row.table cs s ops)) (alone is) stamped
told (Some s) now row fresh name added stamp ops is named stamped alone after =
    let r : List Cell = row_of (Some s) now row in
    let behind : added ≡ drop (length s.cols) (with_items s.cols row.items) = sym (drop-append_seam s.cols added) ∙ ap (drop (length s.cols)) after in
    ap (λ (b : Bool). with_row name r (opened b name added stamp ops)) is
    ∙ ap (λ (n : List ℕ). with_row n r (opened false n added stamp ops)) named
    ∙ ap (λ (cs : List Col). with_row s.name r (fold joined ops (map (op.AddColumn s.name) cs))) behind
    ∙ sym (fold-append joined ops (map (λ c. op.AddColumn s.name c) (drop (length s.cols) (with_items s.cols row.items))) (op.Insert s.name (r ∷ []) ∷ []))

module _ (work : Work) (now : ℕ) (row : Row) (old new : Walk) (fresh : Bool) (h : Walks old work) (none : HasNone now work row) (d : IsDrawn now work row old.draft fresh) (cells : new.cells ≡ old.cells + length old.draft.marks.items) (stamp : new.stamp ≡ old.stamp) where
  -- a walk after a line, from the tables
  after : Covers new.overlay (fold schemas_step work.schemas (line_ops (schema_of work.schemas row.table) now row)) → Walks new (work_in now work (Gives row))
  after covers = record {
    covers = covers;
    cells = cells ∙ ap₂ (λ (a b : ℕ). a + b) h.cells d.count;
    few = omega (arith, d.fits, d.count);
    stamp = stamp ∙ h.stamp;
    schemas = schemas-line work.schemas work.cells now row h.schemas none;
  }

  pub walks_fresh : (schema : Schema) → fresh ≡ true → schema ≡ schema_made row.table old.draft.added stamp_column → Covers new.overlay (schemas_step work.schemas (op.Create schema)) → Walks new (work_in now work (Gives row))
  walks_fresh schema is made covers = after (go (schema_of work.schemas row.table) (sym is ∙ d.fresh_is))
    where
      go : (o : Option Schema) → true ≡ is_none o → Covers new.overlay (fold schemas_step work.schemas (line_ops o now row))
      go None e = subst (λ (s : Schema). Covers new.overlay (schemas_step work.schemas (op.Create s))) (made ∙ ap (λ (xs : List Col). schema_made row.table xs stamp_column) (d.alone is)) covers
      go (Some s) e = absurd (true≢false e)

  -- the columns that a line adds are those behind the others
  behind : (s : Schema) → columns_before (Some s) ++ old.draft.added ≡ columns_after (Some s) row → old.draft.added ≡ drop (length s.cols) (with_items s.cols row.items)
  behind s added = sym (drop-append_seam s.cols old.draft.added) ∙ ap (drop (length s.cols)) added

  pub walks_same : fresh ≡ false → old.draft.added ≡ [] → Covers new.overlay work.schemas → Walks new (work_in now work (Gives row))
  walks_same is nothing covers = after (go (schema_of work.schemas row.table) (sym is ∙ d.fresh_is) d.added)
    where
      go : (o : Option Schema) → false ≡ is_none o → columns_before o ++ old.draft.added ≡ columns_after o row → Covers new.overlay (fold schemas_step work.schemas (line_ops o now row))
      go None e added = absurd (true≢false (sym e))
      go (Some s) e added = subst (λ (xs : List Col). Covers new.overlay (fold schemas_step work.schemas (map (λ c. op.AddColumn s.name c) xs ++ op.Insert s.name (row_of (Some s) now row ∷ []) ∷ []))) (sym nothing ∙ behind s added) covers

  pub walks_wider : (name : List ℕ) → fresh ≡ false → ((s : Schema) → schema_of work.schemas row.table ≡ Some s → name ≡ s.name) → Covers new.overlay (fold schemas_step work.schemas (map (op.AddColumn name) old.draft.added)) → Walks new (work_in now work (Gives row))
  walks_wider name is named covers = after (go (schema_of work.schemas row.table) refl (sym is ∙ d.fresh_is) d.added)
    where
      go : (o : Option Schema) → schema_of work.schemas row.table ≡ o → false ≡ is_none o → columns_before o ++ old.draft.added ≡ columns_after o row → Covers new.overlay (fold schemas_step work.schemas (line_ops o now row))
      go None found e added = absurd (true≢false (sym e))
      go (Some s) found e added =
          let adds : map (op.AddColumn name) old.draft.added ≡ map (λ c. op.AddColumn s.name c) (drop (length s.cols) (with_items s.cols row.items)) = ap₂ (λ (t : List ℕ) (xs : List Col). map (op.AddColumn t) xs) (named s found) (behind s added) in
          subst (Covers new.overlay) (ap (fold schemas_step work.schemas) adds ∙ sym (fold-append schemas_step work.schemas (map (λ c. op.AddColumn s.name c) (drop (length s.cols) (with_items s.cols row.items))) (op.Insert s.name (row_of (Some s) now row ∷ []) ∷ []))) covers

pub is_nothing : {X : Type 0} (o : Option X) → true ≡ is_none o → IsNone o
is_nothing None e = refl
is_nothing (Some x) e = absurd (true≢false e)

pub only_one : {X : Type 0} (xs : List X) (x y : X) → xs ≡ y ∷ [] → slice_get xs 0 ≡ Some x → x ≡ y
only_one xs x y e got = sym (get_or_from_slice_get xs 0 x x got) ∙ ap (λ (zs : List _). get_or zs 0 x) e

-- lines that give no row change nothing
pub passed_blanks : (schemas : List Schema) (now : ℕ) (reading : Reading) (work : Work) (n number : ℕ) (rest : List Line) → Leads schemas now reading work number (blanks n ++ rest) → Leads schemas now reading work (number + n) rest
passed_blanks schemas now reading work zero number rest leads = subst (λ (k : ℕ). Leads schemas now reading work k rest) (omega arith) leads
passed_blanks schemas now reading work (suc n) number rest leads =
    subst (λ (k : ℕ). Leads schemas now reading work k rest) (omega arith) (passed_blanks schemas now reading work n (number + 1) rest (λ answer says. leads answer (inr (λ k x. x, says))))

pub length_blanks : (n : ℕ) (rest : List Line) → length (blanks n ++ rest) ≡ n + length rest
length_blanks zero rest = omega arith
length_blanks (suc n) rest = let e = length_blanks n rest in omega arith

-- behind the last row stand lines that give none
pub only_blanks : (lines : List Line) (n : ℕ) → rows_among lines ≤ n → (k : ℕ) × (behind_rows n lines ≡ blanks k)
only_blanks [] zero le = (0, refl)
only_blanks [] (suc n) le = (0, refl)
only_blanks (Blank ∷ ls) zero le = let h = only_blanks ls zero le in (suc h.0, ap (λ (xs : List Line). Blank ∷ xs) h.1)
only_blanks (Blank ∷ ls) (suc n) le = only_blanks ls (suc n) le
only_blanks (Gives row ∷ ls) zero le = absurd (omega arith)
only_blanks (Gives row ∷ ls) (suc n) le = only_blanks ls n (le_of_suc-le-suc le)

module _ (schemas : List Schema) (now : ℕ) (reading : Reading) (work : Work) (number : ℕ) where
  -- a row that is refused, and one that isn't
  pub refused_here : (row : Row) (rest : List Line) (k : Code) → Leads schemas now reading work number (Gives row ∷ rest) → LeastCode work.schemas work.cells now row k → SaysOf schemas now reading (Err (k, number))
  refused_here row rest k leads least = leads (Err (k, number)) (inl (k, least, refl))

  pub passed_here : (row : Row) (rest : List Line) → Leads schemas now reading work number (Gives row ∷ rest) → HasNone now work row → Leads schemas now reading (work_in now work (Gives row)) (number + 1) rest
  passed_here row rest leads none answer says = leads answer (inr (λ k refused. none k refused.0, says))

  -- the first line outside the grammar, and the end of a text without one
  pub faulty_here : (line : ℕ) → Leads schemas now reading work number [] → number ≡ length reading.lines + 1 → Some line ≡ faulty_line reading → SaysOf schemas now reading (Err (code.LineSyntax, line))
  faulty_here line leads at is = leads (Err (code.LineSyntax, line)) (go reading.whole is)
    where
      go : (whole : Bool) → Some line ≡ faulty_line (record { lines = reading.lines; whole = whole }) → Says now work number [] whole (Err (code.LineSyntax, line))
      go true e = absurd (none-some line (sym e))
      go false e = let same : line ≡ length reading.lines + 1 = cc in ap (λ (n : ℕ). Err (code.LineSyntax, n)) (omega (arith, same, at))

  pub whole_here : (entry : Entry) → Leads schemas now reading work number [] → entry.ops ≡ work.ops → None ≡ faulty_line reading → SaysOf schemas now reading (Ok entry)
  whole_here entry leads is none = leads (Ok entry) (go reading.whole none)
    where
      go : (whole : Bool) → None ≡ faulty_line (record { lines = reading.lines; whole = whole }) → Says now work number [] whole (Ok entry)
      go true e = ap (λ (ops : List Op). Ok (record { ops = ops })) is
      go false e = absurd (none-some (length reading.lines + 1) e)

  -- nothing but lines that give no row is left
  pub left_over : (n left : ℕ) → Leads schemas now reading work number (behind_rows n reading.lines) → rows_among reading.lines ≤ n → left ≡ length (behind_rows n reading.lines) → Leads schemas now reading work (number + left) []
  left_over n left leads le size =
      let h = only_blanks reading.lines n le in
      let whole : behind_rows n reading.lines ≡ blanks h.0 ++ [] = h.1 ∙ sym (append-nil (blanks h.0)) in
      let same : left ≡ h.0 = omega (arith, size, ap length whole, length_blanks h.0 []) in
      subst (λ (k : ℕ). Leads schemas now reading work (number + k) []) (sym same) (passed_blanks schemas now reading work h.0 number [] (subst (Leads schemas now reading work number) whole leads))
