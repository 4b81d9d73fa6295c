-- The transaction of lines leaves the database that the lines leave one after the other.
use Rattle.std.proofs.Common.{◌≡◌, ℕ, Bool, true, false, if◌then◌else◌, List, [], ◌∷◌, ◌++◌, Ok, refl, sym, ap, ◌∙◌, fold}
use Rattle.std.proofs.lemmas.List.Sums.{fold-append}
use Rattle.qd_base.specs.declared.schema.Schema.{Schema}
use Rattle.qd_base.specs.declared.op.Op.{Op}
use Rattle.qd_base.specs.declared.op.Op.TheVariants as op
use Rattle.qd_base.specs.declared.op.Entry.{Entry}
use Rattle.qd_base.specs.Rows.{Row as Cells, put}
use Rattle.qd_base.specs.Schemas.{same_name, at_name, schema_of, schemas_step}
use Rattle.qd_base.specs.Database.{Database, StoredTable, filled, step, schemas_of}
use Rattle.qd_base.specs.Replay.{commit}
use Rattle.qd_base.proofs.Alike.{alike}
use Rattle.qd_base.proofs.Tables.{schemas_of-commit}
use Rattle.qd_ilp.specs.Line.{Line, Blank, Gives}
use Rattle.qd_ilp.specs.Transaction.{Says, Work, joined, line_ops, start, work_in}
use Rattle.qd_lines.specs.Laws.{after_line}
use Rattle.qd_lines.proofs.FitLemmas.{made}

filled-twice : (rows more : List Cells) (t : StoredTable) → filled (rows ++ more) t ≡ filled more (filled rows t)
filled-twice rows more t = ap (λ (rs : List Cells). let u : StoredTable = record { schema = t.schema; rows = rs } in u) (fold-append (put t.schema.time_col t.schema.keys) t.rows rows more)

abbrev fill : List Cells → List ℕ → Database → Database
fill rows table db = at_name (λ (t : StoredTable). t.schema.name) (filled rows) table db

-- two insertions into one table do what one of all rows does
one-insertion : (table other : List ℕ) (rows more : List Cells) → same_name table other ≡ true → (db : Database) → fill (rows ++ more) table db ≡ fill more other (fill rows table db)
one-insertion table other rows more h [] = refl
one-insertion table other rows more h (t ∷ ts) = go (same_name t.schema.name table) (sym (alike table other t.schema.name h)) (one-insertion table other rows more h ts)
  where
    go : (b : Bool) → same_name t.schema.name other ≡ b → fill (rows ++ more) table ts ≡ fill more other (fill rows table ts)
        → (if b then filled (rows ++ more) t ∷ ts else t ∷ fill (rows ++ more) table ts) ≡ fill more other (if b then filled rows t ∷ ts else t ∷ fill rows table ts)
    go true e ih = rw e (ap (λ (x : StoredTable). x ∷ ts) (filled-twice rows more t))
    go false e ih = rw e (ap (λ (l : Database). t ∷ l) ih)

joined-acts : (db : Database) (ops : List Op) (o : Op) → fold step db (joined ops o) ≡ step (fold step db ops) o
joined-acts db [] o = refl
joined-acts db (op.Create schema ∷ os) o = joined-acts (step db (op.Create schema)) os o
joined-acts db (op.AddColumn table col ∷ os) o = joined-acts (step db (op.AddColumn table col)) os o
joined-acts db (op.SetKeys table keys ∷ os) o = joined-acts (step db (op.SetKeys table keys)) os o
joined-acts db (op.Insert table rows ∷ y ∷ os) o = joined-acts (step db (op.Insert table rows)) (y ∷ os) o
joined-acts db (op.Insert table rows ∷ []) (op.Create schema) = refl
joined-acts db (op.Insert table rows ∷ []) (op.AddColumn other col) = refl
joined-acts db (op.Insert table rows ∷ []) (op.SetKeys other keys) = refl
joined-acts db (op.Insert table rows ∷ []) (op.Insert other more) = go (same_name table other) refl
  where
    go : (b : Bool) → same_name table other ≡ b → fold step db (if b then op.Insert table (rows ++ more) ∷ [] else op.Insert table rows ∷ op.Insert other more ∷ []) ≡ step (step db (op.Insert table rows)) (op.Insert other more)
    go true e = one-insertion table other rows more e db
    go false e = refl

grown-acts : (db : Database) (ops os : List Op) → fold step db (fold joined ops os) ≡ fold step (fold step db ops) os
grown-acts db ops [] = refl
grown-acts db ops (o ∷ os) = grown-acts db (joined ops o) os ∙ ap (λ (d : Database). fold step d os) (joined-acts db ops o)

-- a line acts on the database that the lines before it have left
line-acts : (now : ℕ) (db : Database) (w : Work) (line : Line) → w.schemas ≡ schemas_of (fold step db w.ops) → fold step db (work_in now w line).ops ≡ after_line now (fold step db w.ops) line
line-acts now db w Blank same = refl
line-acts now db w (Gives row) same =
    grown-acts db w.ops (line_ops (schema_of w.schemas row.table) now row)
    ∙ ap (λ (ss : List Schema). fold step (fold step db w.ops) (line_ops (schema_of ss row.table) now row)) same

line-schemas : (now : ℕ) (db : Database) (w : Work) (line : Line) → w.schemas ≡ schemas_of (fold step db w.ops) → (work_in now w line).schemas ≡ schemas_of (fold step db (work_in now w line).ops)
line-schemas now db w Blank same = same
line-schemas now db w (Gives row) same =
    let os : List Op = line_ops (schema_of w.schemas row.table) now row in
    ap (λ (ss : List Schema). fold schemas_step ss os) same ∙ sym (schemas_of-commit (fold step db w.ops) os) ∙ ap schemas_of (sym (grown-acts db w.ops os))

in-turn : (now : ℕ) (db : Database) (w : Work) (lines : List Line) → w.schemas ≡ schemas_of (fold step db w.ops) → fold step db (fold (work_in now) w lines).ops ≡ fold (after_line now) (fold step db w.ops) lines
in-turn now db w [] same = refl
in-turn now db w (line ∷ lines) same = in-turn now db (work_in now w line) lines (line-schemas now db w line same) ∙ ap (λ (d : Database). fold (after_line now) d lines) (line-acts now db w line same)

pub lines-in-turn : (now : ℕ) (db : Database) (number : ℕ) (lines : List Line) (whole : Bool) (entry : Entry) → Says now (start (schemas_of db)) number lines whole (Ok entry) → commit db entry ≡ fold (after_line now) db lines
lines-in-turn now db number lines whole entry says =
    ap (commit db) (made now number (schemas_of db) lines whole entry says).1 ∙ in-turn now db (start (schemas_of db)) lines refl
