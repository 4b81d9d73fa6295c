-- How a change is joined with those before it.
use Rattle.std.proofs.Common.{◌≡◌, ℕ, Bool, true, false, if◌then◌else◌, length, drop, arith, List, [], ◌∷◌, ◌++◌, Option, Some, None, refl, sym, ap, ap₂, ◌∙◌}
use Rattle.std.proofs.lemmas.Bool.{cond-true, cond-false}
use Rattle.std.proofs.lemmas.List.{append_assoc, append-nil}
use Rattle.qd_base.specs.declared.op.Op.{Op}
use Rattle.qd_base.specs.declared.op.Op.TheVariants as op
use Rattle.qd_base.specs.Rows.{Row}
use Rattle.qd_base.specs.Schemas.{same_name}
use Rattle.qd_ilp.specs.Transaction.{joined}
use Rattle.qd_lines.specs.declared.changes.Insertion.{Insertion}
use Rattle.qd_lines.specs.Changes.{inserted, IsPlain, IsClosed, IsParted}
use Rattle.qd_lines.specs.Sinks.{at_last, with_cells, with_row, with_rows}
use Rattle.qd_base.proofs.Alike.{names_equal}

-- of two changes and more the first stays as it is
pub joined-later : (x y : Op) (os : List Op) (o : Op) → joined (x ∷ y ∷ os) o ≡ x ∷ joined (y ∷ os) o
joined-later (op.Create schema) y os o = refl
joined-later (op.AddColumn table col) y os o = refl
joined-later (op.Insert table rows) y os o = refl
joined-later (op.SetKeys table keys) y os o = refl

-- a change is joined with the last
pub joined-last : (os : List Op) (o' o : Op) → joined (os ++ o' ∷ []) o ≡ os ++ joined (o' ∷ []) o
joined-last [] o' o = refl
joined-last (x ∷ []) o' o = joined-later x o' [] o
joined-last (x ∷ y ∷ os) o' o = joined-later x y (os ++ o' ∷ []) o ∙ ap (λ l. x ∷ l) (joined-last (y ∷ os) o' o)

-- a change that inserts no rows comes behind all
pub joined-plain : (os : List Op) (o : Op) → IsPlain o → joined os o ≡ os ++ o ∷ []
joined-plain [] o h = refl
joined-plain (op.Create schema ∷ []) o h = refl
joined-plain (op.AddColumn table col ∷ []) o h = refl
joined-plain (op.SetKeys table keys ∷ []) o h = refl
joined-plain (op.Insert table rows ∷ []) (op.Create schema) h = refl
joined-plain (op.Insert table rows ∷ []) (op.AddColumn other col) h = refl
joined-plain (op.Insert table rows ∷ []) (op.SetKeys other keys) h = refl
joined-plain (op.Insert table rows ∷ []) (op.Insert other more) h = absurd h
joined-plain (x ∷ y ∷ os) o h = joined-later x y os o ∙ ap (λ l. x ∷ l) (joined-plain (y ∷ os) o h)

-- ---- the last change apart

none-closed : IsClosed []
none-closed table rows = refl

behind-plain : (o : Op) (table : List ℕ) (rows : List Row) → IsPlain o → joined (o ∷ []) (op.Insert table rows) ≡ o ∷ op.Insert table rows ∷ []
behind-plain (op.Create schema) table rows h = refl
behind-plain (op.AddColumn other col) table rows h = refl
behind-plain (op.SetKeys other keys) table rows h = refl
behind-plain (op.Insert other more) table rows h = absurd h

pub plain-closed : (os : List Op) (o : Op) → IsPlain o → IsClosed (os ++ o ∷ [])
plain-closed os o h table rows = joined-last os o (op.Insert table rows) ∙ ap (λ l. os ++ l) (behind-plain o table rows h) ∙ sym (append_assoc os (o ∷ []) (op.Insert table rows ∷ []))

-- an insertion into another table comes behind
pub joined-apart : (os : List Op) (table other : List ℕ) (rows more : List Row) → same_name table other ≡ false → joined (os ++ op.Insert table rows ∷ []) (op.Insert other more) ≡ (os ++ op.Insert table rows ∷ []) ++ op.Insert other more ∷ []
joined-apart os table other rows more e =
    joined-last os (op.Insert table rows) (op.Insert other more)
    ∙ ap (λ l. os ++ l) (cond-false (same_name table other) (op.Insert table (rows ++ more) ∷ []) (op.Insert table rows ∷ op.Insert other more ∷ []) e)
    ∙ sym (append_assoc os (op.Insert table rows ∷ []) (op.Insert other more ∷ []))

-- an insertion into the same table is one with it
pub joined-same : (os : List Op) (table other : List ℕ) (rows more : List Row) → same_name table other ≡ true → joined (os ++ op.Insert table rows ∷ []) (op.Insert other more) ≡ os ++ op.Insert table (rows ++ more) ∷ []
joined-same os table other rows more e =
    joined-last os (op.Insert table rows) (op.Insert other more)
    ∙ ap (λ l. os ++ l) (cond-true (same_name table other) (op.Insert table (rows ++ more) ∷ []) (op.Insert table rows ∷ op.Insert other more ∷ []) e)

-- all changes, where the last inserts no rows
pub plain-view : (grown done ops : List Op) (o : Op) → IsPlain o → grown ≡ done ++ o ∷ [] → done ≡ ops → grown ++ [] ≡ joined ops o
plain-view grown done ops o h pushed same = append-nil grown ∙ pushed ∙ ap (λ l. l ++ o ∷ []) same ∙ sym (joined-plain ops o h)

-- all changes, where the last inserts into the table of a name, and a further row begun
pub insert-same : (done ops : List Op) (inserting : Option Insertion) (table text name table' : List ℕ) (rows grown : List Row) (row row' : Row) → done ++ inserted inserting ≡ ops → inserting ≡ Some (record { table = table; rows = rows; row = row }) → text ≡ table → same_name text name ≡ true
    → table' ≡ table → row' ≡ [] → grown ≡ rows ++ row ∷ [] → done ++ op.Insert table' (grown ++ row' ∷ []) ∷ [] ≡ with_row name [] ops
insert-same done ops inserting table text name table' rows grown row row' view is named same stays fresh pushed =
    let split : ops ≡ done ++ op.Insert table (rows ++ row ∷ []) ∷ [] = sym view ∙ ap (λ i. done ++ inserted i) is in
    ap₂ (λ (t : List ℕ) (r : Row). done ++ op.Insert t (grown ++ r ∷ []) ∷ []) stays fresh
    ∙ ap (λ r. done ++ op.Insert table (r ++ [] ∷ []) ∷ []) pushed
    ∙ sym (joined-same done table name (rows ++ row ∷ []) ([] ∷ []) (ap (λ t. same_name t name) (sym named) ∙ same))
    ∙ ap (λ os. with_row name [] os) (sym split)

-- an insertion behind all changes, where the last inserts into another table
pub insert-apart : (done ops whole grown : List Op) (inserting : Option Insertion) (table text name : List ℕ) (rows more : List Row) (row : Row) → done ++ inserted inserting ≡ ops → inserting ≡ Some (record { table = table; rows = rows; row = row }) → text ≡ table → same_name text name ≡ false → whole ≡ done ++ op.Insert table (rows ++ row ∷ []) ∷ [] → grown ≡ whole ++ op.Insert name more ∷ [] → grown ≡ joined ops (op.Insert name more)
insert-apart done ops whole grown inserting table text name rows more row view is named other same pushed =
    let split : ops ≡ done ++ op.Insert table (rows ++ row ∷ []) ∷ [] = sym view ∙ ap (λ i. done ++ inserted i) is in
    pushed ∙ ap (λ l. l ++ op.Insert name more ∷ []) same
    ∙ sym (joined-apart done table name (rows ++ row ∷ []) more (ap (λ t. same_name t name) (sym named) ∙ other))
    ∙ ap (λ os. joined os (op.Insert name more)) (sym split)

-- an insertion behind all changes, where the last inserts no rows
pub insert-behind : (done ops whole grown : List Op) (inserting : Option Insertion) (name : List ℕ) (more : List Row) → done ++ inserted inserting ≡ ops → ((i : Insertion) → inserting ≡ Some i → ⊥) → IsParted done inserting → whole ≡ done ++ inserted inserting → grown ≡ whole ++ op.Insert name more ∷ [] → grown ≡ joined ops (op.Insert name more)
insert-behind done ops whole grown (Some i) name more view none parted same pushed = absurd (none i refl)
insert-behind done ops whole grown None name more view none parted same pushed =
    let split : ops ≡ done = sym view ∙ append-nil done in
    pushed ∙ ap (λ l. l ++ op.Insert name more ∷ []) (same ∙ append-nil done)
    ∙ sym (parted name more) ∙ ap (λ os. joined os (op.Insert name more)) (sym split)

-- ---- cells of the last row

at_last-push : {A : Type 0} (f : A → A) (xs : List A) (x : A) → at_last f (xs ++ x ∷ []) ≡ xs ++ f x ∷ []
at_last-push f [] x = refl
at_last-push f (y ∷ []) x = refl
at_last-push f (y ∷ z ∷ ys) x = ap (λ l. y ∷ l) (at_last-push f (z ∷ ys) x)

-- some change is there behind which another is joined
nonempty : (ops : List Op) (table : List ℕ) (rows : List Row) → (z : Op) × (zs : List Op) × (joined ops (op.Insert table rows) ≡ z ∷ zs)
nonempty [] table rows = (op.Insert table rows, [], refl)
nonempty (op.Create schema ∷ []) table rows = (op.Create schema, op.Insert table rows ∷ [], refl)
nonempty (op.AddColumn other col ∷ []) table rows = (op.AddColumn other col, op.Insert table rows ∷ [], refl)
nonempty (op.SetKeys other keys ∷ []) table rows = (op.SetKeys other keys, op.Insert table rows ∷ [], refl)
nonempty (op.Insert other more ∷ []) table rows = go (same_name other table)
  where
    go : (b : Bool) → (z : Op) × (zs : List Op) × ((if b then op.Insert other (more ++ rows) ∷ [] else op.Insert other more ∷ op.Insert table rows ∷ []) ≡ z ∷ zs)
    go true = (op.Insert other (more ++ rows), [], refl)
    go false = (op.Insert other more, op.Insert table rows ∷ [], refl)
nonempty (x ∷ y ∷ os) table rows = (x, joined (y ∷ os) (op.Insert table rows), joined-later x y os (op.Insert table rows))

cells-behind : (cells : Row) (x z : Op) (zs l : List Op) → l ≡ z ∷ zs → with_cells cells (x ∷ l) ≡ x ∷ with_cells cells l
cells-behind cells x z zs l e = ap (λ k. with_cells cells (x ∷ k)) e ∙ sym (ap (λ k. x ∷ with_cells cells k) e)

-- a row gets further cells
pub with_cells-row : (cells row : Row) (table : List ℕ) (ops : List Op) → with_cells cells (with_row table row ops) ≡ with_row table (row ++ cells) ops
with_cells-row cells row table [] = refl
with_cells-row cells row table (op.Create schema ∷ []) = refl
with_cells-row cells row table (op.AddColumn other col ∷ []) = refl
with_cells-row cells row table (op.SetKeys other keys ∷ []) = refl
with_cells-row cells row table (op.Insert other more ∷ []) = go (same_name other table)
  where
    go : (b : Bool) → with_cells cells (if b then op.Insert other (more ++ row ∷ []) ∷ [] else op.Insert other more ∷ op.Insert table (row ∷ []) ∷ []) ≡ (if b then op.Insert other (more ++ (row ++ cells) ∷ []) ∷ [] else op.Insert other more ∷ op.Insert table ((row ++ cells) ∷ []) ∷ [])
    go true = ap (λ rs. op.Insert other rs ∷ []) (at_last-push (λ (r : Row). r ++ cells) more row)
    go false = refl
with_cells-row cells row table (x ∷ y ∷ os) =
    let n = nonempty (y ∷ os) table (row ∷ []) in
    ap (with_cells cells) (joined-later x y os (op.Insert table (row ∷ [])))
    ∙ cells-behind cells x n.0 n.1 (with_row table row (y ∷ os)) n.2
    ∙ ap (λ l. x ∷ l) (with_cells-row cells row table (y ∷ os))
    ∙ sym (joined-later x y os (op.Insert table ((row ++ cells) ∷ [])))

-- changes that no insertion is joined with have no row that gets cells
closed-kept : (ops : List Op) → IsClosed ops → (cells : Row) → with_cells cells ops ≡ ops
closed-kept [] h cells = refl
closed-kept (op.Create schema ∷ []) h cells = refl
closed-kept (op.AddColumn other col ∷ []) h cells = refl
closed-kept (op.SetKeys other keys ∷ []) h cells = refl
closed-kept (op.Insert other more ∷ []) h cells =
    let e : op.Insert other (more ++ []) ∷ [] ≡ op.Insert other more ∷ op.Insert other [] ∷ [] = sym (cond-true (same_name other other) (op.Insert other (more ++ []) ∷ []) (op.Insert other more ∷ op.Insert other [] ∷ []) (names_equal.refl other)) ∙ h other [] in
    let size : 1 ≡ 2 = ap length e in
    absurd (omega (arith, size))
closed-kept (x ∷ y ∷ os) h cells = ap (λ l. x ∷ l) (closed-kept (y ∷ os) (λ table rows. ap (drop 1) (sym (joined-later x y os (op.Insert table rows)) ∙ h table rows)) cells)

-- all changes, where the last row gets further cells
pub put-last : (done ops : List Op) (inserting : Option Insertion) (table table' : List ℕ) (rows rows' : List Row) (row grown cells : Row) → done ++ inserted inserting ≡ ops → inserting ≡ Some (record { table = table; rows = rows; row = row }) → table' ≡ table → rows' ≡ rows → grown ≡ row ++ cells
    → done ++ op.Insert table' (rows' ++ grown ∷ []) ∷ [] ≡ with_cells cells ops
put-last done ops inserting table table' rows rows' row grown cells view is stays kept pushed =
    let split : ops ≡ done ++ op.Insert table (rows ++ row ∷ []) ∷ [] = sym view ∙ ap (λ i. done ++ inserted i) is in
    ap₂ (λ (t : List ℕ) (rs : List Row). done ++ op.Insert t (rs ++ grown ∷ []) ∷ []) stays kept
    ∙ ap (λ (r : Row). done ++ op.Insert table (rows ++ r ∷ []) ∷ []) pushed
    ∙ ap (λ rs. done ++ op.Insert table rs ∷ []) (sym (at_last-push (λ (r : Row). r ++ cells) rows row))
    ∙ sym (at_last-push (with_rows (at_last (λ (r : Row). r ++ cells))) done (op.Insert table (rows ++ row ∷ [])))
    ∙ ap (with_cells cells) (sym split)

-- all changes, where no row is there that gets cells
pub put-none : (done ops : List Op) (inserting : Option Insertion) (cells : Row) → done ++ inserted inserting ≡ ops → ((i : Insertion) → inserting ≡ Some i → ⊥) → IsParted done inserting → ops ≡ with_cells cells ops
put-none done ops (Some i) cells view none parted = absurd (none i refl)
put-none done ops None cells view none parted =
    let split : ops ≡ done = sym view ∙ append-nil done in
    split ∙ sym (closed-kept done parted cells) ∙ ap (with_cells cells) (sym split)
