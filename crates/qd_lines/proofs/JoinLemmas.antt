-- Changes that are joined with others stay lawful, do the same to schemas and insert as many rows and cells.
use Rattle.std.proofs.Common.{◌≡◌, ℕ, length-append, ◌+◌, Bool, true, false, if◌then◌else◌, List, [], ◌∷◌, ◌++◌, Option, Some, None, IfSome, All, length, refl, sym, ap, ◌∙◌, subst, arith, fold}
use Rattle.std.specs.List.{sum_by}
use Rattle.std.proofs.lemmas.List.Elements.{All-append}
use Rattle.std.proofs.lemmas.List.Sums.{sum_by-append, sum_by-cons}
use Rattle.qd_base.specs.declared.schema.Schema.{Schema}
use Rattle.qd_base.specs.declared.op.Op.{Op}
use Rattle.qd_base.specs.declared.op.Op.TheVariants as op
use Rattle.qd_base.specs.Rows.{Row}
use Rattle.qd_base.specs.Schemas.{same_name, schema_of, schemas_step, sets_keys, SetsNoKeys}
use Rattle.qd_base.specs.Lawful.{AreLawful, IsRowOf, cells_in}
use Rattle.qd_ilp.specs.Transaction.{joined}
use Rattle.qd_lines.specs.Laws.{rows_in}
use Rattle.qd_lines.proofs.OverlayLemmas.{found-alike}

both_fit : (o : Option Schema) (rows more : List Row) → IfSome o (λ s. All (IsRowOf s) rows) → IfSome o (λ s. All (IsRowOf s) more) → IfSome o (λ s. All (IsRowOf s) (rows ++ more))
both_fit None rows more h k = tt
both_fit (Some s) rows more h k = All-append (IsRowOf s) rows more h k

joined-lawful : (schemas : List Schema) (ops : List Op) (o : Op) → AreLawful schemas ops → AreLawful (fold schemas_step schemas ops) (o ∷ []) → AreLawful schemas (joined ops o)
joined-lawful schemas [] o h k = k
joined-lawful schemas (op.Create schema ∷ os) o h k = (h.0, h.1, joined-lawful (schemas_step schemas (op.Create schema)) os o h.2 k)
joined-lawful schemas (op.AddColumn table col ∷ os) o h k = (h.0, h.1, joined-lawful (schemas_step schemas (op.AddColumn table col)) os o h.2 k)
joined-lawful schemas (op.SetKeys table keys ∷ os) o h k = (h.0, h.1, joined-lawful (schemas_step schemas (op.SetKeys table keys)) os o h.2 k)
joined-lawful schemas (op.Insert table rows ∷ y ∷ os) o h k = (h.0, h.1, joined-lawful schemas (y ∷ os) o h.2 k)
joined-lawful schemas (op.Insert table rows ∷ []) (op.Create schema) h k = (h.0, h.1, k)
joined-lawful schemas (op.Insert table rows ∷ []) (op.AddColumn other col) h k = (h.0, h.1, k)
joined-lawful schemas (op.Insert table rows ∷ []) (op.SetKeys other keys) h k = (h.0, h.1, k)
joined-lawful schemas (op.Insert table rows ∷ []) (op.Insert other more) h k = go (same_name table other) refl
  where
    go : (b : Bool) → same_name table other ≡ b → AreLawful schemas (if b then op.Insert table (rows ++ more) ∷ [] else op.Insert table rows ∷ op.Insert other more ∷ [])
    go true e = (h.0, both_fit (schema_of schemas table) rows more h.1 (subst (λ (o : Option Schema). IfSome o (λ s. All (IsRowOf s) more)) (sym (found-alike schemas table other e)) k.1), tt)
    go false e = (h.0, h.1, k)

joined-schemas : (schemas : List Schema) (ops : List Op) (o : Op) → fold schemas_step schemas (joined ops o) ≡ schemas_step (fold schemas_step schemas ops) o
joined-schemas schemas [] o = refl
joined-schemas schemas (op.Create schema ∷ os) o = joined-schemas (schemas_step schemas (op.Create schema)) os o
joined-schemas schemas (op.AddColumn table col ∷ os) o = joined-schemas (schemas_step schemas (op.AddColumn table col)) os o
joined-schemas schemas (op.SetKeys table keys ∷ os) o = joined-schemas (schemas_step schemas (op.SetKeys table keys)) os o
joined-schemas schemas (op.Insert table rows ∷ y ∷ os) o = joined-schemas schemas (y ∷ os) o
joined-schemas schemas (op.Insert table rows ∷ []) (op.Create schema) = refl
joined-schemas schemas (op.Insert table rows ∷ []) (op.AddColumn other col) = refl
joined-schemas schemas (op.Insert table rows ∷ []) (op.SetKeys other keys) = refl
joined-schemas schemas (op.Insert table rows ∷ []) (op.Insert other more) = go (same_name table other)
  where
    go : (b : Bool) → fold schemas_step schemas (if b then op.Insert table (rows ++ more) ∷ [] else op.Insert table rows ∷ op.Insert other more ∷ []) ≡ schemas
    go true = refl
    go false = refl

joined-keys : (ops : List Op) (o : Op) → SetsNoKeys ops → sets_keys o ≡ false → SetsNoKeys (joined ops o)
joined-keys [] o h k = (k, tt)
joined-keys (op.Create schema ∷ os) o h k = (h.0, joined-keys os o h.1 k)
joined-keys (op.AddColumn table col ∷ os) o h k = (h.0, joined-keys os o h.1 k)
joined-keys (op.SetKeys table keys ∷ os) o h k = (h.0, joined-keys os o h.1 k)
joined-keys (op.Insert table rows ∷ y ∷ os) o h k = (h.0, joined-keys (y ∷ os) o h.1 k)
joined-keys (op.Insert table rows ∷ []) (op.Create schema) h k = (h.0, (k, tt))
joined-keys (op.Insert table rows ∷ []) (op.AddColumn other col) h k = (h.0, (k, tt))
joined-keys (op.Insert table rows ∷ []) (op.SetKeys other keys) h k = (h.0, (k, tt))
joined-keys (op.Insert table rows ∷ []) (op.Insert other more) h k = go (same_name table other)
  where
    go : (b : Bool) → SetsNoKeys (if b then op.Insert table (rows ++ more) ∷ [] else op.Insert table rows ∷ op.Insert other more ∷ [])
    go true = (refl, tt)
    go false = (refl, (refl, tt))

-- A number of each change, which is the sum of both where two insertions are joined.
module _ (f : Op → ℕ) (adds : (table other : List ℕ) (rows more : List Row) → f (op.Insert table (rows ++ more)) ≡ f (op.Insert table rows) + f (op.Insert other more)) where
  first : (x : Op) (os js : List Op) (o : Op) → sum_by f js ≡ sum_by f os + f o → sum_by f (x ∷ js) ≡ sum_by f (x ∷ os) + f o
  first x os js o h = let a = sum_by-cons f x js in let b = sum_by-cons f x os in omega arith

  joined-sum : (ops : List Op) (o : Op) → sum_by f (joined ops o) ≡ sum_by f ops + f o
  joined-sum [] o = refl
  joined-sum (op.Create schema ∷ os) o = first (op.Create schema) os (joined os o) o (joined-sum os o)
  joined-sum (op.AddColumn table col ∷ os) o = first (op.AddColumn table col) os (joined os o) o (joined-sum os o)
  joined-sum (op.SetKeys table keys ∷ os) o = first (op.SetKeys table keys) os (joined os o) o (joined-sum os o)
  joined-sum (op.Insert table rows ∷ y ∷ os) o = first (op.Insert table rows) (y ∷ os) (joined (y ∷ os) o) o (joined-sum (y ∷ os) o)
  joined-sum (op.Insert table rows ∷ []) (op.Create schema) = refl
  joined-sum (op.Insert table rows ∷ []) (op.AddColumn other col) = refl
  joined-sum (op.Insert table rows ∷ []) (op.SetKeys other keys) = refl
  joined-sum (op.Insert table rows ∷ []) (op.Insert other more) = go (same_name table other)
    where
      go : (b : Bool) → sum_by f (if b then op.Insert table (rows ++ more) ∷ [] else op.Insert table rows ∷ op.Insert other more ∷ []) ≡ sum_by f (op.Insert table rows ∷ []) + f (op.Insert other more)
      go true = let e = adds table other rows more in omega arith
      go false = refl

  grown-sum : (ops os : List Op) → sum_by f (fold joined ops os) ≡ sum_by f ops + sum_by f os
  grown-sum ops [] = omega arith
  grown-sum ops (o ∷ os) = let a = grown-sum (joined ops o) os in let b = joined-sum ops o in let c = sum_by-cons f o os in omega arith

-- ---- several changes

pub grown-schemas : (schemas : List Schema) (ops os : List Op) → fold schemas_step schemas (fold joined ops os) ≡ fold schemas_step (fold schemas_step schemas ops) os
grown-schemas schemas ops [] = refl
grown-schemas schemas ops (o ∷ os) = grown-schemas schemas (joined ops o) os ∙ ap (λ ss. fold schemas_step ss os) (joined-schemas schemas ops o)

pub grown-lawful : (schemas : List Schema) (ops os : List Op) → AreLawful schemas ops → AreLawful (fold schemas_step schemas ops) os → AreLawful schemas (fold joined ops os)
grown-lawful schemas ops [] h k = h
grown-lawful schemas ops (o ∷ os) h k =
    grown-lawful schemas (joined ops o) os (joined-lawful schemas ops o h (k.0, k.1, tt)) (subst (λ ss. AreLawful ss os) (sym (joined-schemas schemas ops o)) k.2)

pub grown-keys : (ops os : List Op) → SetsNoKeys ops → SetsNoKeys os → SetsNoKeys (fold joined ops os)
grown-keys ops [] h k = h
grown-keys ops (o ∷ os) h k = grown-keys (joined ops o) os (joined-keys ops o h k.0) k.1

pub grown-cells : (ops os : List Op) → sum_by cells_in (fold joined ops os) ≡ sum_by cells_in ops + sum_by cells_in os
grown-cells ops os = grown-sum cells_in (λ table other rows more. sum_by-append length rows more) ops os

pub grown-rows : (ops os : List Op) → sum_by rows_in (fold joined ops os) ≡ sum_by rows_in ops + sum_by rows_in os
grown-rows ops os = grown-sum rows_in (λ table other rows more. length-append rows more) ops os
