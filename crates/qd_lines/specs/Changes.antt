-- The changes of a transaction, the last of them apart where it inserts rows.
use Rattle.std.specs.Prelude.{◌≡◌, ℕ, List, [], ◌∷◌, ◌++◌, Option, Some, None}
use Rattle.qd_base.specs.declared.op.Op.{Op}
use Rattle.qd_base.specs.declared.op.Op.TheVariants as op
use Rattle.qd_base.specs.Rows.{Row}
use Rattle.qd_ilp.specs.Transaction.{joined}
use Rattle.qd_lines.specs.declared.changes.Insertion.{Insertion}

-- the change that an insertion is
abbrev pub inserted : Option Insertion → List Op
inserted None = []
inserted (Some i) = op.Insert i.table (i.rows ++ i.row ∷ []) ∷ []

-- a change that inserts no rows
abbrev pub IsPlain : Op → Type 0
IsPlain (op.Create schema) = Unit {0}
IsPlain (op.AddColumn table col) = Unit {0}
IsPlain (op.Insert table rows) = ⊥
IsPlain (op.SetKeys table keys) = Unit {0}

-- no insertion is joined with the last of these changes
abbrev pub IsClosed : List Op → Type 0
IsClosed ops = (table : List ℕ) (rows : List Row) → joined ops (op.Insert table rows) ≡ ops ++ op.Insert table rows ∷ []

-- Where no insertion is held apart, an insertion is joined with none of the other changes.
abbrev pub IsParted : List Op → Option Insertion → Type 0
IsParted done None = IsClosed done
IsParted done (Some i) = Unit {0}
