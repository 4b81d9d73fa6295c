-- What a sink holds of the changes that it has taken.
use Rattle.std.specs.Prelude.{◌≡◌, ℕ, Bool, true, false, List, [], ◌∷◌, ◌++◌}
use Rattle.std.specs.List.{filter}
use Rattle.qd_base.specs.declared.op.Op.{Op}
use Rattle.qd_base.specs.declared.op.Op.TheVariants as op
use Rattle.qd_lines.specs.Changes.{IsClosed}
use Rattle.qd_wal_entry.specs.Written.{IsSoFar, SoFar, Written}
use Rattle.qd_prepare.specs.declared.sink.Place.{Place}
use Rattle.qd_prepare.specs.declared.sink.Place.TheVariants as place

-- what the writer holds, where it is, the table of the insertion that is open, and the changes that make a table or a column
pub record Sunk : Type 0 where
  pub writer : Written
  pub place : Place
  pub table : List ℕ
  pub changes : List Op

-- the writer is at that place
abbrev pub IsTied : Place → Written → Type 0
IsTied place.Shut w = w.is_open ≡ false
IsTied place.Open w = w.is_open ≡ true
IsTied place.Lost w = Unit {0}

-- whether a change makes a table or a column, or sets keys
abbrev pub alters : Op → Bool
alters (op.Create schema) = true
alters (op.AddColumn table col) = true
alters (op.Insert table rows) = false
alters (op.SetKeys table keys) = true

-- These are the changes of an entry that is written so far. The last row of an insertion that is open isn't ended yet.
abbrev pub Stands : Place → List ℕ → SoFar → List Op → Type 0
Stands place.Shut table e ops = ops ≡ e.ops
Stands place.Open table e ops = (e.table ≡ table) × (ops ≡ e.ops ++ op.Insert table (e.rows ++ e.row ∷ []) ∷ [])
Stands place.Lost table e ops = ⊥

-- a sink holds these changes
pub record IsTaken (s : Sunk) (ops : List Op) : Type 0 where
  pub so_far : SoFar
  pub writes : IsSoFar s.writer so_far
  pub stands : Stands s.place s.table so_far ops
  pub altered : s.changes ≡ filter alters so_far.ops

-- where no insertion is open, none is joined with the last of the changes
abbrev pub IsFree : Place → List Op → Type 0
IsFree place.Shut ops = IsClosed ops
IsFree place.Open ops = Unit {0}
IsFree place.Lost ops = Unit {0}

-- A sink has taken these changes, and may take further ones.
pub record HasTaken (s : Sunk) (ops : List Op) : Type 0 where
  pub taken : IsTaken s ops
  pub free : IsFree s.place ops
