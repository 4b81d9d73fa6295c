-- What a sink holds after each of its steps.
use Rattle.std.proofs.Common.{◌≡◌, ℕ, Bool, true, false, List, [], ◌∷◌, ◌++◌, Option, Some, None, refl, sym, ap, ap₂, ◌∙◌, subst}
use Rattle.std.specs.List.{filter}
use Rattle.std.proofs.lemmas.List.{append-nil}
use Rattle.std.proofs.lemmas.List.Elements.{filter-append}
use Rattle.qd_base.specs.declared.cell.Cell.{Cell}
use Rattle.qd_base.specs.declared.op.Op.{Op}
use Rattle.qd_base.specs.declared.op.Op.TheVariants as op
use Rattle.qd_base.specs.Rows.{Row}
use Rattle.qd_base.specs.Schemas.{same_name}
use Rattle.qd_ilp.specs.Transaction.{joined}
use Rattle.qd_lines.specs.Changes.{IsClosed, IsPlain}
use Rattle.qd_lines.specs.Sinks.{with_cells, with_row}
use Rattle.qd_lines.proofs.ChangesLemmas.{joined-apart, joined-plain, joined-same, plain-closed, put-last}
use Rattle.qd_wal_entry.specs.Spelling.{SpellsEntry}
use Rattle.qd_wal_entry.specs.Written.{IsSoFar, SoFar, Written, begun, entry_of, inserted, with_cell, with_op}
use Rattle.qd_wal_entry.specs.Written as written
use Rattle.qd_prepare.specs.declared.sink.Place.{Place}
use Rattle.qd_prepare.specs.declared.sink.Place.TheVariants as place
use Rattle.qd_prepare.specs.Sunk.{HasTaken, IsFree, IsTaken, Stands, Sunk, alters}

-- a sink by its parts
abbrev pub sunk : Written → Place → List ℕ → List Op → Sunk
sunk w p table changes = record { writer = w; place = p; table = table; changes = changes }

-- a sink whose parts are seen, at a place
pub seen : (s : Sunk) (w : Written) (p q : Place) (table : List ℕ) (changes ops : List Op) → sunk w p table changes ≡ s → p ≡ q → IsTaken s ops → IsTaken (sunk w q table changes) ops
seen s w p q table changes ops view at h = subst (λ (r : Place). IsTaken (sunk w r table changes) ops) at (subst (λ (t : Sunk). IsTaken t ops) (sym view) h)

-- the row that is open gets a cell
pub cell_taken : (w w' : Written) (table : List ℕ) (changes ops : List Op) (x : Cell) → ((e : SoFar) → IsSoFar w e → IsSoFar w' (with_cell x e)) → IsTaken (sunk w place.Open table changes) ops
    → HasTaken (sunk w' place.Open table changes) (with_cells (x ∷ []) ops)
cell_taken w w' table changes ops x goes h =
    let e : SoFar = h.so_far in
    record {
      taken = record {
        so_far = with_cell x e;
        writes = goes e h.writes;
        stands = (h.stands.0, sym (put-last e.ops ops (Some (record { table = table; rows = e.rows; row = e.row })) table table e.rows e.rows e.row (e.row ++ x ∷ []) (x ∷ []) (sym h.stands.1) refl refl refl refl));
        altered = h.altered;
      };
      free = tt;
    }

-- a further row of the insertion that is open is begun
pub row_taken : (w w' : Written) (table name : List ℕ) (changes ops : List Op) → same_name table name ≡ true → ((e : SoFar) → IsSoFar w e → IsSoFar w' (written.with_row e)) → IsTaken (sunk w place.Open table changes) ops
    → HasTaken (sunk w' place.Open table changes) (with_row name [] ops)
row_taken w w' table name changes ops same goes h =
    let e : SoFar = h.so_far in
    record {
      taken = record {
        so_far = written.with_row e;
        writes = goes e h.writes;
        stands = (h.stands.0, ap (λ os. with_row name [] os) h.stands.1 ∙ joined-same e.ops table name (e.rows ++ e.row ∷ []) ([] ∷ []) same);
        altered = h.altered;
      };
      free = tt;
    }

plain-alters : (o : Op) → IsPlain o → filter alters (o ∷ []) ≡ o ∷ []
plain-alters (op.Create schema) h = refl
plain-alters (op.AddColumn table col) h = refl
plain-alters (op.Insert table rows) h = absurd h
plain-alters (op.SetKeys table keys) h = refl

-- a table or a column is made
pub change_taken : (w w' : Written) (table : List ℕ) (changes grown ops : List Op) (o : Op) → IsPlain o → grown ≡ changes ++ o ∷ [] → ((e : SoFar) → IsSoFar w e → IsSoFar w' (with_op o e)) → IsTaken (sunk w place.Shut table changes) ops
    → HasTaken (sunk w' place.Shut table grown) (joined ops o)
change_taken w w' table changes grown ops o plain pushed goes h =
    let e : SoFar = h.so_far in
    record {
      taken = record {
        so_far = with_op o e;
        writes = goes e h.writes;
        stands = joined-plain ops o plain ∙ ap (λ (os : List Op). os ++ o ∷ []) h.stands;
        altered = pushed ∙ ap (λ (os : List Op). os ++ o ∷ []) h.altered ∙ sym (filter-append alters e.ops (o ∷ []) ∙ ap (λ (os : List Op). filter alters e.ops ++ os) (plain-alters o plain));
      };
      free = subst IsClosed (sym (joined-plain ops o plain)) (plain-closed ops o plain);
    }

-- an insertion into another table than the one that is open comes behind
pub apart_from_open : (w : Written) (table name : List ℕ) (changes ops : List Op) → same_name table name ≡ false → IsTaken (sunk w place.Open table changes) ops → ops ++ op.Insert name ([] ∷ []) ∷ [] ≡ with_row name [] ops
apart_from_open w table name changes ops other h =
    let e : SoFar = h.so_far in
    let rows : List Row = e.rows ++ e.row ∷ [] in
    ap (λ (os : List Op). os ++ op.Insert name ([] ∷ []) ∷ []) h.stands.1
    ∙ sym (joined-apart e.ops table name rows ([] ∷ []) other)
    ∙ ap (λ os. with_row name [] os) (sym h.stands.1)

-- and so it does where none is open
pub apart_from_shut : (p : Place) (s : Sunk) (name : List ℕ) (ops : List Op) → s.place ≡ p → (p ≡ place.Open → ⊥) → HasTaken s ops → ops ++ op.Insert name ([] ∷ []) ∷ [] ≡ with_row name [] ops
apart_from_shut place.Shut s name ops at other h = let free : IsClosed ops = subst (λ (q : Place). IsFree q ops) at h.free in sym (free name ([] ∷ []))
apart_from_shut place.Open s name ops at other h = absurd (other refl)
apart_from_shut place.Lost s name ops at other h = absurd (gone (s.place) at h.taken.stands)
  where
    gone : (q : Place) → q ≡ place.Lost → Stands q s.table h.taken.so_far ops → ⊥
    gone place.Shut e k = cc
    gone place.Open e k = cc
    gone place.Lost e k = k

-- all is written
pub spelled_whole : (w : Written) (table bytes : List ℕ) (changes ops : List Op) → ((e : SoFar) → IsSoFar w e → SpellsEntry bytes (entry_of e)) → IsTaken (sunk w place.Shut table changes) ops → SpellsEntry bytes (record { ops = ops })
spelled_whole w table bytes changes ops goes h = subst (λ (os : List Op). SpellsEntry bytes (record { ops = os })) (sym h.stands) (goes h.so_far h.writes)

pub altered_whole : (w : Written) (table : List ℕ) (changes ops : List Op) → IsTaken (sunk w place.Shut table changes) ops → changes ≡ filter alters ops
altered_whole w table changes ops h = h.altered ∙ ap (filter alters) (sym h.stands)
