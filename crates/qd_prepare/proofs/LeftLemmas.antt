-- What schemas a transaction leaves. Insertions change none.
use Rattle.std.proofs.Common.{◌≡◌, ◌≤◌, ℕ, List, [], ◌∷◌, Option, Some, None, IfSome, fold, unwrap_or, refl, sym, subst}
use Rattle.std.specs.List.{filter}
use Rattle.qd_base.specs.declared.op.Op.{Op}
use Rattle.qd_base.specs.declared.op.Op.TheVariants as op
use Rattle.qd_base.specs.declared.schema.Schema.{Schema}
use Rattle.qd_base.specs.declared.limits.TheConstants.{MAX_BATCH_CELLS}
use Rattle.qd_base.specs.declared.op.Entry.{Entry}
use Rattle.qd_base.specs.Lawful.{AreLawful, AreSchemas, SetsKeysAlone, cells_of}
use Rattle.qd_base.specs.Schemas.{schemas_step}
use Rattle.qd_base.proofs.Lawful.{AreSchemas-ops}
use Rattle.qd_wal_entry.specs.Spelling.{SpellsEntry}
use Rattle.qd_prepare.specs.Prepared.{IsPrepared}
use Rattle.qd_prepare.specs.Sunk.{alters}

-- they leave the same schemas
pub altered_left : (schemas : List Schema) (ops : List Op) → fold schemas_step schemas (filter alters ops) ≡ fold schemas_step schemas ops
altered_left schemas [] = refl
altered_left schemas (op.Create schema ∷ os) = altered_left (schemas_step schemas (op.Create schema)) os
altered_left schemas (op.AddColumn table col ∷ os) = altered_left (schemas_step schemas (op.AddColumn table col)) os
altered_left schemas (op.Insert table rows ∷ os) = altered_left schemas os
altered_left schemas (op.SetKeys table keys ∷ os) = altered_left (schemas_step schemas (op.SetKeys table keys)) os

-- and are lawful
pub altered_lawful : (schemas : List Schema) (ops : List Op) → AreLawful schemas ops → AreLawful schemas (filter alters ops)
altered_lawful schemas [] h = tt
altered_lawful schemas (op.Create schema ∷ os) h = (h.0, h.1, altered_lawful (schemas_step schemas (op.Create schema)) os h.2)
altered_lawful schemas (op.AddColumn table col ∷ os) h = (h.0, h.1, altered_lawful (schemas_step schemas (op.AddColumn table col)) os h.2)
altered_lawful schemas (op.Insert table rows ∷ os) h = altered_lawful schemas os h.2
altered_lawful schemas (op.SetKeys table keys ∷ os) h = (h.0, h.1, altered_lawful (schemas_step schemas (op.SetKeys table keys)) os h.2)

sound_left : (left : Option (List Schema)) (schemas all : List Schema) → unwrap_or left schemas ≡ all → AreSchemas all → IfSome left AreSchemas
sound_left None schemas all e h = tt
sound_left (Some after) schemas all e h = subst AreSchemas (sym e) h

-- all that is asked of a transaction that is ready
pub prepared : (schemas : List Schema) (e : Entry) (bytes : List ℕ) (left : Option (List Schema)) → AreSchemas schemas → SpellsEntry bytes e → AreLawful schemas e.ops → cells_of e ≤ MAX_BATCH_CELLS → SetsKeysAlone e.ops → unwrap_or left schemas ≡ fold schemas_step schemas e.ops
    → IsPrepared schemas e (record { bytes = bytes; schemas = left })
prepared schemas e bytes left sound spelled lawful few alone same =
    record { bytes = spelled; changes = lawful; cells = few; alone = alone; left = same; sound = sound_left left schemas (fold schemas_step schemas e.ops) same (AreSchemas-ops schemas e.ops sound lawful) }
