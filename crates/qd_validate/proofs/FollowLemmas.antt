-- The schemas behind a lawful transaction are sound.
use Rattle.std.proofs.Common.{◌≡◌, Bool, true, false, IsTrue, List, [], arith, fold, refl, subst, sym}
use Rattle.std.specs.Bool.{OnTrue}
use Rattle.qd_base.specs.declared.op.Op.{Op}
use Rattle.qd_base.specs.declared.schema.Schema.{Schema}
use Rattle.qd_base.specs.Schemas.{same_name, schemas_step}
use Rattle.qd_base.specs.Lawful.{AreLawful, AreSchemas, IsSchema}
use Rattle.std.proofs.lemmas.List.Elements.{All-nil}
use Rattle.qd_base.proofs.Lists.{IsDistinct-nil}
use Rattle.qd_base.proofs.Lawful.{AreSchemas-ops}

pub sound_behind : (old new : List Schema) (ops : List Op) (b : Bool) → AreSchemas old → (IsTrue b → AreLawful old ops) → OnTrue b (new ≡ fold schemas_step old ops) → OnTrue b (AreSchemas new)
sound_behind old new ops true h lawful e = subst AreSchemas (sym e) (AreSchemas-ops old ops h (lawful refl))
sound_behind old new ops false h lawful e = tt

pub no_schemas : (schemas : List Schema) → schemas ≡ [] → AreSchemas schemas
no_schemas schemas e = subst AreSchemas (sym e) (record { few = omega arith; each = All-nil IsSchema; distinct = IsDistinct-nil (λ (a : Schema) (b : Schema). same_name a.name b.name) })
