-- Where no table is there.
use Rattle.std.proofs.Common.{[], arith}
use Rattle.std.proofs.lemmas.List.Elements.{All-nil}
use Rattle.qd_base.specs.declared.schema.Schema.{Schema}
use Rattle.qd_base.specs.Lawful.{AreSchemas, IsSchema}
use Rattle.qd_base.specs.Schemas.{same_name}
use Rattle.qd_base.proofs.Lists.{IsDistinct-nil}

pub no_tables : AreSchemas []
no_tables = record { few = omega arith; each = All-nil IsSchema; distinct = IsDistinct-nil (λ (a : Schema) (b : Schema). same_name a.name b.name) }
