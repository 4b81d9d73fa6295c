use Rattle.std.proofs.Common.{◌∙◌, ap}
use Rattle.qd_base.specs.Schemas.{table_at}
use Rattle.qd_writes.proofs.TableLemmas.{schema_found, schema_missing}
use Rattle.qd_writes.proofs.insert.table_of.Goals as goal

pub returns-in-Some : goal.returns-in-Some
returns-in-Some c = record {
  schema = schema_found c.args.schemas.now c.args.name.now.text c.in-Some.place c.get.result.now (c.in-Some.ensures.position ∙ ap (table_at c.args.schemas.now) c.bytes.ensures.same) c.get.ensures.item;
}

pub returns-in-None : goal.returns-in-None
returns-in-None c = record { schema = schema_missing c.args.schemas.now c.args.name.now.text (c.in-None.ensures.position ∙ ap (table_at c.args.schemas.now) c.bytes.ensures.same) }
