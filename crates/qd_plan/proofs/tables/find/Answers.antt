use Rattle.std.proofs.Common.{◌∙◌, ℕ, Option, unwrap_or, ap}
use Rattle.qd_base.specs.Schemas.{table_at}
use Rattle.qd_plan.proofs.TableLemmas.{schema_found, schema_missing}
use Rattle.qd_plan.proofs.tables.find.Goals as goal

pub returns-in-Some-clause-position : goal.returns-in-Some-clause-position
returns-in-Some-clause-position c = ap (λ (o : Option ℕ). unwrap_or o 0) (c.in-Some.ensures.position ∙ ap (table_at c.args.schemas.now) c.bytes.ensures.same)

pub returns-in-Some-clause-schema : goal.returns-in-Some-clause-schema
returns-in-Some-clause-schema c =
    schema_found c.args.schemas.now c.args.name.now.text c.in-Some.at c.get.result.now (c.in-Some.ensures.position ∙ ap (table_at c.args.schemas.now) c.bytes.ensures.same) c.get.ensures.item

pub returns-in-None-clause-position : goal.returns-in-None-clause-position
returns-in-None-clause-position c = ap (λ (o : Option ℕ). unwrap_or o 0) (c.in-None.ensures.position ∙ ap (table_at c.args.schemas.now) c.bytes.ensures.same)

pub returns-in-None-clause-schema : goal.returns-in-None-clause-schema
returns-in-None-clause-schema c = schema_missing c.args.schemas.now c.args.name.now.text (c.in-None.ensures.position ∙ ap (table_at c.args.schemas.now) c.bytes.ensures.same)
