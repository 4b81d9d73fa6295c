use Rattle.std.proofs.Common.{◌∙◌, ap}
use Rattle.qd_base.specs.Schemas.{column_at}
use Rattle.qd_plan.proofs.TableLemmas.{kind_found, kind_missing}
use Rattle.qd_plan.proofs.tables.column_of.Goals as goal

pub returns-in-Some-clause-position : goal.returns-in-Some-clause-position
returns-in-Some-clause-position c = c.in-Some.ensures.position ∙ ap (column_at c.args.schema.now.cols) c.bytes.ensures.same

pub returns-in-Some-clause-kind : goal.returns-in-Some-clause-kind
returns-in-Some-clause-kind c =
    kind_found c.args.schema.now.cols c.args.name.now c.in-Some.at c.get.result.now (c.in-Some.ensures.position ∙ ap (column_at c.args.schema.now.cols) c.bytes.ensures.same) c.get.ensures.item

pub returns-in-None-clause-position : goal.returns-in-None-clause-position
returns-in-None-clause-position c = c.in-None.ensures.position ∙ ap (column_at c.args.schema.now.cols) c.bytes.ensures.same

pub returns-in-None-clause-kind : goal.returns-in-None-clause-kind
returns-in-None-clause-kind c = kind_missing c.args.schema.now.cols c.args.name.now (c.in-None.ensures.position ∙ ap (column_at c.args.schema.now.cols) c.bytes.ensures.same)
