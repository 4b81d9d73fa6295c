use Rattle.std.proofs.Common.{◌∙◌}
use Rattle.qd_rows.specs.Sets.{rows_in}
use Rattle.qd_scan.specs.Sources.{SourceView}
use Rattle.qd_query.proofs.Asked.{told_partitions}
use Rattle.qd_query.proofs.Told.{schema_lent}
use Rattle.qd_query.proofs.partitions.show_partitions.Goals as goal

pub returns-clause-answer : goal.returns-clause-answer
returns-clause-answer g c =
    let s : SourceView = g.P.PartSource.shown c.args.source.now in
    told_partitions s s.database c.args.table c.get.result.now (rows_in c.in_ok-rows.rows) c.in_ok-partitions_answer.field-0 c.keeps_its_law.ensures.law.told c.requires
    (schema_lent s.schemas c.schemas.result.now c.args.table c.get.result.now (c.schemas.ensures.schemas ∙ c.all_rows.ensures.stays.schemas) c.get.ensures.item)
    c.in_ok-partitions_answer.ensures.answer c.in_ok-rows.ensures.rows
