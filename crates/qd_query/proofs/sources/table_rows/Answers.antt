use Rattle.std.proofs.Common.{ap}
use Rattle.qd_base.specs.declared.schema.Schema.{Schema}
use Rattle.qd_rows.specs.Sets.{rows_in}
use Rattle.qd_scan.specs.Sources.{SourceView}
use Rattle.qd_query.proofs.NeedLemmas.{table_needed}
use Rattle.qd_query.proofs.Told.{schema_lent, told_kept}
use Rattle.qd_query.proofs.sources.table_rows.Goals as goal

pub returns-clause-rows : goal.returns-clause-rows
returns-clause-rows g c =
    let s : SourceView = g.P.PartSource.shown c.args.source.now in
    let col = ap (λ (x : Schema). x.time_col) (schema_lent s.schemas c.schemas.result.now c.args.table c.get.result.now c.schemas.ensures.schemas c.get.ensures.item) in
    told_kept s c.args.table c.get.result.now.time_col c.times_kept-times.result.lo c.times_kept-times.result.hi c.args.keep.now (rows_in c.in_ok-rows.rows) s.database c.keeps_its_law.ensures.law c.requires col
    c.times_kept-times.ensures.caught c.keeps_its_law.ensures.law.told c.in_ok-rows.ensures.rows

pub returns-in_err-rows-clause-asked : goal.returns-in_err-rows-clause-asked
returns-in_err-rows-clause-asked g c =
    let s : SourceView = g.P.PartSource.shown c.args.source.now in
    let col = ap (λ (x : Schema). x.time_col) (schema_lent s.schemas c.schemas.result.now c.args.table c.get.result.now c.schemas.ensures.schemas c.get.ensures.item) in
    table_needed s c.args.table c.get.result.now.time_col c.args.keep.now c.times_kept-times.result.lo c.times_kept-times.result.hi col c.times_kept-times.ensures.allowed c.times_kept-times.ensures.timely
    (g.P.PartSource.asked c.args.source.now) (g.P.PartSource.asked c.rows_from_to.new.source) c.rows_from_to.ensures.asked

pub returns-clause-asked : goal.returns-clause-asked
returns-clause-asked g c =
    let s : SourceView = g.P.PartSource.shown c.args.source.now in
    let col = ap (λ (x : Schema). x.time_col) (schema_lent s.schemas c.schemas.result.now c.args.table c.get.result.now c.schemas.ensures.schemas c.get.ensures.item) in
    table_needed s c.args.table c.get.result.now.time_col c.args.keep.now c.times_kept-times.result.lo c.times_kept-times.result.hi col c.times_kept-times.ensures.allowed c.times_kept-times.ensures.timely
    (g.P.PartSource.asked c.args.source.now) (g.P.PartSource.asked c.rows_from_to.new.source) c.rows_from_to.ensures.asked
