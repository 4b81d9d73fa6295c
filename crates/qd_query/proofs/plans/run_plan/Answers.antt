use Rattle.std.proofs.Common.{◌∙◌, ℕ, ap, subst, sym}
use Rattle.qd_base.specs.declared.schema.Schema.{Schema}
use Rattle.qd_rows.specs.Sets.{rows_in}
use Rattle.qd_scan.specs.Sources.{SourceView}
use Rattle.qd_query.specs.Answers.{AreTimed}
use Rattle.qd_query.proofs.Asked.{told_plan}
use Rattle.qd_query.proofs.Told.{schema_lent}
use Rattle.qd_query.proofs.plans.run_plan.Goals as goal

pub kept_answer-requires-clause-timed : goal.kept_answer-requires-clause-timed
kept_answer-requires-clause-timed g c =
    let s : SourceView = g.P.PartSource.shown c.args.source.now in
    let col = ap (λ (x : Schema). x.time_col) (schema_lent s.schemas c.schemas.result.now c.args.plan.now.left c.get.result.now (c.schemas.ensures.schemas ∙ c.source_rows.ensures.stays.schemas) c.get.ensures.item) in
    subst (λ (t : ℕ). AreTimed t (rows_in c.in_ok-rows.rows)) (sym col) c.in_ok-rows.ensures.timed

pub returns-clause-answer : goal.returns-clause-answer
returns-clause-answer g c =
    let s : SourceView = g.P.PartSource.shown c.args.source.now in
    let col = ap (λ (x : Schema). x.time_col) (schema_lent s.schemas c.schemas.result.now c.args.plan.now.left c.get.result.now (c.schemas.ensures.schemas ∙ c.source_rows.ensures.stays.schemas) c.get.ensures.item) in
    told_plan s s.database c.args.plan.now c.get.result.now.time_col (rows_in c.in_ok-rows.rows) c.in_ok-kept_answer.field-0 c.keeps_its_law.ensures.law.told c.requires.left col c.in_ok-kept_answer.ensures.answer
    c.in_ok-rows.ensures.rows
