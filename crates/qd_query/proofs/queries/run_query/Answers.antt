use Rattle.std.proofs.Common.{◌≡◌, ◌∙◌, ap, ap₂, List, Ok, Err, IfSome, Some, ℕ, subst}
use Rattle.qd_base.specs.declared.code.Code.{Code}
use Rattle.qd_base.specs.declared.schema.Schema.{Schema}
use Rattle.qd_base.specs.Codes.{number_of}
use Rattle.qd_meaning.specs.declared.parts.AskPlan.{AskPlan}
use Rattle.qd_plan.specs.declared.asked.Plan.{Plan}
use Rattle.qd_plan.specs.declared.asked.Plan.TheVariants as plan
use Rattle.qd_plan.specs.declared.fault.PlanFault.{PlanFault}
use Rattle.qd_plan.specs.declared.fault.PlanFault.TheVariants as fault
use Rattle.qd_plan.specs.Plans.{Planned}
use Rattle.qd_query.specs.declared.answer.Answer.TheVariants as answer
use Rattle.qd_query.specs.Answers.{answer_of, plan_answer, right_in, show_answer, table_in}
use Rattle.qd_scan.specs.Sources.{SourceView}
use Rattle.qd_scan.proofs.AskedLemmas.{asked_nothing}
use Rattle.qd_scan.proofs.ScanLemmas.{ok_then}
use Rattle.qd_query.proofs.Asked.{ready, show_low, told_asked, told_refused, told_same, told_shown}
use Rattle.qd_query.specs.Needs.{Needs}
use Rattle.qd_query.proofs.NeedLemmas.{plan_needed, show_needed}
use Rattle.qd_query.proofs.queries.run_query.Goals as goal

pub run_plan-requires : goal.run_plan-requires
run_plan-requires g c =
    let s : SourceView = g.P.PartSource.shown c.args.source.now in
    let h : Planned s.schemas c.args.stmt.now (Ok (plan.Ask c.in-Ok-Ask.made)) =
    subst (λ (ss : List Schema). Planned ss c.args.stmt.now (Ok (plan.Ask c.in-Ok-Ask.made))) c.schemas.ensures.schemas
    (subst (λ (p : Plan). Planned c.schemas.result.now c.args.stmt.now (Ok p)) c.in-Ok-Ask.field-0-is c.in-Ok-Ask.ensures.answers) in
    let r = ready s.schemas c.args.stmt.now c.in-Ok-Ask.made c.requires.asks c.strides_are_in_range.ensures.law h in
    record { left = r.left; right = r.right; work = r.work }

pub show_partitions-requires : goal.show_partitions-requires
show_partitions-requires g c =
    let s : SourceView = g.P.PartSource.shown c.args.source.now in
    let h : Planned s.schemas c.args.stmt.now (Ok (plan.Show c.in-Ok-Show.table)) =
    subst (λ (ss : List Schema). Planned ss c.args.stmt.now (Ok (plan.Show c.in-Ok-Show.table))) c.schemas.ensures.schemas
    (subst (λ (p : Plan). Planned c.schemas.result.now c.args.stmt.now (Ok p)) c.in-Ok-Show.field-0-is c.in-Ok-Show.ensures.answers) in
    show_low s.schemas c.args.stmt.now c.in-Ok-Show.table c.requires.asks h

pub returns-in-Ok-Ask-clause-answer : goal.returns-in-Ok-Ask-clause-answer
returns-in-Ok-Ask-clause-answer g c =
    let s : SourceView = g.P.PartSource.shown c.args.source.now in
    let made : AskPlan = c.in-Ok-Ask.made in
    let h : Planned s.schemas c.args.stmt.now (Ok (plan.Ask made)) =
    subst (λ (ss : List Schema). Planned ss c.args.stmt.now (Ok (plan.Ask made))) c.schemas.ensures.schemas
    (subst (λ (p : Plan). Planned c.schemas.result.now c.args.stmt.now (Ok p)) c.in-Ok-Ask.field-0-is c.in-Ok-Ask.ensures.answers) in
    ok_then (λ a. IfSome s.database (λ db. a ≡ plan_answer made (Some (table_in db made.left)) (right_in db made.join))) (λ a. IfSome s.database (λ db. a ≡ answer_of db c.args.stmt.now))
    (λ a e. told_asked c.plans_answer.ensures.law s s.database c.args.stmt.now made a c.requires.asks h c.keeps_its_law.ensures.law.told e) c.run_plan.result c.run_plan.ensures.answer

pub returns-in-Ok-Show-clause-answer : goal.returns-in-Ok-Show-clause-answer
returns-in-Ok-Show-clause-answer g c =
    let s : SourceView = g.P.PartSource.shown c.args.source.now in
    let table : ℕ = c.in-Ok-Show.table in
    let h : Planned s.schemas c.args.stmt.now (Ok (plan.Show table)) =
    subst (λ (ss : List Schema). Planned ss c.args.stmt.now (Ok (plan.Show table))) c.schemas.ensures.schemas
    (subst (λ (p : Plan). Planned c.schemas.result.now c.args.stmt.now (Ok p)) c.in-Ok-Show.field-0-is c.in-Ok-Show.ensures.answers) in
    ok_then (λ a. IfSome s.database (λ db. a ≡ show_answer (table_in db table))) (λ a. IfSome s.database (λ db. a ≡ answer_of db c.args.stmt.now))
    (λ a e. told_shown s s.database c.args.stmt.now table a c.requires.asks h c.keeps_its_law.ensures.law.told e) c.show_partitions.result c.show_partitions.ensures.answer

pub returns-in-Err-Refused-clause-answer : goal.returns-in-Err-Refused-clause-answer
returns-in-Err-Refused-clause-answer g c =
    let s : SourceView = g.P.PartSource.shown c.args.source.now in
    let why : Code = c.in-Err-Refused.code in
    let place : ℕ = c.in-Err-Refused.place in
    let h : Planned s.schemas c.args.stmt.now (Err (fault.Refused why place)) =
    subst (λ (ss : List Schema). Planned ss c.args.stmt.now (Err (fault.Refused why place))) c.schemas.ensures.schemas
    (subst (λ (f : PlanFault). Planned c.schemas.result.now c.args.stmt.now (Err f)) c.in-Err-Refused.field-0-is c.in-Err-Refused.ensures.answers) in
    told_same s.database _ (answer.Refused (number_of why) place) (λ db. answer_of db c.args.stmt.now)
    (ap₂ (λ (n p : ℕ). answer.Refused n p) (c.number.ensures.number ∙ ap number_of c.in-Err-Refused.code-is) c.in-Err-Refused.place-is)
    (told_refused c.plans_answer.ensures.law s s.database c.args.stmt.now why place c.requires.asks h c.keeps_its_law.ensures.law.told)

pub returns-in-Ok-Ask-clause-asked : goal.returns-in-Ok-Ask-clause-asked
returns-in-Ok-Ask-clause-asked g c =
    let s : SourceView = g.P.PartSource.shown c.args.source.now in
    let made : AskPlan = c.in-Ok-Ask.made in
    let h : Planned s.schemas c.args.stmt.now (Ok (plan.Ask made)) =
    subst (λ (ss : List Schema). Planned ss c.args.stmt.now (Ok (plan.Ask made))) c.schemas.ensures.schemas
    (subst (λ (p : Plan). Planned c.schemas.result.now c.args.stmt.now (Ok p)) c.in-Ok-Ask.field-0-is c.in-Ok-Ask.ensures.answers) in
    plan_needed s c.args.stmt.now made (g.P.PartSource.asked c.args.source.now) (g.P.PartSource.asked c.run_plan.new.source) c.requires.asks h c.run_plan.ensures.asked

pub returns-in-Ok-Show-clause-asked : goal.returns-in-Ok-Show-clause-asked
returns-in-Ok-Show-clause-asked g c =
    let s : SourceView = g.P.PartSource.shown c.args.source.now in
    let table : ℕ = c.in-Ok-Show.table in
    let h : Planned s.schemas c.args.stmt.now (Ok (plan.Show table)) =
    subst (λ (ss : List Schema). Planned ss c.args.stmt.now (Ok (plan.Show table))) c.schemas.ensures.schemas
    (subst (λ (p : Plan). Planned c.schemas.result.now c.args.stmt.now (Ok p)) c.in-Ok-Show.field-0-is c.in-Ok-Show.ensures.answers) in
    show_needed s c.args.stmt.now table (g.P.PartSource.asked c.args.source.now) (g.P.PartSource.asked c.show_partitions.new.source) c.requires.asks h c.show_partitions.ensures.asked

pub returns-in-Err-Refused-clause-asked : goal.returns-in-Err-Refused-clause-asked
returns-in-Err-Refused-clause-asked g c = asked_nothing (Needs (g.P.PartSource.shown c.args.source.now) c.args.stmt.now) (g.P.PartSource.asked c.args.source.now)

pub returns-in-Err-Memory-clause-asked : goal.returns-in-Err-Memory-clause-asked
returns-in-Err-Memory-clause-asked g c = asked_nothing (Needs (g.P.PartSource.shown c.args.source.now) c.args.stmt.now) (g.P.PartSource.asked c.args.source.now)
