use Rattle.std.proofs.Common.{◌∙◌, Bool, List, Option, Some, refl, sym, ap}
use Rattle.qd_base.specs.declared.code.Code.TheVariants as code
use Rattle.qd_sql_ast.specs.declared.tree.Filter.{Filter}
use Rattle.qd_value.specs.Cells.{truth}
use Rattle.qd_bind.specs.declared.typed.Typed as bound
use Rattle.qd_bind.specs.Scoped.{scope}
use Rattle.qd_meaning.specs.declared.refusal.Refusal.{Refusal}
use Rattle.qd_meaning.specs.Binding as binding
use Rattle.qd_meaning.specs.Refusals.{least, sooner, unless}
use Rattle.qd_meaning.specs.Scopes.{Scope}
use Rattle.qd_meaning.specs.Typing as typing
use Rattle.qd_meaning.specs.Typing.{fits}
use Rattle.qd_meaning.specs.Planned as parts
use Rattle.qd_plan.proofs.FaultLemmas.{none_more, step}
use Rattle.qd_plan.proofs.clauses.keep_of.Goals as goal

pub returns-in-None-clause-faults : goal.returns-in-None-clause-faults
returns-in-None-clause-faults c =
    let before : Option Refusal = c.args.faults.now.first in
    sym (none_more before) ∙ ap (λ (o : Option Filter). sooner before (least (parts.filter_faults (scope c.args.columns.now) o))) (sym c.in-None.is)

pub returns-in_ok-found-in-Some-clause-keep : goal.returns-in_ok-found-in-Some-clause-keep
returns-in_ok-found-in-Some-clause-keep c =
    ap (λ (x : bound.Typed). Some x.bound) c.in_ok-found-in-Some.ensures.bound ∙ ap (parts.keep_of (scope c.args.columns.now)) (sym c.in-Some.is)

pub returns-in_ok-found-in-Some-clause-faults : goal.returns-in_ok-found-in-Some-clause-faults
returns-in_ok-found-in-Some-clause-faults c =
    let before : Option Refusal = c.args.faults.now.first in
    let columns : Scope = scope c.args.columns.now in
    let f : Filter = c.in-Some.filter in
    let t : typing.Typed = binding.typed columns f.test in
    let tested : List Refusal = unless (fits truth t.class) code.Types f.at in
    let agrees = c.agrees.ensures.classes (Some truth) t.class refl (ap (λ (x : bound.Typed). x.class) c.in_ok-found-in-Some.ensures.bound) in
    step before c.unless.new.self.first c.add.new.self.first tested t.faults (c.unless.ensures.added ∙ ap (λ (b : Bool). sooner before (least (unless b code.Types f.at))) agrees)
    (c.add.ensures.added ∙ ap (λ (x : bound.Typed). sooner c.unless.new.self.first x.fault) c.in_ok-found-in-Some.ensures.bound)
    ∙ ap (λ (o : Option Filter). sooner before (least (parts.filter_faults columns o))) (sym c.in-Some.is)
