use Rattle.std.proofs.Common.{◌∙◌, Option, sym, ap}
use Rattle.qd_sql_ast.specs.declared.tree.Shown.{Shown}
use Rattle.qd_bind.specs.Scoped.{scope}
use Rattle.qd_meaning.specs.declared.refusal.Refusal.{Refusal}
use Rattle.qd_meaning.specs.Items as meant
use Rattle.qd_meaning.specs.Refusals.{least, sooner}
use Rattle.qd_meaning.specs.Scopes.{Scope}
use Rattle.qd_plan.specs.Showing.{shows}
use Rattle.qd_plan.proofs.FaultLemmas.{none_more}
use Rattle.qd_plan.proofs.QueryLemmas.{ok_same, on_any, on_same}
use Rattle.qd_plan.proofs.items.shown_of.Goals as goal

pub returns-in-Count : goal.returns-in-Count
returns-in-Count c =
    let before : Option Refusal = c.args.faults.now.first in
    let columns : Scope = scope c.args.columns.now in
    record {
      item = ok_same c.count.result _ _ (ap (λ (s : Shown). shows (meant.shown_of columns s)) (sym c.in-Count.is)) c.count.ensures.item;
      faults = on_any c.count.result _ (sym (none_more before) ∙ ap (λ (s : Shown). sooner before (least (meant.shown_of columns s).faults)) (sym c.in-Count.is));
    }

pub returns-in-Agg : goal.returns-in-Agg
returns-in-Agg c =
    let before : Option Refusal = c.args.faults.now.first in
    let columns : Scope = scope c.args.columns.now in
    record {
      item = ok_same c.aggregate_of.result _ _ (ap (λ (s : Shown). shows (meant.shown_of columns s)) (sym c.in-Agg.is)) c.aggregate_of.ensures.item;
      faults = on_same c.aggregate_of.result _ _ (λ h. h ∙ ap (λ (s : Shown). sooner before (least (meant.shown_of columns s).faults)) (sym c.in-Agg.is)) c.aggregate_of.ensures.faults;
    }

pub returns-in-Expr : goal.returns-in-Expr
returns-in-Expr c =
    let before : Option Refusal = c.args.faults.now.first in
    let columns : Scope = scope c.args.columns.now in
    record {
      item = ok_same c.value_of.result _ _ (ap (λ (s : Shown). shows (meant.shown_of columns s)) (sym c.in-Expr.is)) c.value_of.ensures.item;
      faults = on_same c.value_of.result _ _ (λ h. h ∙ ap (λ (s : Shown). sooner before (least (meant.shown_of columns s).faults)) (sym c.in-Expr.is)) c.value_of.ensures.faults;
    }
