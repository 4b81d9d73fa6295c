use Rattle.std.proofs.Common.{◌∙◌, List, OnOk, Option, sym, ap, subst}
use Rattle.qd_sql_ast.specs.declared.tree.Selected.{Selected}
use Rattle.qd_bind.specs.Scoped.{scope}
use Rattle.qd_meaning.specs.declared.refusal.Refusal.{Refusal}
use Rattle.qd_meaning.specs.Items.{items_of}
use Rattle.qd_meaning.specs.Refusals.{least, sooner}
use Rattle.qd_meaning.specs.Scopes.{Scope}
use Rattle.qd_plan.specs.Listing.{faults_in}
use Rattle.qd_plan.specs.Showing.{Makes}
use Rattle.qd_plan.proofs.FaultLemmas.{none_more}
use Rattle.qd_plan.proofs.TableLemmas.{no_faults}
use Rattle.qd_plan.proofs.QueryLemmas.{on_any, on_same}
use Rattle.qd_plan.proofs.items.add_items.Goals as goal

pub returns-in-None : goal.returns-in-None
returns-in-None c =
    let before : Option Refusal = c.args.faults.now.first in
    let columns : Scope = scope c.args.columns.now in
    record {
      parts = λ none.
          subst (λ (o : Option Selected). OnOk c.all_columns.result (Makes c.args.buckets (items_of columns o) c.all_columns.new.made)) (sym c.in-None.is) (c.all_columns.ensures.parts none);
      faults =
          on_any c.all_columns.result _
          (sym (none_more before) ∙ ap (λ (rs : List Refusal). sooner before (least rs)) (sym (no_faults 0 columns))
          ∙ ap (λ (o : Option Selected). sooner before (least (faults_in (items_of columns o)))) (sym c.in-None.is));
    }

pub returns-in-Some : goal.returns-in-Some
returns-in-Some c =
    let before : Option Refusal = c.args.faults.now.first in
    let columns : Scope = scope c.args.columns.now in
    record {
      parts = λ none.
          subst (λ (o : Option Selected). OnOk c.add_selected.result (Makes c.args.buckets (items_of columns o) c.add_selected.new.made)) (sym c.in-Some.is) (c.add_selected.ensures.parts none);
      faults =
          on_same c.add_selected.result _ _ (λ h. h ∙ ap (λ (o : Option Selected). sooner before (least (faults_in (items_of columns o)))) (sym c.in-Some.is)) c.add_selected.ensures.faults;
    }
