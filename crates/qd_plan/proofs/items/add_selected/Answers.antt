use Rattle.std.proofs.Common.{◌∙◌, List, OnOk, Option, map, sym, ap, subst}
use Rattle.qd_sql_ast.specs.declared.tree.Selected.{Selected}
use Rattle.qd_bind.specs.Scoped.{scope}
use Rattle.qd_meaning.specs.declared.refusal.Refusal.{Refusal}
use Rattle.qd_meaning.specs.Items.{Shows, item_of, items_by}
use Rattle.qd_meaning.specs.Refusals.{least, sooner}
use Rattle.qd_meaning.specs.Scopes.{Scope}
use Rattle.qd_plan.specs.Listing.{faults_in}
use Rattle.qd_plan.specs.Showing.{Makes}
use Rattle.qd_plan.proofs.FaultLemmas.{none_more}
use Rattle.qd_plan.proofs.TableLemmas.{no_faults}
use Rattle.qd_plan.proofs.QueryLemmas.{on_any, on_same}
use Rattle.qd_plan.proofs.items.add_selected.Goals as goal

pub returns-in-All : goal.returns-in-All
returns-in-All c =
    let before : Option Refusal = c.args.faults.now.first in
    let columns : Scope = scope c.args.columns.now in
    record {
      parts = λ none.
          subst (λ (s : Selected). OnOk c.all_columns.result (Makes c.args.buckets (items_by columns s) c.all_columns.new.made)) (sym c.in-All.is) (c.all_columns.ensures.parts none);
      faults =
          on_any c.all_columns.result _
          (sym (none_more before) ∙ ap (λ (rs : List Refusal). sooner before (least rs)) (sym (no_faults 0 columns))
          ∙ ap (λ (s : Selected). sooner before (least (faults_in (items_by columns s)))) (sym c.in-All.is));
    }

pub returns-in-Items : goal.returns-in-Items
returns-in-Items c =
    let before : Option Refusal = c.args.faults.now.first in
    let columns : Scope = scope c.args.columns.now in
    let items = ap (map (item_of columns)) c.as_slice.ensures.items in
    record {
      parts = λ none.
          subst (λ (s : List Shows). OnOk c.listed.result (Makes c.args.buckets s c.listed.new.made)) (items ∙ ap (items_by columns) (sym c.in-Items.is)) (c.listed.ensures.parts none);
      faults =
          on_same c.listed.result _ _ (λ h. h ∙ ap (λ (s : List Shows). sooner before (least (faults_in s))) (items ∙ ap (items_by columns) (sym c.in-Items.is))) c.listed.ensures.faults;
    }
