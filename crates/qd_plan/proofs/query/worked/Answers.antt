use Rattle.std.proofs.Common.{ℕ, List, Option, subst}
use Rattle.qd_sql_ast.specs.declared.tree.Query.{Query}
use Rattle.qd_bind.specs.Scoped as scoped
use Rattle.qd_meaning.specs.declared.refusal.Refusal.{Refusal}
use Rattle.qd_meaning.specs.Items.{Shows, items_of}
use Rattle.qd_meaning.specs.Planned as parts
use Rattle.qd_plan.specs.Listing.{faults_in}
use Rattle.qd_plan.specs.Showing.{Makes}
use Rattle.qd_plan.proofs.FaultLemmas.{step}
use Rattle.qd_plan.proofs.QueryLemmas.{on_same}
use Rattle.qd_plan.proofs.query.worked.Goals as goal

pub returns : goal.returns
returns c =
    let before : Option Refusal = c.args.faults.now.first in
    let q : Query = c.args.query.now in
    let items : List Shows = items_of (scoped.scope c.args.columns.now) q.selected in
    let made = c.add_items.new.made in
    let makes : Makes (parts.buckets_in c.args.time_col q.sampled) items made =
    subst (λ (b : Option ℕ). Makes b items made) c.buckets_in-buckets.ensures.buckets (c.in_ok-add_items.ensures.parts (c.new-made.ensures.none c.buckets_in-buckets.result)) in
    record {
      work = c.worked.ensures.work items c.args.time_col makes;
      picks = c.worked.ensures.picks items c.args.time_col makes;
      out = c.worked.ensures.out items (parts.buckets_in c.args.time_col q.sampled) makes;
      faults =
          on_same c.worked.result _ _
          (step before c.add_items.new.faults.first c.worked.new.faults.first (faults_in items) (parts.sampled_faults q.sampled (parts.made_kinds items)) c.in_ok-add_items.ensures.faults)
          (c.worked.ensures.faults items (parts.buckets_in c.args.time_col q.sampled) makes);
    }
