use Rattle.std.proofs.Common.{[], List, OnOk, refl, subst}
use Rattle.qd_meaning.specs.Items.{Shows}
use Rattle.qd_plan.specs.Listing.{plain_from}
use Rattle.qd_plan.specs.Showing.{Makes}
use Rattle.qd_plan.proofs.TableLemmas.{all_scope}
use Rattle.qd_plan.proofs.items.all_columns.Goals as goal

pub returns : goal.returns
returns c = record {
  parts = λ none.
      subst (λ (items : List Shows). OnOk c.right_columns.result (Makes c.args.buckets items c.right_columns.new.made))
      (all_scope c.args.columns.now c.columns-left.result.now _ c.columns-left.ensures.columns refl)
      (c.right_columns.ensures.added (plain_from 0 c.columns-left.result.now) (c.in_ok-columns_from.ensures.added [] none));
}
