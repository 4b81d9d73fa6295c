use Rattle.std.proofs.Common.{◌≡◌, ◌∙◌, ℕ, List, length, map, take, sym, ap, subst, arith}
use Rattle.qd_sql_ast.specs.declared.tree.Item.{Item}
use Rattle.qd_bind.specs.Scoped.{scope}
use Rattle.qd_meaning.specs.declared.refusal.Refusal.{Refusal}
use Rattle.qd_meaning.specs.Items.{Shows, item_of}
use Rattle.qd_meaning.specs.Refusals.{least, sooner}
use Rattle.qd_meaning.specs.Scopes.{Scope}
use Rattle.qd_plan.specs.Listing.{item_faults}
use Rattle.qd_plan.specs.Showing.{Makes}
use Rattle.qd_plan.proofs.FaultLemmas.{all, map_all, map_more, more, none_more}
use Rattle.qd_plan.proofs.TableLemmas.{faults_listed}
use Rattle.qd_plan.proofs.items.listed.Goals as goal

pub loop-item-init : goal.loop-item-init
loop-item-init c = record { parts = λ none. none; faults = sym (none_more c.args.faults.now.first) }

pub loop-item-preserved : goal.loop-item-preserved
loop-item-preserved c =
    let columns : Scope = scope c.args.columns.now in
    let items : List Item = c.args.items.now in
    let i : ℕ = c.loop-item.item-index in
    let x : Item = c.item-item.result in
    let lt = c.loop-item-test.true in
    record {
      parts = λ none.
          subst (λ (shown : List Shows). Makes c.args.buckets shown c.add.new.self) (map_more (item_of columns) items i x (item_of columns x) lt (ap (item_of columns) c.item-item.is))
          (c.in_ok-add.ensures.added (map (item_of columns) (take i items)) (item_of columns x) (c.loop-item.invariant.parts none) c.in_ok-shown.ensures.item);
      faults =
          more (item_faults columns) items i x lt c.item-item.is c.args.faults.now.first c.loop-item.faults.first c.item_of.new.faults.first c.loop-item.invariant.faults
          c.in_ok-shown.ensures.faults;
    }

pub returns : goal.returns
returns c =
    let columns : Scope = scope c.args.columns.now in
    let items : List Item = c.args.items.now in
    let high = c.loop-item-test.false in
    let most = c.loop-item.auto.item-index-end in
    let end : c.loop-item.item-index ≡ length items = omega arith in
    record {
      parts = λ none. subst (λ (shown : List Shows). Makes c.args.buckets shown c.loop-item.made) (map_all (item_of columns) items c.loop-item.item-index end) (c.loop-item.invariant.parts none);
      faults =
          all (item_faults columns) items c.loop-item.item-index end c.args.faults.now.first c.loop-item.faults.first c.loop-item.invariant.faults
          ∙ ap (λ (rs : List Refusal). sooner c.args.faults.now.first (least rs)) (faults_listed columns items);
    }
