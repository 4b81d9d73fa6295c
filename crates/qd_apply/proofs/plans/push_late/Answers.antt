use Rattle.std.proofs.Common.{◌≡◌, ◌<◌, ◌∙◌, ◌++◌, List, length, get_or, ap, subst}
use Rattle.std.proofs.lemmas.List.{get_or_default}
use Rattle.qd_merge.specs.declared.shares.Share.{Share}
use Rattle.qd_merge.specs.declared.shares.Share.TheVariants as share
use Rattle.qd_apply.specs.Olds.{late_by, times_of}
use Rattle.qd_apply.proofs.ServeLemmas.{late_next}
use Rattle.qd_apply.proofs.plans.push_late.Goals as goal

pub loop-share-preserved : goal.loop-share-preserved
loop-share-preserved c =
    let p = c.args.plan.now in
    let list : List Share = c.args.plan.now.shares.items in
    let i = c.loop-share.share-index in
    let lent : List Share = c.as_slice-share-items.result.now in
    let a : Share = get_or lent i (share.Keep 0) in
    let lt : c.loop-share.share-index < length c.args.plan.now.shares.items = subst (λ (l : List Share). c.loop-share.share-index < length l) c.as_slice-share-items.ensures.value c.loop-share-test.true in
    let is : a ≡ get_or list i a = get_or_default lent i (share.Keep 0) a c.loop-share-test.true ∙ ap (λ (l : List Share). get_or l i a) c.as_slice-share-items.ensures.value in
    late_next c.args.table (times_of p.batch) i list a c.loop-share.list.items c.push_share.new.list.items (c.args.list.now.items ++ late_by c.args.table (times_of p.batch) list) lt is c.loop-share.invariant c.in_ok-push_share.ensures.added
