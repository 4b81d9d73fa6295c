use Rattle.std.proofs.Common.{rules, ◌≡◌, ◌<◌, length, get_or, arith}
use Rattle.std.proofs.lemmas.List.{get_or_default}
use Rattle.qd_merge.specs.declared.shares.Share.{Share}
use Rattle.qd_merge.specs.declared.shares.Share.TheVariants as share
use Rattle.qd_apply.proofs.GivenLemmas.{reads_next}
use Rattle.qd_apply.proofs.PlanLemmas.{reads_few}
use Rattle.qd_apply.proofs.plans.reads_in.Goals as goal

pub overflow_add-count : goal.overflow_add-count
overflow_add-count c =
    let list = c.args.shares.now in
    let i = c.loop-share.share-index in
    let a : Share = get_or list i (share.Keep 0) in
    let lt : c.loop-share.share-index < length c.args.shares.now = c.loop-share-test.true in
    let is : a ≡ get_or list i a = get_or_default list i (share.Keep 0) a lt in
    let few : length c.args.shares.now < 18446744073709551616 = search rules in
    omega (arith, c.loop-share.invariant, reads_next i list a lt is, c.reads_of-count.ensures.reads, reads_few list, few)

pub loop-share-preserved : goal.loop-share-preserved
loop-share-preserved c =
    let list = c.args.shares.now in
    let i = c.loop-share.share-index in
    let a : Share = get_or list i (share.Keep 0) in
    let lt : c.loop-share.share-index < length c.args.shares.now = c.loop-share-test.true in
    let is : a ≡ get_or list i a = get_or_default list i (share.Keep 0) a lt in
    omega (arith, c.loop-share.invariant, reads_next i list a lt is, c.reads_of-count.ensures.reads)
