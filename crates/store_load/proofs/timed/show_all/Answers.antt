use Rattle.std.proofs.Common.{◌≤◌, length, sym, subst, arith}
use Rattle.qd_store.specs.Drafts.{IsMergedOver}
use Rattle.qd_store.specs.Stores.{Book}
use Rattle.qd_store.proofs.Rounds.{merged_over, merged_bounds}
use Rattle.store_load.proofs.timed.show_all.Goals as goal

pub publish-requires-clause-few : goal.publish-requires-clause-few
publish-requires-clause-few g c =
    let versions = c.args.store.now.store.versions.versions in
    let bounds = merged_bounds versions c.in_ok-draft.draft c.in_ok-merged.merged c.hist_len-upto.result c.in_ok-draft.ensures.over c.in_ok-merged.ensures.merged c.in_ok-draft.ensures.upto in
    let few : c.in_ok-merged.merged.upto ≤ length c.args.store.now.store.sequence.refs = let most = bounds.1 in omega (arith, most, c.hist_len-upto.ensures.count) in
    subst (λ (s : Book). c.in_ok-merged.merged.upto ≤ length s.sequence.refs) (sym c.in_ok-draft.ensures.store) few

pub publish-requires-clause-over : goal.publish-requires-clause-over
publish-requires-clause-over g c current =
    let versions = c.args.store.now.store.versions.versions in
    let over = merged_over versions c.in_ok-draft.draft c.in_ok-merged.merged c.in_ok-draft.ensures.over c.in_ok-merged.ensures.merged c.in_ok-merged.ensures.grows in
    subst (λ (s : Book). IsMergedOver s.versions.versions c.in_ok-merged.merged) (sym c.in_ok-draft.ensures.store) over
