use Rattle.std.proofs.Common.{Ok, List}
use Rattle.qd_base.specs.declared.op.Entry.{Entry}
use Rattle.qd_store.specs.Drafts.{IsDraftedFrom}
use Rattle.qd_store.proofs.Rounds.{merged_next, merged_over}
use Rattle.qd_store_backend.specs.Rounds.{IsNextFrom}
use Rattle.qd_store_backend.proofs.Turns.{from_each, merged_on}
use Rattle.qd_store_backend.proofs.rounds.next_of.Goals as goal

pub returns-clause-over : goal.returns-clause-over
returns-clause-over g c =
    merged_over c.args.store.now.store.versions.versions c.in_ok-draft.draft c.in_ok-merged.merged c.in_ok-draft.ensures.over c.in_ok-merged.ensures.merged c.in_ok-merged.ensures.grows

pub returns-clause-upto : goal.returns-clause-upto
returns-clause-upto g c =
    merged_on c.args.store.now.store c.in_ok-draft.draft c.in_ok-merged.merged c.args.upto c.in_ok-draft.ensures.over c.in_ok-merged.ensures.merged c.in_ok-draft.ensures.upto

pub returns-clause-told : goal.returns-clause-told
returns-clause-told g c =
    let s = c.args.store.now.store in
    let d = c.in_ok-draft.draft in
    let m = c.in_ok-merged.merged in
    from_each (λ (h : List Entry). IsDraftedFrom (Ok d) s h c.args.upto) (λ (h : List Entry). IsNextFrom (Ok m) s h) s c.args.store.now.storage.disk
    (λ h is. merged_next s h c.args.upto d m is c.in_ok-merged.ensures.merged) c.in_ok-draft.ensures.told
