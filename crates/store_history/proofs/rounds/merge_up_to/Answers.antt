use Rattle.qd_store.proofs.Rounds.{merged_over, merged_bounds}
use Rattle.store_history.proofs.rounds.merge_up_to.Goals as goal

pub returns-clause-over : goal.returns-clause-over
returns-clause-over g c = merged_over c.args.store.now.store.versions.versions c.in_ok-draft.draft c.in_ok-merged.merged c.in_ok-draft.ensures.over c.in_ok-merged.ensures.merged c.in_ok-merged.ensures.grows

pub returns-clause-upto : goal.returns-clause-upto
returns-clause-upto g c =
    (merged_bounds c.args.store.now.store.versions.versions c.in_ok-draft.draft c.in_ok-merged.merged c.args.upto c.in_ok-draft.ensures.over c.in_ok-merged.ensures.merged c.in_ok-draft.ensures.upto).1
