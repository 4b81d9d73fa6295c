use Rattle.std.proofs.Common.{◌≤◌, List, length, refl, sym, ap, ◌∙◌, subst}
use Rattle.qd_base.specs.declared.part.WalRef.{WalRef}
use Rattle.std.proofs.lemmas.Result.{err_from_is_err_and}
use Rattle.qd_manifest.specs.Spelling.{schemas_in}
use Rattle.qd_manifest.specs.declared.shape.TableParts.{TableParts}
use Rattle.qd_seq.specs.States.{Log}
use Rattle.qd_store.specs.Stores.{Book}
use Rattle.qd_store.proofs.OpenSteps.{book_of_one, entries_failed, log_failed, log_opened, mark_failed, no_mark, no_memory, number_here, ready, root_opened, store_opened, sync_failed, tables_here, versions_failed}
use Rattle.qd_store.proofs.OpenedStore.{alone_of_it, first_of_it}
use Rattle.qd_store.proofs.opening.open.Goals as goal
use Rattle.qd_base.specs.declared.limits.TheConstants.{MAX_TXNS}

pub returns-in_err-is_marked-clause-told : goal.returns-in_err-is_marked-clause-told
returns-in_err-is_marked-clause-told g c =
    let p = err_from_is_err_and c.from_residual.result c.from_residual.ensures.1 in
    rw p.1 (rw p.2 (mark_failed c.in_err-is_marked.field-0.0 _ _ c.in_err-is_marked.ensures.stays))

pub returns-then-not-branch-clause-told : goal.returns-then-not-branch-clause-told
returns-then-not-branch-clause-told g c = no_mark _ _ c.in_ok-is_marked.ensures.stays c.in_ok-is_marked.field-0 c.if-not-branch.true c.in_ok-is_marked.ensures.told

pub returns-in_err-sync-clause-told : goal.returns-in_err-sync-clause-told
returns-in_err-sync-clause-told g c =
    let p = err_from_is_err_and c.from_residual-in_err-sync.result c.from_residual-in_err-sync.ensures.1 in
    rw p.1 (rw p.2 (sync_failed _ _ c.in_err-sync.field-0.0 c.in_err-sync.field-0.0 _ _ _ c.in_ok-is_marked.ensures.stays c.in_err-sync.ensures.told))

pub returns-in_err-log-clause-told : goal.returns-in_err-log-clause-told
returns-in_err-log-clause-told g c =
    let p = err_from_is_err_and c.from_residual-in_err-log.result c.from_residual-in_err-log.ensures.1 in
    rw p.1 (rw p.2 (log_failed _ _ _ c.damaged_gives_none.ensures c.in_err-log.field-0.0
    (ready _ _ c.in_ok-sync.field-0 _ _ _ c.in_ok-is_marked.ensures.stays c.in_ok-is_marked.field-0 c.if-not-branch.false c.in_ok-is_marked.ensures.told c.in_ok-sync.ensures.told) c.in_err-log.ensures.told))

pub returns-in_err-versions-clause-told : goal.returns-in_err-versions-clause-told
returns-in_err-versions-clause-told g c =
    let p = err_from_is_err_and c.from_residual-in_err-versions.result c.from_residual-in_err-versions.ensures.1 in
    rw p.1 (rw p.2 (versions_failed _ _ _ c.in_ok-log.log.refs c.one_list_is_given.ensures c.damaged_gives_no_store.ensures c.in_err-versions.field-0.0
    (log_opened _ _ _ c.in_ok-log.log (ready _ _ c.in_ok-sync.field-0 _ _ _ c.in_ok-is_marked.ensures.stays c.in_ok-is_marked.field-0 c.if-not-branch.false c.in_ok-is_marked.ensures.told c.in_ok-sync.ensures.told) c.in_ok-log.ensures.told)
    c.refs.result.now c.refs.ensures.list c.in_err-versions.ensures.told))

pub returns-in_err-schemas-clause-told : goal.returns-in_err-schemas-clause-told
returns-in_err-schemas-clause-told g c =
    let p = err_from_is_err_and c.from_residual-in_err-schemas.result c.from_residual-in_err-schemas.ensures.1 in
    rw p.1 (rw p.2 (no_memory c.in_ok-log.log.refs c.in_ok-versions.versions _ _
    (root_opened _ _ _ c.in_ok-log.log.refs c.other_files_leave_it.ensures c.in_ok-versions.versions
    (log_opened _ _ _ c.in_ok-log.log (ready _ _ c.in_ok-sync.field-0 _ _ _ c.in_ok-is_marked.ensures.stays c.in_ok-is_marked.field-0 c.if-not-branch.false c.in_ok-is_marked.ensures.told c.in_ok-sync.ensures.told) c.in_ok-log.ensures.told)
    c.refs.result.now c.refs.ensures.list c.in_ok-versions.ensures.told)))

pub returns-in_err-sequencer-clause-told : goal.returns-in_err-sequencer-clause-told
returns-in_err-sequencer-clause-told g c =
    let p = err_from_is_err_and c.from_residual-in_err-sequencer.result c.from_residual-in_err-sequencer.ensures.1 in
    let o = c.in_ok-versions.ensures.opened in
    let v = c.in_ok-versions.versions in
    let m = o.0 in
    rw p.1 (rw p.2 (entries_failed c.one_list_is_given.ensures c.one_version_is_given.ensures c.one_manifest_is_spelled.ensures c.in_ok-log.log.refs v m o.1 o.2
    c.in_ok-schemas.schemas (c.in_ok-schemas.ensures.schemas ∙ ap (λ (l : List TableParts). schemas_in l) (tables_here v m o.2 c.current-row.result c.current-row.ensures.row c.shape_of.result.now c.shape_of.ensures.shape))
    c.unwrap_or-n.result (number_here v m o.2 c.current-row.result c.current-row.ensures.row c.n_of.result c.unwrap_or-n.result c.n_of.ensures.n c.unwrap_or-n.ensures)
    _ _ _
    (root_opened _ _ _ c.in_ok-log.log.refs c.other_files_leave_it.ensures v
    (log_opened _ _ _ c.in_ok-log.log (ready _ _ c.in_ok-sync.field-0 _ _ _ c.in_ok-is_marked.ensures.stays c.in_ok-is_marked.field-0 c.if-not-branch.false c.in_ok-is_marked.ensures.told c.in_ok-sync.ensures.told) c.in_ok-log.ensures.told)
    c.refs.result.now c.refs.ensures.list c.in_ok-versions.ensures.told)
    c.in_err-sequencer.ensures.stays c.in_err-sequencer.field-0.0 c.in_err-sequencer.ensures.told))

pub invariant_of-result : goal.invariant_of-result
invariant_of-result g c =
    let s : Book = record { sequence = c.in_ok-sequencer.sequencer; versions = c.in_ok-versions.versions; limits = c.args.limits } in
    let few : length s.sequence.refs ≤ MAX_TXNS = subst (λ (l : List WalRef). length l ≤ MAX_TXNS) (sym (c.in_ok-sequencer.ensures.list.0 ∙ ap (λ (k : Log). k.refs) (sym c.log.view_is))) c.log.invariant.0 in
    book_of_one s c.in_ok-versions.ensures.opened.0 c.requires.limits few c.in_ok-versions.ensures.opened.2 (rw c.in_ok-sequencer.ensures.list.0 (subst (λ (l : List WalRef). c.in_ok-versions.versions.root.n ≤ length l) c.refs.ensures.list c.in_ok-versions.ensures.shown))

pub returns-clause-told : goal.returns-clause-told
returns-clause-told g c =
    let s : Book = record { sequence = c.in_ok-sequencer.sequencer; versions = c.in_ok-versions.versions; limits = c.args.limits } in
    let o = c.in_ok-versions.ensures.opened in
    let v = c.in_ok-versions.versions in
    let m = o.0 in
    store_opened c.one_list_is_given.ensures c.one_version_is_given.ensures c.one_manifest_is_spelled.ensures c.in_ok-log.log.refs v m o.1 o.2
    c.in_ok-schemas.schemas (c.in_ok-schemas.ensures.schemas ∙ ap (λ (l : List TableParts). schemas_in l) (tables_here v m o.2 c.current-row.result c.current-row.ensures.row c.shape_of.result.now c.shape_of.ensures.shape))
    c.unwrap_or-n.result (number_here v m o.2 c.current-row.result c.current-row.ensures.row c.n_of.result c.unwrap_or-n.result c.n_of.ensures.n c.unwrap_or-n.ensures)
    _ _ _
    (root_opened _ _ _ c.in_ok-log.log.refs c.other_files_leave_it.ensures v
    (log_opened _ _ _ c.in_ok-log.log (ready _ _ c.in_ok-sync.field-0 _ _ _ c.in_ok-is_marked.ensures.stays c.in_ok-is_marked.field-0 c.if-not-branch.false c.in_ok-is_marked.ensures.told c.in_ok-sync.ensures.told) c.in_ok-log.ensures.told)
    c.refs.result.now c.refs.ensures.list c.in_ok-versions.ensures.told)
    c.in_ok-sequencer.ensures.stays c.damaged_gives_none.ensures c.damaged_gives_no_store.ensures
    (subst (λ (l : List WalRef). v.root.n ≤ length l) c.refs.ensures.list c.in_ok-versions.ensures.shown) c.in_ok-versions.ensures.none s refl c.in_ok-sequencer.ensures.list.0 c.in_ok-sequencer.ensures.told

pub returns-clause-alone : goal.returns-clause-alone
returns-clause-alone g c =
    let v = c.in_ok-versions.versions in
    let o = c.in_ok-versions.ensures.opened in
    alone_of_it v.versions v.root.n o.0.next_block o.0.shape o.2

pub returns-clause-first : goal.returns-clause-first
returns-clause-first g c =
    let v = c.in_ok-versions.versions in
    let o = c.in_ok-versions.ensures.opened in
    first_of_it v.versions v.root.n o.0.next_block o.0.shape o.2
