use Rattle.std.proofs.Common.{[]}
use Rattle.std.proofs.lemmas.Result.{err_from_is_err_and}
use Rattle.qd_store.specs.Stores.{Book}
use Rattle.qd_store.proofs.CreateTold.{book_of_none, is_marked_told, none_shown, not_logged_told, not_marked_told, not_rooted_told, sound_of}
use Rattle.qd_store.proofs.OpenedStore.{alone_of_it, first_of_it}
use Rattle.qd_store.proofs.book.Book.create.Goals as goal

pub returns-in_err-sequencer-clause-told : goal.returns-in_err-sequencer-clause-told
returns-in_err-sequencer-clause-told g c =
    let p = err_from_is_err_and c.from_residual.result c.from_residual.ensures.1 in
    rw p.1 (not_logged_told c.in_err-sequencer.field-0.0 p.0 _ _ c.in_err-sequencer.ensures.told)

pub returns-in_err-versions-clause-told : goal.returns-in_err-versions-clause-told
returns-in_err-versions-clause-told g c =
    let p = err_from_is_err_and c.from_residual-in_err-versions.result c.from_residual-in_err-versions.ensures.1 in
    rw p.1 (not_rooted_told c.in_ok-sequencer.sequencer c.in_err-versions.field-0.0 p.0 _ _ _ c.in_ok-sequencer.ensures.told c.in_err-versions.ensures.told)

pub returns-in_err-write_mark-clause-told : goal.returns-in_err-write_mark-clause-told
returns-in_err-write_mark-clause-told g c =
    let p = err_from_is_err_and c.from_residual-in_err-write_mark.result c.from_residual-in_err-write_mark.ensures.1 in
    let s : Book = record { sequence = c.in_ok-sequencer.sequencer; versions = c.in_ok-versions.versions; limits = c.args.limits } in
    rw p.1 (not_marked_told s c.other_files_leave_the_sequence.ensures (sound_of c.in_ok-versions.versions c.keeps_its_law.ensures.law c.in_ok-versions.ensures.opened) c.in_ok-versions.ensures.clean c.in_ok-versions.ensures.opened c.in_ok-versions.ensures.none
    c.in_err-write_mark.field-0.0 p.0 _ _ _ _ c.in_ok-sequencer.ensures.told c.in_ok-versions.ensures.told c.in_err-write_mark.ensures.told)

pub invariant_of-result : goal.invariant_of-result
invariant_of-result g c = book_of_none (record { sequence = c.in_ok-sequencer.sequencer; versions = c.in_ok-versions.versions; limits = c.args.limits }) c.requires.limits c.in_ok-sequencer.ensures.empty.0 c.in_ok-versions.ensures.opened

pub returns-clause-empty : goal.returns-clause-empty
returns-clause-empty g c = (c.in_ok-sequencer.ensures.empty.0, none_shown c.in_ok-versions.versions c.keeps_its_law.ensures.law c.in_ok-versions.ensures.opened)

pub returns-clause-told : goal.returns-clause-told
returns-clause-told g c =
    let s : Book = record { sequence = c.in_ok-sequencer.sequencer; versions = c.in_ok-versions.versions; limits = c.args.limits } in
    is_marked_told s c.other_files_leave_the_sequence.ensures (sound_of c.in_ok-versions.versions c.keeps_its_law.ensures.law c.in_ok-versions.ensures.opened) c.in_ok-versions.ensures.clean c.in_ok-versions.ensures.opened c.in_ok-versions.ensures.none
    c.in_ok-write_mark.field-0 _ _ _ _ c.in_ok-sequencer.ensures.told c.in_ok-versions.ensures.told c.in_ok-write_mark.ensures.told

pub returns-clause-alone : goal.returns-clause-alone
returns-clause-alone g c = alone_of_it c.in_ok-versions.versions.versions 0 0 [] c.in_ok-versions.ensures.opened

pub returns-clause-first : goal.returns-clause-first
returns-clause-first g c = first_of_it c.in_ok-versions.versions.versions 0 0 [] c.in_ok-versions.ensures.opened
