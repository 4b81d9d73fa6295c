use Rattle.std.proofs.Common.{◌≡◌, List, None, Option, Some, get_or, refl, subst, sym}
use Rattle.qd_store.specs.Stores.{Book}
use Rattle.qd_catalog.specs.declared.version.Version as catalog
use Rattle.qd_store.proofs.Books.{book_same}
use Rattle.qd_store.proofs.CallsTold.{rows_of, swept_told}
use Rattle.qd_store.proofs.book.Book.sweep.Goals as goal

pub invariant_of-self : goal.invariant_of-self
invariant_of-self g c =
    let inside : Book = record { sequence = c.self.inside.sequencer; versions = c.self.inside.versions; limits = c.self.inside.limits } in
    let new : Book = record { sequence = c.self.inside.sequencer; versions = c.sweep.new.self; limits = c.self.inside.limits } in
    let same = rows_of _ c.self.inside.versions c.sweep.new.self c.sweep.result c.sweep.ensures.swept c.sweep.ensures.idle c.sweep.ensures.same in
    book_same inside new c.self.invariant refl refl (λ row x at. subst (λ (l : List (Option catalog.Version)). get_or l row None ≡ Some x) same.0 at)

pub returns-clause-told : goal.returns-clause-told
returns-clause-told g c =
    let inside : Book = record { sequence = c.self.inside.sequencer; versions = c.self.inside.versions; limits = c.self.inside.limits } in
    let new : Book = record { sequence = c.self.inside.sequencer; versions = c.sweep.new.self; limits = c.self.inside.limits } in
    swept_told c.sweep.result c.args.self.now inside new _ _ (sym c.self.view_is) refl c.keeps_its_law.ensures.law c.other_files_leave_the_sequence.ensures
    (rows_of _ c.self.inside.versions c.sweep.new.self c.sweep.result c.sweep.ensures.swept c.sweep.ensures.idle c.sweep.ensures.same) c.sweep.ensures.unlisted c.sweep.ensures.told
