use Rattle.std.proofs.Common.{◌≢◌, refl, sym, subst}
use Rattle.qd_store.specs.Stores.{Book}
use Rattle.qd_store.proofs.Books.{book_same}
use Rattle.qd_store.proofs.CallsTold.{retired_holds}
use Rattle.qd_store.proofs.Retiring.{was_live}
use Rattle.qd_store.proofs.book.Book.retire.Goals as goal

pub invariant_of-self : goal.invariant_of-self
invariant_of-self c =
    let inside : Book = record { sequence = c.self.inside.sequencer; versions = c.self.inside.versions; limits = c.self.inside.limits } in
    let new : Book = record { sequence = c.self.inside.sequencer; versions = c.retire.new.self; limits = c.self.inside.limits } in
    book_same inside new c.self.invariant refl refl (was_live inside.versions new.versions c.args.row c.retire.ensures.retired)

pub returns-clause-holds : goal.returns-clause-holds
returns-clause-holds c =
    let inside : Book = record { sequence = c.self.inside.sequencer; versions = c.self.inside.versions; limits = c.self.inside.limits } in
    let new : Book = record { sequence = c.self.inside.sequencer; versions = c.retire.new.self; limits = c.self.inside.limits } in
    retired_holds c.args.self.now inside new c.args.row (sym c.self.view_is) refl c.retire.ensures.retired (subst (λ (s : Book). c.args.row ≢ s.versions.versions.current) (sym c.self.view_is) c.requires.older) c.retire.ensures.root c.retire.ensures.tails
