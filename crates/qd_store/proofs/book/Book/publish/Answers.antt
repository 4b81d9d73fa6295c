use Rattle.std.proofs.Common.{All, ◌≤◌, length, refl, sym, subst}
use Rattle.qd_versions.specs.Publishing.{AreNumbered, MayGrow, MayPublish}
use Rattle.qd_versions.proofs.Steps.{numbered_at}
use Rattle.qd_store.specs.Stores.{Book}
use Rattle.qd_store.proofs.Published.{book_of, published_told}
use Rattle.qd_store.proofs.book.Book.publish.Goals as goal

pub invariant_of-self : goal.invariant_of-self
invariant_of-self g c =
    let inside : Book = record { sequence = c.self.inside.sequencer; versions = c.self.inside.versions; limits = c.self.inside.limits } in
    let new : Book = record { sequence = c.self.inside.sequencer; versions = c.publish.new.self; limits = c.self.inside.limits } in
    book_of inside new c.args.n c.args.shape.now c.self.invariant (subst (λ (s : Book). c.args.n ≤ length s.sequence.refs) (sym c.self.view_is) c.requires.few) refl refl c.publish.result c.publish.ensures.added c.publish.ensures.same

pub returns-clause-told : goal.returns-clause-told
returns-clause-told g c =
    let inside : Book = record { sequence = c.self.inside.sequencer; versions = c.self.inside.versions; limits = c.self.inside.limits } in
    let new : Book = record { sequence = c.self.inside.sequencer; versions = c.publish.new.self; limits = c.self.inside.limits } in
    published_told c.publish.result c.args.self.now inside new c.args.n c.args.shape.now c.args.blocks.now c.args.grown.now _ _ (sym c.self.view_is) c.keeps_its_law.ensures.law c.other_files_leave_the_sequence.ensures c.first_rows_are_held.ensures c.one_column_is_spelled.ensures
    (subst (λ (s : Book). MayPublish s.versions.versions c.args.n c.args.shape.now (length c.args.blocks.now)) (sym c.self.view_is) c.requires.may)
    (subst (λ (s : Book). All (MayGrow s.versions.versions) c.args.grown.now) (sym c.self.view_is) c.requires.grows)
    (numbered_at c.self.inside.versions.versions.next_block c.args.blocks.now (subst (λ (s : Book). AreNumbered s.versions.versions.next_block c.args.blocks.now) (sym c.self.view_is) c.requires.numbered))
    refl c.publish.ensures.added c.publish.ensures.same c.publish.ensures.told
