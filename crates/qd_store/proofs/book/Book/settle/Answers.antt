use Rattle.std.proofs.Common.{refl, sym}
use Rattle.qd_store.specs.Stores.{Book}
use Rattle.qd_store.proofs.Settled.{settles_told}
use Rattle.qd_store.proofs.book.Book.settle.Goals as goal

pub returns-clause-told : goal.returns-clause-told
returns-clause-told g c =
    let inside : Book = record { sequence = c.self.inside.sequencer; versions = c.self.inside.versions; limits = c.self.inside.limits } in
    let new : Book = record { sequence = c.repair.new.self; versions = c.self.inside.versions; limits = c.self.inside.limits } in
    settles_told c.args.self.now inside new _ _ (sym c.self.view_is) c.keeps_its_law.ensures.law refl c.repair.ensures.told
