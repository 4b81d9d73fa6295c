use Rattle.std.proofs.Common.{sym, subst}
use Rattle.qd_versions.specs.Reading.{IsPartAt}
use Rattle.qd_store.specs.Stores.{Book}
use Rattle.qd_store.proofs.PartsRead.{shown_told}
use Rattle.qd_store.proofs.book.Book.read_part.Goals as goal

pub returns-clause-shown : goal.returns-clause-shown
returns-clause-shown g c = shown_told c.one_block_is_held.ensures c.read_part.result c.args.self.now c.args.row c.args.table c.args.i _ c.requires.there.0 c.requires.there.1 c.requires.there.2 (λ t p at. c.read_part.ensures.told t p (subst (λ (s : Book). IsPartAt s.versions.versions c.args.row c.args.table c.args.i t p) (sym c.self.view_is) at))
