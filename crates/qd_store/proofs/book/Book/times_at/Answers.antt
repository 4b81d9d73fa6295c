use Rattle.std.proofs.Common.{sym, subst}
use Rattle.qd_versions.specs.Reading.{IsPartAt}
use Rattle.qd_store.specs.Stores.{Book}
use Rattle.qd_store.proofs.book.Book.times_at.Goals as goal

pub returns-in-Ok-clause-fit : goal.returns-in-Ok-clause-fit
returns-in-Ok-clause-fit g c t p at = c.in-Ok.ensures.fit t p (subst (λ (s : Book). IsPartAt s.versions.versions c.args.row c.args.table c.args.i t p) (sym c.self.view_is) at)
