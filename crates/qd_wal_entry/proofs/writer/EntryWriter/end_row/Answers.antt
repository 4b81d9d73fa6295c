use Rattle.std.proofs.Common.{sym, subst}
use Rattle.qd_wal_entry.specs.contracts.writer.EntryWriter.{the_view}
use Rattle.qd_wal_entry.specs.Written.{EndsRow, HasRoom, IsSoFar, Written}
use Rattle.qd_wal_entry.proofs.WriterLemmas.{row_ended}
use Rattle.qd_wal_entry.proofs.writer.EntryWriter.end_row.Goals as goal

pub returns-clause-ended : goal.returns-clause-ended
returns-clause-ended c = λ e has. row_ended (the_view c.self.inside) e (subst (λ (w : Written). IsSoFar w e) (sym c.self.view_is) has) (subst EndsRow (sym c.self.view_is) c.requires.whole) (subst HasRoom (sym c.self.view_is) c.requires.room)
