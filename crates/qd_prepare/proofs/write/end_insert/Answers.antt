use Rattle.std.proofs.lemmas.Result.{on_ok_weaker}
use Rattle.qd_wal_entry.specs.Written.{with_row}
use Rattle.qd_prepare.proofs.write.end_insert.Goals as goal

pub returns-clause-added : goal.returns-clause-added
returns-clause-added c = on_ok_weaker c.end_insert.result (λ goes e h. goes (with_row e) (c.in_ok-end_row.ensures.ended e h)) c.end_insert.ensures.added
