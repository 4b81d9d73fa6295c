use Rattle.qd_pgwire.proofs.BackLemmas.{start_back_none, start_back_some}
use Rattle.qd_pgwire.proofs.front.PgFront.start_reads_back.Goals as goal

pub returns-clause-none : goal.returns-clause-none
returns-clause-none c = start_back_none

pub returns-clause-some : goal.returns-clause-some
returns-clause-some c = start_back_some
