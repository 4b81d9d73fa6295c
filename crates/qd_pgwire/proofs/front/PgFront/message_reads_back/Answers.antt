use Rattle.qd_pgwire.proofs.BackLemmas.{message_back}
use Rattle.qd_pgwire.proofs.front.PgFront.message_reads_back.Goals as goal

pub returns : goal.returns
returns c = message_back
