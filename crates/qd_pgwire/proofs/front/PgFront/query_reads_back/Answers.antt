use Rattle.qd_pgwire.proofs.BackLemmas.{query_back, text_back}
use Rattle.qd_pgwire.proofs.front.PgFront.query_reads_back.Goals as goal

pub returns-clause-found : goal.returns-clause-found
returns-clause-found c = query_back

pub returns-clause-text : goal.returns-clause-text
returns-clause-text c = text_back
