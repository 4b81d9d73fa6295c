use Rattle.qd_pgwire.proofs.FindLemmas.{whole_more, wrong_more}
use Rattle.qd_pgwire.proofs.front.PgFront.finding_is_final.Goals as goal

pub returns-clause-wrong : goal.returns-clause-wrong
returns-clause-wrong c = wrong_more

pub returns-clause-whole : goal.returns-clause-whole
returns-clause-whole c = whole_more
