use Rattle.qd_pgwire.proofs.ScriptLemmas.{one_reading}
use Rattle.qd_pgwire.proofs.front.PgFront.one_reading.Goals as goal

pub returns : goal.returns
returns c = one_reading
