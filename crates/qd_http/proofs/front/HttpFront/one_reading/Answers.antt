use Rattle.qd_http.proofs.ScriptLemmas.{one_reading}
use Rattle.qd_http.proofs.front.HttpFront.one_reading.Goals as goal

pub returns : goal.returns
returns c = one_reading
