use Rattle.qd_http.proofs.ScriptLemmas.{has_steps}
use Rattle.qd_http.proofs.front.HttpFront.every_text_has_steps.Goals as goal

pub returns : goal.returns
returns c = has_steps
