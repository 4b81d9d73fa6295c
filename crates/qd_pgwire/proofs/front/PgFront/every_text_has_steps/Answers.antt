use Rattle.qd_pgwire.proofs.ScriptLemmas.{has_steps}
use Rattle.qd_pgwire.proofs.front.PgFront.every_text_has_steps.Goals as goal

pub returns : goal.returns
returns c = has_steps
