use Rattle.qd_pgwire.proofs.ScriptLemmas.{cut_anywhere}
use Rattle.qd_pgwire.proofs.front.PgFront.cut_anywhere.Goals as goal

pub returns : goal.returns
returns c = cut_anywhere
