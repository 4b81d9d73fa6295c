use Rattle.qd_http.proofs.ScriptLemmas.{cut_anywhere}
use Rattle.qd_http.proofs.front.HttpFront.cut_anywhere.Goals as goal

pub returns : goal.returns
returns c = cut_anywhere
