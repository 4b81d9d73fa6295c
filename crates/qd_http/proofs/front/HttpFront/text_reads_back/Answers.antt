use Rattle.qd_http.proofs.EscapeLemmas.{reads_back}
use Rattle.qd_http.proofs.front.HttpFront.text_reads_back.Goals as goal

pub returns : goal.returns
returns c text rest = reads_back rest text
