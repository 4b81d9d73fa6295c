use Rattle.qd_print.specs.Printed.{reply_bytes}
use Rattle.qd_top.proofs.RunLemmas.{frames_spell-frames}
use Rattle.qd_top.proofs.program.run.Goals as goal

pub returns-clause-ran : goal.returns-clause-ran
returns-clause-ran g c = c.serve_ends.ensures.ran reply_bytes (frames_spell-frames c.new-front.result c.new-front.ensures.empty)
