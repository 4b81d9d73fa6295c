use Rattle.std.proofs.Common.{◌∙◌}
use Rattle.qd_print.specs.Printed.{reply_bytes}
use Rattle.qd_gen.specs.Quieted.{without_done}
use Rattle.qd_top.proofs.RunLemmas.{quiet-spell-frames}
use Rattle.qd_top.proofs.program.serve_quietly.Goals as goal

pub returns-clause-ran : goal.returns-clause-ran
returns-clause-ran g c = c.serve_ends.ensures.ran (without_done reply_bytes) (quiet-spell-frames c.new-quiet.result.front (c.new-quiet.ensures.given ∙ c.new.ensures.empty))
