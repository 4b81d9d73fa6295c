use Rattle.std.proofs.Common.{◌∙◌}
use Rattle.qd_base.specs.declared.request.Reply.TheVariants as reply
use Rattle.qd_print.specs.Printed.{reply_bytes}
use Rattle.qd_top.proofs.RunLemmas.{cut-from_fault}
use Rattle.qd_top.proofs.opening.say_damage.Goals as goal

pub returns-in-Err-Failed-clause-said : goal.returns-in-Err-Failed-clause-said
returns-in-Err-Failed-clause-said g c =
    let line = c.bytes.ensures.same ∙ c.in-Ok.ensures.bytes in
    cut-from_fault (g.K.Ends.stream c.args.output.now).output (g.K.Ends.stream c.write_all.new.sink).output c.bytes.result.now (reply_bytes (reply.Damaged c.args.file c.args.at)) c.in-Err-Failed.field-0 line c.in-Err-Failed.ensures.told

pub returns-clause-said : goal.returns-clause-said
returns-clause-said g c =
    let line = c.bytes.ensures.same ∙ c.in-Ok.ensures.bytes in
    cut-from_fault (g.K.Ends.stream c.args.output.now).output (g.K.Ends.stream c.write_all.new.sink).output c.bytes.result.now (reply_bytes (reply.Damaged c.args.file c.args.at)) c.in-Err-Memory.field-0 line c.in-Err-Memory.ensures.told
