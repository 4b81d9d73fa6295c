use Rattle.std.proofs.Common.{◌∙◌, sym}
use Rattle.qd_ilp.proofs.Cuts.{plain_more}
use Rattle.qd_ilp.proofs.cut.plain_bytes.Goals as goal

pub loop-i-preserved : goal.loop-i-preserved
loop-i-preserved c = c.loop-i.invariant ∙ plain_more c.loop-i.i c.args.text.now c.loop-i-test.true (sym c.is_plain.ensures.plain ∙ c.if-not-is_plain.false)
