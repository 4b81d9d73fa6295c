use Rattle.std.proofs.Common.{◌∙◌, sym}
use Rattle.qd_ilp.proofs.Cuts.{unquoted_more}
use Rattle.qd_ilp.proofs.cut.unquoted_bytes.Goals as goal

pub loop-i-preserved : goal.loop-i-preserved
loop-i-preserved c = λ front. c.loop-i.invariant front ∙ unquoted_more c.loop-i.i c.args.text.now front c.loop-i-test.true (sym c.is_quote_or_backslash.ensures.one ∙ c.if-is_quote_or_backslash.false)
