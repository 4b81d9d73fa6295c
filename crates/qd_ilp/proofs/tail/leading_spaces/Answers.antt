use Rattle.std.proofs.Common.{◌∙◌, sym}
use Rattle.qd_ilp.proofs.Tails.{spaces_more, spaces_done, spaces_over}
use Rattle.qd_ilp.proofs.tail.leading_spaces.Goals as goal

pub returns-then-byte-ne32-clause-rest : goal.returns-then-byte-ne32-clause-rest
returns-then-byte-ne32-clause-rest c = sym (c.loop-i.invariant ∙ spaces_done c.loop-i.i c.args.text.now c.loop-i-test.true c.if-byte-ne32.true)

pub loop-i-preserved : goal.loop-i-preserved
loop-i-preserved c = c.loop-i.invariant ∙ spaces_more c.loop-i.i c.args.text.now c.loop-i-test.true c.if-byte-ne32.false

pub returns-clause-rest : goal.returns-clause-rest
returns-clause-rest c = sym (c.loop-i.invariant ∙ spaces_over c.loop-i.i c.args.text.now c.loop-i-test.false)
