use Rattle.std.proofs.Common.{◌∙◌, sym}
use Rattle.qd_ilp.proofs.Tails.{end_more, end_done, end_over}
use Rattle.qd_ilp.proofs.tail.line_bytes.Goals as goal

pub returns-then-at_end-clause-rest : goal.returns-then-at_end-clause-rest
returns-then-at_end-clause-rest c =
    sym c.behind.ensures.rest ∙ sym (c.loop-i.invariant ∙ end_done c.loop-i.i c.args.text.now c.behind.result.now c.loop-i-test.true c.behind.ensures.rest (sym c.at_end.ensures.ends ∙ c.if-at_end.true))

pub loop-i-preserved : goal.loop-i-preserved
loop-i-preserved c = c.loop-i.invariant ∙ end_more c.loop-i.i c.args.text.now c.behind.result.now c.loop-i-test.true c.behind.ensures.rest (sym c.at_end.ensures.ends ∙ c.if-at_end.false)

pub returns-clause-rest : goal.returns-clause-rest
returns-clause-rest c = sym (c.loop-i.invariant ∙ end_over c.loop-i.i c.args.text.now c.loop-i-test.false)
