use Rattle.std.proofs.Common.{◌∙◌, sym}
use Rattle.qd_ilp.proofs.Cuts.{word_more, word_done, word_over, pair_is}
use Rattle.qd_ilp.proofs.cut.first_word.Goals as goal

pub loop-i-preserved : goal.loop-i-preserved
loop-i-preserved c =
    c.loop-i.invariant ∙ word_more c.loop-i.i c.args.text.now c.behind.result.now c.loop-i-test.true c.behind.ensures.rest (sym c.ends_word.ensures.ends ∙ c.if-ends_word.false)

pub returns-then-ends_word-clause-word : goal.returns-then-ends_word-clause-word
returns-then-ends_word-clause-word c =
    pair_is _ _ _ _ _ (word_done c.loop-i.i c.args.text.now c.behind.result.now c.behind.ensures.rest (sym c.ends_word.ensures.ends ∙ c.if-ends_word.true) c.loop-i.invariant) c.split_at.ensures.front c.split_at.ensures.back

pub returns-clause-word : goal.returns-clause-word
returns-clause-word c = pair_is _ _ _ _ _ (word_over c.loop-i.i c.args.text.now c.loop-i-test.false c.loop-i.invariant) c.split_at-2.ensures.front c.split_at-2.ensures.back
