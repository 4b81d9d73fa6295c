use Rattle.std.proofs.Common.{ℕ, List, inr, subst, ◌∙◌}
use Rattle.qd_top.specs.Run.{Answered, outside}
use Rattle.qd_top.proofs.arguments.run_program.Goals as goal

pub returns-in-Ok-words_of-clause-answered : goal.returns-in-Ok-words_of-clause-answered
returns-in-Ok-words_of-clause-answered g c =
    let Says : List (List ℕ) → Type 0 = λ words. Answered words c.args.told.now.history (outside (g.S.Ends.stream c.args.input.now) (g.K.Ends.stream c.args.output.now) (g.H.Host.supply c.args.host.now)) (outside (g.S.Ends.stream c.top.new.input) (g.K.Ends.stream c.top.new.output) (g.H.Host.supply c.top.new.host)) c.top.result in
    let words = c.as_slice.ensures.value ∙ c.in-Ok-words_of.ensures.words in
    inr (rw c.in-Ok.is (subst Says words c.top.ensures.answered))

pub returns-in-Ok-words_of-clause-unread : goal.returns-in-Ok-words_of-clause-unread
returns-in-Ok-words_of-clause-unread g c = λ none. c.top.ensures.unread (inr none)

pub returns-in-Err-2-clause-answered : goal.returns-in-Err-2-clause-answered
returns-in-Err-2-clause-answered g c = inr (rw c.in-Err-2.is c.top-in-Err-2.ensures.answered)

pub returns-in-Err-2-clause-unread : goal.returns-in-Err-2-clause-unread
returns-in-Err-2-clause-unread g c = λ none. c.top-in-Err-2.ensures.unread (inr none)
