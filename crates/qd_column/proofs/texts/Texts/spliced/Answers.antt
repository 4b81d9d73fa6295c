use Rattle.std.proofs.Common.{◌≡◌, ◌∙◌, ◌++◌, List, ap}
use Rattle.qd_column.proofs.RunLemmas.{laid_on, of_first, of_second}
use Rattle.qd_column.proofs.texts.Texts.spliced.Goals as goal
use Rattle.qd_column.proofs.texts.Texts.spliced.Goals.{in-First+in_ok-push_part-in-First, in-Second+in_ok-push_part-in-Second}

pub loop-run-preserved : goal.loop-run-preserved
loop-run-preserved c = elim c.match-run.branch [
  | in-First+in_ok-push_part-in-First w ↦ w.texts-is ∙ laid_on c.args.first.now c.args.second.now c.args.runs.now c.loop-run.run-index _ c.loop-run.texts w.push_part.new.self c.loop-run-test.true c.loop-run.invariant (w.in_ok-push_part-in-First.ensures.ok ∙ ap (λ l. c.loop-run.texts ++ l) (of_first c.args.first.now c.args.second.now _ w.in-First.is))
  | in-Second+in_ok-push_part-in-Second w ↦ w.texts-is ∙ laid_on c.args.first.now c.args.second.now c.args.runs.now c.loop-run.run-index _ c.loop-run.texts w.push_part-in-Second.new.self c.loop-run-test.true c.loop-run.invariant (w.in_ok-push_part-in-Second.ensures.ok ∙ ap (λ l. c.loop-run.texts ++ l) (of_second c.args.first.now c.args.second.now _ w.in-Second.is))
]
