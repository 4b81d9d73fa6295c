use Rattle.std.proofs.Common.{◌≡◌, ◌∙◌, ◌++◌, List, ap}
use Rattle.qd_column.proofs.RunLemmas.{laid_on}
use Rattle.qd_column.proofs.runs.spliced.Goals as goal

pub loop-run-preserved : goal.loop-run-preserved
loop-run-preserved g c =
    laid_on c.args.first.now c.args.second.now c.args.runs.now c.loop-run.run-index _ c.loop-run.items.items c.extend_from_slice.new.self.items c.loop-run-test.true c.loop-run.invariant
    (c.in_ok-extend_from_slice.ensures.items ∙ ap (λ l. c.loop-run.items.items ++ l) c.items_of.ensures.items)
