use Rattle.std.proofs.Common.{◌∙◌}
use Rattle.qd_expr.proofs.LiteralLemmas.{truths_part}
use Rattle.qd_expr.proofs.columns.trues.Goals as goal

pub returns-in_ok-from_slice-in-Bool : goal.returns-in_ok-from_slice-in-Bool
returns-in_ok-from_slice-in-Bool g c = record { truths = c.in_ok-from_slice-in-Bool.ensures.items ∙ truths_part c.truths.result.now c.args.column.now.cells c.args.from c.args.to c.truths.ensures.cells }
