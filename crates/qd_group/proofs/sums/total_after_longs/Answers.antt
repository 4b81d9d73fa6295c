use Rattle.std.proofs.Common.{◌∙◌, arith, ap}
use Rattle.std.specs.Prelude.{fold}
use Rattle.std.proofs.lemmas.Int.{to_z-of_z}
use Rattle.std.proofs.lemmas.List.{take_all}
use Rattle.std.proofs.lemmas.List.Sums.{fold_more}
use Rattle.qd_column.specs.Cells.{long_cell}
use Rattle.qd_meaning.specs.Grouped.{plus}
use Rattle.qd_group.proofs.sums.total_after_longs.Goals as goal

pub loop-number-preserved : goal.loop-number-preserved
loop-number-preserved c = grind (arith, to_z-of_z, fold_more)

pub returns : goal.returns
returns c = c.loop-number.invariant ∙ ap (fold (λ t x. plus (long_cell x) t) c.args.total) (take_all c.loop-number.number-index c.args.numbers.now (omega arith))
