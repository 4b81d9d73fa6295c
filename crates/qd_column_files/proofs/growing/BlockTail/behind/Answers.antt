use Rattle.std.proofs.Common.{◌∙◌, ap}
use Rattle.qd_column_format.specs.Tails.{behind}
use Rattle.qd_column_files.proofs.GrowLemmas.{tails_more}
use Rattle.qd_column_files.proofs.growing.BlockTail.behind.Goals as goal

pub loop-col-preserved : goal.loop-col-preserved
loop-col-preserved c = tails_more c.args.block.now c.loop-col.col c.loop-col.columns.items _ c.in_ok-behind.field-0 c.loop-col.invariant c.in_ok-push.ensures.items (c.in_ok-behind.ensures.behind ∙ ap behind c.column.ensures.column)
