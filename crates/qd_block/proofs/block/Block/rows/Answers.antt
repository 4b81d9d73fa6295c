use Rattle.std.proofs.Common.{◌∙◌, ap, sym, length}
use Rattle.qd_block.specs.Blocks.{Block}
use Rattle.qd_block.proofs.RowLemmas.{length-rows_of}
use Rattle.qd_block.proofs.block.Block.rows.Goals as goal

pub returns : goal.returns
returns g c = record { count = sym (length-rows_of c.self.inside.rows c.self.inside.columns.items) ∙ ap (λ (b : Block). length b.rows) c.self.view_is }
