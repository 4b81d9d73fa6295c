use Rattle.std.proofs.Common.{◌∙◌, ap, sym, length}
use Rattle.qd_block.specs.Blocks.{Building}
use Rattle.qd_block.proofs.RowLemmas.{length-rows_of}
use Rattle.qd_block.proofs.builder.Builder.rows.Goals as goal

pub returns : goal.returns
returns g c = record { count = sym (length-rows_of c.self.inside.rows c.self.inside.columns.items) ∙ ap (λ (b : Building). length b.rows) c.self.view_is }
