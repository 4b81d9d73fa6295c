use Rattle.std.proofs.Common.{◌∙◌, ◌<◌, ap, length, arith}
use Rattle.std.proofs.lemmas.List.{length-map}
use Rattle.qd_column.specs.Cells.{CellsOf}
use Rattle.qd_block.specs.Blocks.{Block, column_in}
use Rattle.qd_block.proofs.BlockLemmas.{column_shown}
use Rattle.qd_block.proofs.block.Block.column.Goals as goal

pub returns : goal.returns
returns g c =
    let there : c.args.col < length c.self.inside.columns.items = omega (arith, c.requires, ap (λ (b : Block). length b.kinds) c.self.view_is, length-map c.self.inside.columns.items (λ (x : CellsOf). x.kind)) in
    record { column = c.index.ensures ∙ column_shown c.self.inside.rows c.self.inside.time_col c.args.col c.self.inside.columns.items c.index.result.now c.self.invariant there ∙ ap (λ (b : Block). column_in b c.args.col) c.self.view_is }
