use Rattle.std.proofs.Common.{◌∙◌, ◌<◌, ap, sym, length, map}
use Rattle.qd_base.specs.Rows.{cell_at}
use Rattle.qd_column.specs.Cells.{CellsOf}
use Rattle.qd_block.specs.Blocks.{Block}
use Rattle.qd_block.proofs.OrderLemmas.{AreTimes, are_times}
use Rattle.qd_block.proofs.BlockLemmas.{designated_there, times_shown}
use Rattle.qd_block.proofs.block.Block.times.Goals as goal

pub returns : goal.returns
returns g c =
    let n = c.self.inside.rows in
    let t = c.self.inside.time_col in
    let columns = c.self.inside.columns.items in
    let d = c.index.result.now in
    let there : t < length columns = designated_there columns t c.self.invariant.designated in
    let are : AreTimes n t columns c.times.result.now = are_times n t columns c.times.result.now d there (c.self.invariant.sizes t d there) (ap (λ (x : CellsOf). x.cells) (sym c.index.ensures) ∙ c.times.ensures.cells) c.self.invariant.timed in
    record { times = times_shown n t columns c.times.result.now are ∙ ap (λ (b : Block). map (λ r. cell_at r b.time_col) b.rows) c.self.view_is }
