use Rattle.qd_block.proofs.BlockLemmas.{time_read}
use Rattle.qd_block.proofs.block.Block.time.Goals as goal

pub returns : goal.returns
returns g c = record { time = λ row got. time_read c.times.result.now c.args.self.now.rows c.args.self.now.time_col c.args.i row c.times.ensures.times c.requires got }
