use Rattle.std.proofs.Common.{subst}
use Rattle.qd_block.specs.Blocks.{IsWhole}
use Rattle.qd_block.proofs.BlockLemmas.{block_is_whole}
use Rattle.qd_block.proofs.block.Block.is_whole.Goals as goal

pub returns : goal.returns
returns g c = record { whole = subst IsWhole c.self.view_is (block_is_whole c.self.inside.rows c.self.inside.time_col c.self.inside.columns.items c.self.invariant) }
