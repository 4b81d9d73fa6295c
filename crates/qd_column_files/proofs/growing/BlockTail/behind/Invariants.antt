use Rattle.std.proofs.Common.{◌≡◌, map}
use Rattle.std.specs.List.{range_with_len}
use Rattle.qd_block.specs.Blocks.{column_in}
use Rattle.qd_column_format.specs.Tails.{behind}
use Rattle.qd_column_files.proofs.growing.BlockTail.behind.Given as goal

-- the tails of the columns so far
abbrev pub invariant-loop-col : goal.invariant-loop-col
invariant-loop-col l = l.columns.items ≡ map (λ col. behind (column_in l.block col)) (range_with_len 0 l.col)
