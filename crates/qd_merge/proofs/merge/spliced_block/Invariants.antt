use Rattle.std.proofs.Common.{◌≡◌, map}
use Rattle.std.specs.List.{range_with_len}
use Rattle.qd_block.specs.Blocks.{column_in}
use Rattle.qd_merge.specs.Merged.{laid_rows}
use Rattle.qd_merge.proofs.merge.spliced_block.Given as goal

-- the columns so far
abbrev pub invariant-loop-col : goal.invariant-loop-col
invariant-loop-col l = l.columns.items ≡ map (column_in (record l.batch { rows = laid_rows l.old l.batch l.runs })) (range_with_len 0 l.col)
